use Rattle.std.proofs.Common.{ℕ, Err, ap, sym, subst}
use Rattle.link_algebra.specs.Unions.{IsUnionFault}
use Rattle.link_algebra.specs.declared.fault.UnionFault.TheVariants.{Crossings, Loops}
use Rattle.kh_replies.proofs.UnionReplies.{union_reply-crossings, union_reply-loops, union_reply-made}
use Rattle.kh_replies.proofs.union.reply_to_pair.Goals as goal

pub returns-in-Ok : goal.returns-in-Ok
returns-in-Ok c =
    union_reply-made c.reply_to_convert.result c.args.first.now c.args.second.now c.in-Ok.diagram c.in-Ok.ensures.code c.in-Ok.ensures.fault
    c.reply_to_convert.ensures

pub returns-in-Err-Crossings : goal.returns-in-Err-Crossings
returns-in-Err-Crossings c =
    let told = (c.in-Err-Crossings.ensures.fault (Crossings c.in-Err-Crossings.count)).0 (ap Err c.in-Err-Crossings.field-0-is) in
    union_reply-crossings c.too_many_crossings.result c.args.first.now c.args.second.now c.into.result
    (subst (λ (n : ℕ). IsUnionFault c.args.first.now c.args.second.now (Crossings n)) (sym c.into.ensures) told)
    c.too_many_crossings.ensures

pub returns-in-Err-Loops : goal.returns-in-Err-Loops
returns-in-Err-Loops c =
    let told = (c.in-Err-Loops.ensures.fault (Loops c.in-Err-Loops.count)).0 (ap Err c.in-Err-Loops.field-0-is) in
    union_reply-loops c.too_many_loops.result c.args.first.now c.args.second.now c.into-in-Err-Loops.result
    (subst (λ (n : ℕ). IsUnionFault c.args.first.now c.args.second.now (Loops n)) (sym c.into-in-Err-Loops.ensures) told)
    c.too_many_loops.ensures
