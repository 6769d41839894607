use Rattle.std.proofs.Common.{sym, subst, Err}
use Rattle.kh_runs.specs.Replies.{Reply}
use Rattle.kh_inputs.specs.Inputs.{IsDiagramRead}
use Rattle.kh_work.proofs.UnionReadings.{IsUnionReply-read, IsUnionReply-refused}
use Rattle.kh_work.proofs.commands.union.reply_to_union.Goals as goal

pub returns-in-Ok : goal.returns-in-Ok
returns-in-Ok c =
    IsUnionReply-read c.reply_to_pair.result c.args.first.now c.args.text.now c.in-Ok.second c.in-Ok.ensures.diagram c.reply_to_pair.ensures

pub returns-in-Err-Refused : goal.returns-in-Err-Refused
returns-in-Err-Refused c =
    let refused = rw c.in-Err-Refused.field-0-is at c.in-Err-Refused.ensures.refused in
    let P : Reply → Type 0 = λ reply. IsDiagramRead c.args.text.now (Err reply) in
    IsUnionReply-refused c.second_refused.result c.args.first.now c.args.text.now c.in-Err-Refused.reply
    (subst P (sym c.in-Err-Refused.reply-is) refused) c.second_refused.ensures
