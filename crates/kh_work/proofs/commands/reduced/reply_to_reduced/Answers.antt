use Rattle.std.proofs.Common.{ap, refl, ◌∙◌}
use Rattle.std.proofs.lemmas.Result.{IfOk-weaker}
use Rattle.std.proofs.lemmas.Bool.{lt-ltb, le-ltb}
use Rattle.circle_smoothing.specs.GeneratorCounts.{generator_count}
use Rattle.circle_smoothing.specs.declared.limits.TheConstants.{GENERATORS}
use Rattle.kh_runs.specs.Refusals.{refused_mark}
use Rattle.kh_replies.specs.Limits.{too_many_generators}
use Rattle.kh_work.proofs.ReducedLemmas.{reduced_reply-large, reduced_reply-made, reduced_reply-unmarked}
use Rattle.kh_work.proofs.commands.reduced.reply_to_reduced.Goals as goal

pub returns-in-Ok : goal.returns-in-Ok
returns-in-Ok c =
    reduced_reply-made c.reply_with_mark.result c.args.field c.args.mark c.args.diagram.now c.in-Ok.table c.in-Ok.ensures.table
    (c.in-Ok.ensures.mark refl) (le-ltb GENERATORS (generator_count c.args.diagram.now) (c.in-Ok.ensures.size refl))
    c.reply_with_mark.ensures

pub returns-in-Err-Mark : goal.returns-in-Err-Mark
returns-in-Err-Mark c =
    let stop = rw c.in-Err-Mark.field-0-is at c.in-Err-Mark.ensures.stop in
    IfOk-weaker c.refused_mark.result _ _ (λ reply is. is ∙ ap refused_mark stop.1
    ∙ reduced_reply-unmarked c.args.field c.args.mark c.args.diagram.now stop.0) c.refused_mark.ensures

pub returns-in-Err-SizeLimit : goal.returns-in-Err-SizeLimit
returns-in-Err-SizeLimit c =
    let stop = rw c.in-Err-SizeLimit.field-0-is at c.in-Err-SizeLimit.ensures.stop in
    IfOk-weaker c.too_many_generators.result _ _ (λ reply is. is ∙ ap too_many_generators stop.2
    ∙ reduced_reply-large c.args.field c.args.mark c.args.diagram.now stop.0
    (lt-ltb GENERATORS (generator_count c.args.diagram.now) stop.1)) c.too_many_generators.ensures
