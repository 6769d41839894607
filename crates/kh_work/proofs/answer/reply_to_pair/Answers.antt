use Rattle.std.proofs.Common.{sym, subst}
use Rattle.kh_runs.specs.Replies.{Reply}
use Rattle.kh_inputs.specs.DiagramReplies.{IsDiagramReply}
use Rattle.kh_work.specs.Union.{IsUnionReply}
use Rattle.kh_work.proofs.ReplyLemmas.{IsDiagramReply-read, IsDiagramReply-refused}
use Rattle.kh_work.proofs.answer.reply_to_pair.Goals as goal

pub returns-in-Ok : goal.returns-in-Ok
returns-in-Ok c =
    IsDiagramReply-read c.reply_to_union.result (λ code. IsUnionReply code c.args.second.now) c.args.text.now
    c.in-Ok.diagram c.in-Ok.ensures.diagram c.reply_to_union.ensures

pub returns-in-Err-Refused : goal.returns-in-Err-Refused
returns-in-Err-Refused c =
    let refused = rw c.in-Err-Refused.field-0-is at c.in-Err-Refused.ensures.refused in
    let P : Reply → Type 0 = IsDiagramReply (λ code. IsUnionReply code c.args.second.now) c.args.text.now in
    subst P (sym c.in-Err-Refused.reply-is)
    (IsDiagramReply-refused (λ code. IsUnionReply code c.args.second.now) c.args.text.now _ refused)
