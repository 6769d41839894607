use Rattle.std.proofs.Common.{sym, subst}
use Rattle.kh_runs.specs.Replies.{Reply}
use Rattle.line_answers.specs.Scans.{IsTextReply}
use Rattle.scan_main.proofs.ScanRuns.{IsDiagramReply-refused, IsDiagramReply-scanned}
use Rattle.scan_main.proofs.replies.reply_to_bytes.Goals as goal

pub returns-in-Ok-clause-reply : goal.returns-in-Ok-clause-reply
returns-in-Ok-clause-reply c =
    IsDiagramReply-scanned c.reply_to_diagram.result c.args.field c.args.bytes.now c.in-Ok.diagram c.in-Ok.ensures.diagram c.reply_to_diagram.ensures

pub returns-in-Err-Refused-clause-reply : goal.returns-in-Err-Refused-clause-reply
returns-in-Err-Refused-clause-reply c =
    let refused = rw c.in-Err-Refused.field-0-is at c.in-Err-Refused.ensures.refused in
    let P : Reply → Type 0 = λ reply. IsTextReply c.args.field c.args.bytes.now reply in
    subst P (sym c.in-Err-Refused.reply-is) (IsDiagramReply-refused c.args.field c.args.bytes.now _ refused)
