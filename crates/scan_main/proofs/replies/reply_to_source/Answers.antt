use Rattle.std.proofs.Common.{inl}
use Rattle.kh_types.specs.declared.limits.TheConstants.{INPUT_BYTES}
use Rattle.kh_runs.proofs.SourceAnswers.{AnswersSource-long}
use Rattle.line_answers.specs.Scans.{IsScanReply}
use Rattle.scan_main.proofs.replies.reply_to_source.Goals as goal

pub returns-in-Refused-clause-answered : goal.returns-in-Refused-clause-answered
returns-in-Refused-clause-answered g c =
    let refused = rw c.in-Refused.is at c.in_ok-bytes.ensures.input in
    AnswersSource-long (IsScanReply c.args.field) (g.S.Source.left c.args.source.now) c.in-Refused.reply INPUT_BYTES refused.1
    (λ bytes more. inl (more, refused.0))
