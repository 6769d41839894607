use Rattle.std.proofs.Common.{sym}
use Rattle.kh_runs.proofs.SourceAnswers.{AnswersSource-blind}
use Rattle.kh_work.specs.Answer.{IsInputReply}
use Rattle.kh_work.proofs.AnswerLemmas.{AnswersOrder-long}
use Rattle.kh_work.proofs.answer.reply_to_order.Goals as goal

pub returns-in_ok-reply_to_bytes-in-None-clause-answered : goal.returns-in_ok-reply_to_bytes-in-None-clause-answered
returns-in_ok-reply_to_bytes-in-None-clause-answered g c =
    AnswersSource-blind (IsInputReply c.args.order) (g.S.Source.left c.args.source.now) _ (c.in_ok-reply_to_bytes-in-None.ensures.blind (sym c.in-None.ensures))

pub returns-in-Refused-clause-answered : goal.returns-in-Refused-clause-answered
returns-in-Refused-clause-answered g c =
    let refused = rw c.in-Refused.is at c.in_ok-bytes-in-Some.ensures.input in
    AnswersOrder-long c.args.order (g.S.Source.left c.args.source.now) c.in-Refused.reply c.in-Some.limit (sym c.in-Some.ensures) refused.0
    refused.1
