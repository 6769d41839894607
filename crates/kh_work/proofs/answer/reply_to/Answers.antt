use Rattle.std.proofs.Common.{◌∙◌, ap, Err}
use Rattle.kh_runs.proofs.SourceAnswers.{AnswersSource-blind}
use Rattle.kh_work.specs.Answer.{IsAnswer}
use Rattle.kh_work.specs.ByteLimits.{byte_limit}
use Rattle.kh_work.proofs.AnswerLemmas.{IsBlindAnswer-command, IsBlindAnswer-usage, AnswersWords-command, IsReadOut-command, usage_reads_nothing}
use Rattle.kh_work.proofs.answer.reply_to.Goals as goal

pub returns-in-Ok-clause-answered : goal.returns-in-Ok-clause-answered
returns-in-Ok-clause-answered g c =
    AnswersWords-command c.reply_to_order.result _ c.args.words.now c.in-Ok.command c.order_of.result c.in-Ok.ensures.command
    c.order_of.ensures.order c.reply_to_order.ensures.answered

pub returns-in_ok-usage-in-Err-Usage-clause-answered : goal.returns-in_ok-usage-in-Err-Usage-clause-answered
returns-in_ok-usage-in-Err-Usage-clause-answered g c =
    AnswersSource-blind (IsAnswer c.args.words.now) _ _
    (IsBlindAnswer-usage c.args.words.now _ (c.in-Err-Usage.ensures.usage (ap Err c.in-Err-Usage.field-0-is)) c.in_ok-usage-in-Err-Usage.ensures)

pub returns-in_ok-usage-in-Err-Usage-clause-blind : goal.returns-in_ok-usage-in-Err-Usage-clause-blind
returns-in_ok-usage-in-Err-Usage-clause-blind g c =
    λ nothing. IsBlindAnswer-usage c.args.words.now _ (c.in-Err-Usage.ensures.usage (ap Err c.in-Err-Usage.field-0-is)) c.in_ok-usage-in-Err-Usage.ensures

pub returns-in_ok-usage-in-Err-Usage-clause-usage_only : goal.returns-in_ok-usage-in-Err-Usage-clause-usage_only
returns-in_ok-usage-in-Err-Usage-clause-usage_only g c = λ is. c.in-Err-Usage.ensures.usage (ap Err c.in-Err-Usage.field-0-is)

pub returns-in_ok-usage-in-Err-Usage-clause-read_out : goal.returns-in_ok-usage-in-Err-Usage-clause-read_out
returns-in_ok-usage-in-Err-Usage-clause-read_out g c =
    λ limit reads. usage_reads_nothing c.args.words.now limit (c.in-Err-Usage.ensures.usage (ap Err c.in-Err-Usage.field-0-is)) reads

pub returns-in-Ok-clause-blind : goal.returns-in-Ok-clause-blind
returns-in-Ok-clause-blind g c =
    λ nothing. IsBlindAnswer-command c.reply_to_order.result c.args.words.now c.in-Ok.command c.order_of.result c.in-Ok.ensures.command
    c.order_of.ensures.order
    (c.reply_to_order.ensures.blind (ap byte_limit c.order_of.ensures.order ∙ nothing c.in-Ok.command c.in-Ok.ensures.command))

pub returns-in-Ok-clause-unread : goal.returns-in-Ok-clause-unread
returns-in-Ok-clause-unread g c =
    λ nothing. c.reply_to_order.ensures.unread
    (ap byte_limit c.order_of.ensures.order ∙ nothing c.in-Ok.command c.in-Ok.ensures.command)

pub returns-in-Ok-clause-read_out : goal.returns-in-Ok-clause-read_out
returns-in-Ok-clause-read_out g c =
    IsReadOut-command c.reply_to_order.result c.args.words.now c.in-Ok.command c.order_of.result _ _ c.in-Ok.ensures.command
    c.order_of.ensures.order c.reply_to_order.ensures.read_out
