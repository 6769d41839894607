use Rattle.kh_work.proofs.ReplyLemmas.{scripted-status}
use Rattle.kh_work.proofs.answer.reply_to_bytes.Goals as goal

pub returns-in-Script-clause-status : goal.returns-in-Script-clause-status
returns-in-Script-clause-status g c =
    scripted-status c.reply_to_texts.result c.in-Script.order c.code_part.result.now c.part_behind.result.now c.reply_to_texts.ensures
