use Rattle.kh_work.proofs.VerifyLemmas.{told-table}
use Rattle.kh_work.proofs.commands.verify.reply_to_verify.Goals as goal

pub returns-in-Ok : goal.returns-in-Ok
returns-in-Ok c = told-table c.reply_to_proof.result c.args.text.now _ c.in-Ok.ensures.verdict c.reply_to_proof.ensures
