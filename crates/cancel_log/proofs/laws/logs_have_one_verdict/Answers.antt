use Rattle.cancel_log.proofs.OneVerdict.{IsVerdict-one, IsVerdict-some}
use Rattle.cancel_log.proofs.laws.logs_have_one_verdict.Goals as goal

pub returns : goal.returns
returns c = record { some = IsVerdict-some; one = IsVerdict-one }
