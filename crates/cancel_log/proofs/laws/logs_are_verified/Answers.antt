use Rattle.cancel_log.proofs.WholeLogs.{log-verified}
use Rattle.cancel_log.proofs.laws.logs_are_verified.Goals as goal

pub returns : goal.returns
returns c = log-verified
