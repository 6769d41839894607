use Rattle.cancel_log.proofs.LogsExist.{log-some}
use Rattle.cancel_log.proofs.laws.diagrams_have_logs.Goals as goal

pub returns : goal.returns
returns c = log-some
