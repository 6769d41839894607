use Rattle.commit_core.proofs.RowsExist.{run-opening}
use Rattle.commit_core.proofs.laws.all_events_have_a_run.Goals as goal

pub returns : goal.returns
returns c = λ p workers code events field is. run-opening p code field is workers events
