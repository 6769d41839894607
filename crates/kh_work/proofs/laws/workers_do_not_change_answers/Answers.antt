use Rattle.kh_work.proofs.Workers.{IsAnswer-workers}
use Rattle.kh_work.proofs.laws.workers_do_not_change_answers.Goals as goal

pub returns : goal.returns
returns c = IsAnswer-workers
