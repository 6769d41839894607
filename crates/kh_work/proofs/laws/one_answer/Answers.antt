use Rattle.kh_work.proofs.OneAnswer.{IsAnswer-some, IsAnswer-one, IsAnswer-status, IsAnswer-undone}
use Rattle.kh_work.proofs.laws.one_answer.Goals as goal

pub returns : goal.returns
returns c = record { some = IsAnswer-some; one = IsAnswer-one; undone = IsAnswer-undone; status = IsAnswer-status }
