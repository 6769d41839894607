use Rattle.kh_work.proofs.AnswerLemmas.{IsAnswer-bench, IsAnswer-large}
use Rattle.kh_work.proofs.laws.numbers_are_answered_by_their_table.Goals as goal

pub returns : goal.returns
returns c = record { table = IsAnswer-bench; limit = IsAnswer-large }
