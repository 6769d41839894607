use Rattle.kh_work.proofs.AnswerLemmas.{IsAnswer-table}
use Rattle.kh_work.proofs.laws.accepted_diagrams_are_answered_by_their_table.Goals as goal

pub returns : goal.returns
returns c = IsAnswer-table
