use Rattle.kh_work.proofs.AnswerLemmas.{IsAnswer-schedule}
use Rattle.kh_work.proofs.laws.accepted_diagrams_are_answered_by_their_schedule.Goals as goal

pub returns : goal.returns
returns c = IsAnswer-schedule
