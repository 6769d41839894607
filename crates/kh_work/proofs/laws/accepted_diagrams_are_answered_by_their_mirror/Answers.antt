use Rattle.kh_work.proofs.TurnAnswers.{IsAnswer-mirror, IsAnswer-reverse}
use Rattle.kh_work.proofs.laws.accepted_diagrams_are_answered_by_their_mirror.Goals as goal

pub returns : goal.returns
returns c = record { mirrored = IsAnswer-mirror; reversed = IsAnswer-reverse }
