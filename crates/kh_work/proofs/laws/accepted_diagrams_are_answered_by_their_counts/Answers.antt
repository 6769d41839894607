use Rattle.kh_work.proofs.TextAnswers.{IsAnswer-counts}
use Rattle.kh_work.proofs.laws.accepted_diagrams_are_answered_by_their_counts.Goals as goal

pub returns : goal.returns
returns c = IsAnswer-counts
