use Rattle.answer_laws.proofs.AlikeAnswers.{one-homology, one-polynomial}
use Rattle.answer_laws.proofs.laws.diagrams_of_a_link_are_answered_alike.Goals as goal

pub returns : goal.returns
returns c = record { homology = one-homology; jones = one-polynomial }
