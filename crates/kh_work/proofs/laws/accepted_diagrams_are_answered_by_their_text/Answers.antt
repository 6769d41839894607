use Rattle.kh_work.proofs.TextAnswers.{IsAnswer-gauss, IsAnswer-planar, IsAnswer-read_back}
use Rattle.kh_work.proofs.laws.accepted_diagrams_are_answered_by_their_text.Goals as goal

pub returns : goal.returns
returns c = record { planar = IsAnswer-planar; gauss = IsAnswer-gauss; read_back = IsAnswer-read_back }
