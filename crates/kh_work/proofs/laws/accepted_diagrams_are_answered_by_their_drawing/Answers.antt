use Rattle.kh_work.proofs.TurnAnswers.{IsAnswer-drawing}
use Rattle.kh_work.proofs.laws.accepted_diagrams_are_answered_by_their_drawing.Goals as goal

pub returns : goal.returns
returns c = IsAnswer-drawing
