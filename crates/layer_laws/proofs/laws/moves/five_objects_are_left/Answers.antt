use Rattle.layer_laws.proofs.Slides.{five-left}
use Rattle.layer_laws.proofs.laws.moves.five_objects_are_left.Goals as goal

pub returns : goal.returns
returns c = five-left
