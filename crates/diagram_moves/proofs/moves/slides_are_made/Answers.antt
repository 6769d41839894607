use Rattle.diagram_moves.proofs.SlidCodes.{IsKept-slid}
use Rattle.diagram_moves.proofs.moves.slides_are_made.Goals as goal

pub returns : goal.returns
returns c = IsKept-slid
