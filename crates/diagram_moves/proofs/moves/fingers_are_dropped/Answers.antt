use Rattle.diagram_moves.proofs.DroppedCodes.{IsKept-finger}
use Rattle.diagram_moves.proofs.moves.fingers_are_dropped.Goals as goal

pub returns : goal.returns
returns c = IsKept-finger
