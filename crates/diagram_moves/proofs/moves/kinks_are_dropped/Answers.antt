use Rattle.diagram_moves.proofs.DroppedCodes.{IsKept-kink}
use Rattle.diagram_moves.proofs.moves.kinks_are_dropped.Goals as goal

pub returns : goal.returns
returns c = IsKept-kink
