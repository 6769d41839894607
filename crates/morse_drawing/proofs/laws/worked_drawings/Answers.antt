use Rattle.std.proofs.Common.{refl}
use Rattle.morse_drawing.proofs.laws.worked_drawings.Goals as goal

pub returns : goal.returns
returns c = record { curl = refl; trefoil = refl; leftmost = refl }
