use Rattle.std.proofs.Common.{refl}
use Rattle.morse_drawing.proofs.laws.worked_faults.Goals as goal

pub returns : goal.returns
returns c = record { place = refl; cap = refl; label = refl; twice = refl; slot = refl; first = refl; ends = refl }
