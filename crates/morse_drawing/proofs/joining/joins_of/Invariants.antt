use Rattle.morse_drawing.proofs.ReadSlices.{IsRead}
use Rattle.morse_drawing.proofs.joining.joins_of.Given as goal

abbrev pub invariant-slices : goal.invariant-slices
invariant-slices l = IsRead l.slices l.place l.ends
