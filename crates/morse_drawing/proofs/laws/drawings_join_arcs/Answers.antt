use Rattle.morse_drawing.proofs.Drawn.{joined-slices}
use Rattle.morse_drawing.proofs.laws.drawings_join_arcs.Goals as goal

pub returns : goal.returns
returns c = joined-slices
