use Rattle.morse_drawing.proofs.TextLemmas.{cells-count}
use Rattle.morse_drawing.proofs.laws.lines_have_a_cell_for_each_strand.Goals as goal

pub returns : goal.returns
returns c = cells-count
