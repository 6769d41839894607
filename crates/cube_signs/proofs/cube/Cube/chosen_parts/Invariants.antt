use Rattle.sparse_block.specs.Inside.{lines_in}
use Rattle.cube_signs.specs.Chosen.{has_minus}
use Rattle.cube_signs.proofs.ChosenColumns.{AreChosenColumns}
use Rattle.cube_signs.proofs.cube.Cube.chosen_parts.Given as goal

abbrev pub invariant-degrees : goal.invariant-degrees
invariant-degrees l = AreChosenColumns (has_minus l.circles) l.p l.self l.lowest.j l.k (lines_in l.columns.items)
