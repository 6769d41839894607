use Rattle.sparse_block.specs.Inside.{lines_in}
use Rattle.cube_signs.specs.Columns.{AreAllColumns}
use Rattle.cube_signs.proofs.cube.Cube.all_columns.Given as goal

abbrev pub invariant-degrees : goal.invariant-degrees
invariant-degrees l = AreAllColumns l.p l.self l.fn.least.i l.fn.least.j l.k (lines_in l.columns.items)
