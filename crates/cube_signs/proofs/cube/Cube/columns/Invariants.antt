use Rattle.sparse_block.specs.Inside.{entries_in}
use Rattle.cube_signs.specs.Columns.{AreColumns, AreFound}
use Rattle.cube_signs.proofs.cube.Cube.columns.Given as goal

abbrev pub invariant-names : goal.invariant-names
invariant-names l = record {
  columns : AreColumns l.p l.self l.fn.at.i l.fn.at.j l.names l.k (entries_in l.columns.items);
  found : AreFound l.p l.self l.bases l.around.state l.around.outs.items;
}
