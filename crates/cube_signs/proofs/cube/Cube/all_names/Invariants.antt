use Rattle.std.proofs.Common.{◌≡◌}
use Rattle.sparse_block.specs.Inside.{lists_in}
use Rattle.cube_signs.specs.Columns.{generators_from}
use Rattle.cube_signs.proofs.cube.Cube.all_names.Given as goal

abbrev pub invariant-degrees : goal.invariant-degrees
invariant-degrees l = lists_in l.names.items ≡ generators_from l.self l.fn.least.i l.fn.least.j l.k
