use Rattle.std.proofs.Common.{take}
use Rattle.tangle_scan.specs.Grids.{AreRaised, row_dims}
use Rattle.tangle_scan.proofs.scanning.products.Grid.add_row.Given as goal

abbrev pub invariant-others : goal.invariant-others
invariant-others l = AreRaised (row_dims l.row (take l.other-index l.others)) l.initial.self l.self
