use Rattle.std.proofs.Common.{take}
use Rattle.union_laws.specs.UnitedRows.{rows_product}
use Rattle.tangle_scan.specs.Grids.{AreRaised}
use Rattle.tangle_scan.proofs.scanning.products.Grid.add_products.Given as goal

abbrev pub invariant-rows : goal.invariant-rows
invariant-rows l = AreRaised (rows_product (take l.row-index l.first) l.second) l.initial.self l.self
