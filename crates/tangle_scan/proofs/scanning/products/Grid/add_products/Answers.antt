use Rattle.std.proofs.Common.{ap, arith, take}
use Rattle.std.proofs.lemmas.List.Sums.{sum_by_more_le}
use Rattle.kh_types.specs.Table.{Row}
use Rattle.union_laws.specs.UnitedRows.{rows_product}
use Rattle.tangle_scan.specs.Grids.{row_dims}
use Rattle.tangle_scan.proofs.GridLemmas.{room-left}
use Rattle.tangle_scan.proofs.scanning.products.Grid.add_products.Goals as goal

pub add_row-requires : goal.add_row-requires
add_row-requires c =
    let first = c.args.first.now in
    let second = c.args.second.now in
    let k = c.rows.row-index in
    room-left (rows_product first second) (rows_product (take k first) second) (row_dims c.row-item.result second)
    c.args.self.now c.rows.self c.requires c.rows.invariant (λ i j.
    let dims = λ (row : Row). row_dims row second i j in
    omega (arith, ap dims c.row-item.is, sum_by_more_le dims first k c.row-item.result c.rows-test.true))
