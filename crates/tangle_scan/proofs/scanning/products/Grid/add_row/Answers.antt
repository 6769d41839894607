use Rattle.std.proofs.Common.{ap, arith, take}
use Rattle.std.proofs.lemmas.List.Sums.{sum_by_more_le}
use Rattle.union_laws.specs.UnitedRows.{row_product}
use Rattle.tangle_scan.specs.Grids.{pair_dims, row_dims}
use Rattle.tangle_scan.proofs.GridLemmas.{room-left}
use Rattle.tangle_scan.proofs.scanning.products.Grid.add_row.Goals as goal

pub add_pair-requires : goal.add_pair-requires
add_pair-requires c =
    let others = c.args.others.now in
    let k = c.others.other-index in
    room-left (row_dims c.args.row others) (row_dims c.args.row (take k others)) (pair_dims c.args.row c.other-item.result)
    c.args.self.now c.others.self c.requires c.others.invariant (λ i j.
    omega (
      arith,
      ap (row_product i j c.args.row) c.other-item.is,
      sum_by_more_le (row_product i j c.args.row) others k c.other-item.result c.others-test.true,
    ))
