use Rattle.std.proofs.Common.{◌≡◌, take}
use Rattle.std.specs.List.{sum_by}
use Rattle.homology_tables.proofs.table.Table.total.Given as goal

abbrev pub invariant-rows : goal.invariant-rows
invariant-rows l = l.total ≡ sum_by (λ row. row.dim) (take l.row-index l.rows)
