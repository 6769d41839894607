use Rattle.std.proofs.Common.{◌≡◌, take}
use Rattle.std.specs.List.{flat_map}
use Rattle.kh_types.specs.Table.{rows_at}
use Rattle.shared_block.proofs.table.small_table.Given as goal

abbrev pub invariant-degrees : goal.invariant-degrees
invariant-degrees g l = l.rows.items ≡ flat_map (rows_at g.F.PrimeField.P l.diagram) (take l.k l.degrees.items)
