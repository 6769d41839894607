use Rattle.std.proofs.Common.{◌≡◌}
use Rattle.std.specs.List.{flat_map}
use Rattle.kh_types.specs.Table.{rows_at}
use Rattle.plain_table.proofs.TableLemmas.{from_minus_to}
use Rattle.plain_table.proofs.table.rows.Given as goal

abbrev pub invariant-degrees : goal.invariant-degrees
invariant-degrees g l = l.made.items ≡ flat_map (rows_at g.F.PrimeField.P l.cube.diagram) (from_minus_to l.most l.k)
