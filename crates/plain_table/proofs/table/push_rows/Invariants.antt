use Rattle.std.proofs.Common.{◌≡◌, ◌++◌, map}
use Rattle.std.specs.List.{filter}
use Rattle.kh_types.specs.Table.{row_at}
use Rattle.kh_types.specs.Table.{is_shown}
use Rattle.plain_table.proofs.TableLemmas.{from_minus_to}
use Rattle.plain_table.proofs.table.push_rows.Given as goal

abbrev pub invariant-degrees : goal.invariant-degrees
invariant-degrees g l =
    l.made.items
    ≡ l.initial.made.items ++ filter is_shown (map (row_at g.F.PrimeField.P l.cube.diagram l.j) (from_minus_to l.most l.k))
