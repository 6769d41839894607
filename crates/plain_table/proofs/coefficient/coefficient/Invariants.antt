use Rattle.std.proofs.Common.{◌≡◌}
use Rattle.std.specs.List.{sum_by, range_with_len}
use Rattle.kh_types.specs.Differential.{coefficient_at}
use Rattle.plain_table.proofs.coefficient.coefficient.Given as goal

abbrev pub invariant-crossings : goal.invariant-crossings
invariant-crossings g l =
    g.F.PrimeField.value_of l.sum
    ≡ sum_by (coefficient_at g.F.PrimeField.P l.diagram l.tail l.head) (range_with_len 1 l.place)
