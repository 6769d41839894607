use Rattle.std.proofs.Common.{◌≡◌, map, replicate}
use Rattle.plain_matrix.proofs.dense.zero_row.Given as goal

abbrev pub invariant-loop : goal.invariant-loop
invariant-loop g l = map g.F.PrimeField.value_of l.row.items ≡ replicate l.counter 0
