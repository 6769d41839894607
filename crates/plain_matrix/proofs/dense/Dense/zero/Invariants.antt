use Rattle.std.proofs.Common.{◌≡◌, replicate}
use Rattle.plain_matrix.specs.Inside.{values_of}
use Rattle.plain_matrix.proofs.dense.Dense.zero.Given as goal

abbrev pub invariant-loop : goal.invariant-loop
invariant-loop g l = values_of g.F.PrimeField.value_of l.made.items ≡ replicate l.counter (replicate l.columns 0)
