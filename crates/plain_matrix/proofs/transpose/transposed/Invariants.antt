use Rattle.std.proofs.Common.{◌≡◌}
use Rattle.plain_matrix.specs.Inside.{values_of}
use Rattle.plain_matrix.specs.Matrices.{transposed_rows}
use Rattle.plain_matrix.proofs.transpose.transposed.Given as goal

abbrev pub invariant-loop-column : goal.invariant-loop-column
invariant-loop-column g l =
    values_of g.F.PrimeField.value_of l.made.items
    ≡ transposed_rows l.column (values_of g.F.PrimeField.value_of l.rows)
