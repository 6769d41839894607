use Rattle.std.proofs.Common.{◌≡◌, map, take}
use Rattle.plain_matrix.specs.Inside.{values_of}
use Rattle.plain_matrix.specs.Matrices.{matrix_column}
use Rattle.plain_matrix.proofs.transpose.column_of.Given as goal

abbrev pub invariant-rows : goal.invariant-rows
invariant-rows g l =
    map g.F.PrimeField.value_of l.made.items ≡ matrix_column (values_of g.F.PrimeField.value_of (take l.row-index l.rows)) l.column
