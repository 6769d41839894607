use Rattle.std.proofs.Common.{◌≡◌, take}
use Rattle.plain_matrix.specs.Inside.{values_of}
use Rattle.plain_matrix.proofs.elimination.copied_rows.Given as goal

abbrev pub invariant-rows : goal.invariant-rows
invariant-rows g l = values_of g.F.PrimeField.value_of l.made.items ≡ values_of g.F.PrimeField.value_of (take l.row-index l.rows)
