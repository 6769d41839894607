use Rattle.plain_matrix.proofs.InsideLemmas.{matrix-from_size}
use Rattle.plain_matrix.proofs.dense.matrix_laws.Goals as goal

pub returns-clause-matrix : goal.returns-clause-matrix
returns-clause-matrix g c = rw (← c.matrix.view_is) (matrix-from_size g.F.PrimeField.value_of g.F.PrimeField.P c.matrix.inside.rows.items c.matrix.inside.columns c.element_laws.ensures.below c.element_laws.ensures.field.above_one c.matrix.invariant)
