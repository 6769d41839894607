use Rattle.std.proofs.Common.{refl}
use Rattle.column_reduction.proofs.WorkedLemmas.{complex-three_rows, reduced-four}
use Rattle.column_reduction.proofs.reduction_laws.three_rows_are_reduced.Goals as goal

pub returns-clause-complex : goal.returns-clause-complex
returns-clause-complex c = complex-three_rows

pub returns-clause-reduced : goal.returns-clause-reduced
returns-clause-reduced c = reduced-four

pub returns-clause-zero : goal.returns-clause-zero
returns-clause-zero c = refl
