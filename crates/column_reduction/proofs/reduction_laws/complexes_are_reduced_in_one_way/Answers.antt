use Rattle.column_reduction.proofs.Determined.{left-once, pivots-once}
use Rattle.column_reduction.proofs.reduction_laws.complexes_are_reduced_in_one_way.Goals as goal

pub returns-clause-pivots : goal.returns-clause-pivots
returns-clause-pivots c = pivots-once

pub returns-clause-left : goal.returns-clause-left
returns-clause-left c = left-once
