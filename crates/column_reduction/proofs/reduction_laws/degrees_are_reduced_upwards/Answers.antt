use Rattle.column_reduction.proofs.Ends.{below-low, below-next, zero-below}
use Rattle.column_reduction.proofs.reduction_laws.degrees_are_reduced_upwards.Goals as goal

pub returns-clause-first : goal.returns-clause-first
returns-clause-first c = below-low

pub returns-clause-next : goal.returns-clause-next
returns-clause-next c = below-next

pub returns-clause-zero : goal.returns-clause-zero
returns-clause-zero c = zero-below
