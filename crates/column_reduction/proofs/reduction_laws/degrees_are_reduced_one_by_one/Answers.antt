use Rattle.std.proofs.Common.{refl}
use Rattle.column_reduction.proofs.Chains.{degree-above, reduced-longer}
use Rattle.column_reduction.proofs.reduction_laws.degrees_are_reduced_one_by_one.Goals as goal

pub returns-clause-none : goal.returns-clause-none
returns-clause-none c = λ p complex i. refl

pub returns-clause-longer : goal.returns-clause-longer
returns-clause-longer c = reduced-longer

pub returns-clause-above : goal.returns-clause-above
returns-clause-above c = degree-above
