use Rattle.column_reduction.proofs.Commuting.{cancel-swapped, first-later, second-alone}
use Rattle.column_reduction.proofs.reduction_laws.cancellations_in_two_degrees_commute.Goals as goal

pub returns-clause-greater : goal.returns-clause-greater
returns-clause-greater c = second-alone

pub returns-clause-less : goal.returns-clause-less
returns-clause-less c = first-later

pub returns-clause-same : goal.returns-clause-same
returns-clause-same c = cancel-swapped
