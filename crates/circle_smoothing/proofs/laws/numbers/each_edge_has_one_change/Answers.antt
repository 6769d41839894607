use Rattle.circle_smoothing.proofs.EdgeNumbers.{one_edge, some_edge}
use Rattle.circle_smoothing.proofs.laws.numbers.each_edge_has_one_change.Goals as goal

pub returns-clause-some : goal.returns-clause-some
returns-clause-some c = some_edge

pub returns-clause-one : goal.returns-clause-one
returns-clause-one c = one_edge
