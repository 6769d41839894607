use Rattle.dotted_maps.proofs.MapProducts.{matrix-sum, matrix-multiple, matrix-same}
use Rattle.dotted_maps.proofs.laws.matrices_are_linear.Goals as goal

pub returns : goal.returns
returns c = record { sum = matrix-sum; multiple = matrix-multiple; same = matrix-same }
