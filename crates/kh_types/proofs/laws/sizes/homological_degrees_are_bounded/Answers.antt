use Rattle.kh_types.proofs.QuantumDegrees.{homological_degree-within}
use Rattle.kh_types.proofs.laws.sizes.homological_degrees_are_bounded.Goals as goal

pub returns : goal.returns
returns c = homological_degree-within
