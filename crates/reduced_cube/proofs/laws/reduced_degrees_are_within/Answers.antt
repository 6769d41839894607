use Rattle.reduced_cube.proofs.ReducedSums.{reduced-outside}
use Rattle.reduced_cube.proofs.laws.reduced_degrees_are_within.Goals as goal

pub returns : goal.returns
returns c = reduced-outside
