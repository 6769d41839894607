use Rattle.reduced_cube.proofs.ReducedSums.{euler-product}
use Rattle.reduced_cube.proofs.laws.reduced_euler_characteristic.Goals as goal

pub returns : goal.returns
returns c = euler-product
