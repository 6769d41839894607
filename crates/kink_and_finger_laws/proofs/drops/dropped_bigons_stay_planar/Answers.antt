use Rattle.std.proofs.lemmas.Bool.Decides.{nat_tests}
use Rattle.std.proofs.Common.{arith}
use Rattle.kink_and_finger_laws.proofs.Sound.{HasBigonAt-found, IsSound-finger}
use Rattle.kink_and_finger_laws.proofs.drops.dropped_bigons_stay_planar.Goals as goal

pub returns : goal.returns
returns c = grind (arith, nat_tests, HasBigonAt-found, IsSound-finger)
