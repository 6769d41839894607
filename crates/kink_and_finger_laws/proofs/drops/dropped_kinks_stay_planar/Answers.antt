use Rattle.std.proofs.lemmas.Bool.Decides.{nat_tests}
use Rattle.std.proofs.Common.{arith}
use Rattle.kink_and_finger_laws.proofs.Sound.{HasKinkAt-found, IsSound-kink}
use Rattle.kink_and_finger_laws.proofs.drops.dropped_kinks_stay_planar.Goals as goal

pub returns : goal.returns
returns c = grind (arith, nat_tests, HasKinkAt-found, IsSound-kink)
