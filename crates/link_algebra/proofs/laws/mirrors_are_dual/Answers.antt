use Rattle.link_algebra.proofs.TurnedCodes.{mirror-dimension, small_prime-inverses}
use Rattle.link_algebra.proofs.laws.mirrors_are_dual.Goals as goal

pub returns : goal.returns
returns c = λ p code i j prime holds. mirror-dimension code holds p i j (small_prime-inverses p prime)
