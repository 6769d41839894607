use Rattle.std.proofs.Common.{refl}
use Rattle.link_algebra.proofs.TurnedCodes.{small_prime-inverses}
use Rattle.link_algebra.proofs.Twice.{mirror-alike, mirror-twice_dimension, mirror-twice_signs, mirror-twice_sum}
use Rattle.link_algebra.proofs.laws.twice.mirrors_come_back.Goals as goal

pub returns-clause-crossings : goal.returns-clause-crossings
returns-clause-crossings c = mirror-alike

pub returns-clause-loops : goal.returns-clause-loops
returns-clause-loops c = λ code. refl

pub returns-clause-signs : goal.returns-clause-signs
returns-clause-signs c = λ code crossing holds is. mirror-twice_signs code holds crossing is

pub returns-clause-sums : goal.returns-clause-sums
returns-clause-sums c = λ code exponent holds. mirror-twice_sum code holds exponent

pub returns-clause-dimensions : goal.returns-clause-dimensions
returns-clause-dimensions c = λ p code i j prime holds. mirror-twice_dimension code holds p i j (small_prime-inverses p prime)
