use Rattle.link_algebra.proofs.TurnedCodes.{reversal-circles, reversal-dimension, reversal-sum, small_prime-inverses}
use Rattle.link_algebra.proofs.laws.reversals_keep_homology.Goals as goal

pub returns-clause-circles : goal.returns-clause-circles
returns-clause-circles c = λ code state holds below. reversal-circles code holds state below

pub returns-clause-sums : goal.returns-clause-sums
returns-clause-sums c = λ code exponent holds. reversal-sum code holds exponent

pub returns-clause-dimensions : goal.returns-clause-dimensions
returns-clause-dimensions c = λ p code i j prime holds. reversal-dimension code holds p i j (small_prime-inverses p prime)
