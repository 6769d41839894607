use Rattle.std.proofs.Common.{length}
use Rattle.link_algebra.proofs.Flips.{bit-flipped}
use Rattle.link_algebra.proofs.TurnedCodes.{mirror-circles, mirror-sum}
use Rattle.link_algebra.proofs.laws.mirrors_exchange_smoothings.Goals as goal

pub returns-clause-other : goal.returns-clause-other
returns-clause-other c = λ code state k below within. bit-flipped (length code.crossings) state k below within

pub returns-clause-circles : goal.returns-clause-circles
returns-clause-circles c = λ code state holds below. mirror-circles code holds state below

pub returns-clause-sums : goal.returns-clause-sums
returns-clause-sums c = λ code exponent holds. mirror-sum code holds exponent
