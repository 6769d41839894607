use Rattle.jones_sum.proofs.CircleLemmas.{circle_coefficient-ways, circle_coefficient-none}
use Rattle.jones_sum.proofs.laws.circles_give_binomial_coefficients.Goals as goal

pub returns : goal.returns
returns c = record { ways = circle_coefficient-ways; none = circle_coefficient-none }
