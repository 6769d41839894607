use Rattle.square_laws.proofs.PlainSquares.{product_sum-zero}
use Rattle.square_laws.proofs.laws.coefficients.coefficients_square_to_zero.Goals as goal

pub returns : goal.returns
returns c = product_sum-zero
