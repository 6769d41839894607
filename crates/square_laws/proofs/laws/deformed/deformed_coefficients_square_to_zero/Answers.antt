use Rattle.square_laws.proofs.DeformedSquares.{deformed-square}
use Rattle.square_laws.proofs.laws.deformed.deformed_coefficients_square_to_zero.Goals as goal

pub returns : goal.returns
returns c = deformed-square
