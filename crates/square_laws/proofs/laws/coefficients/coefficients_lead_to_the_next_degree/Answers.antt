use Rattle.square_laws.proofs.Degrees.{coefficient-next}
use Rattle.square_laws.proofs.laws.coefficients.coefficients_lead_to_the_next_degree.Goals as goal

pub returns : goal.returns
returns c = coefficient-next
