use Rattle.jones_sum.proofs.CoefficientLemmas.{coefficient_in-coefficients_of, polynomial_text-agree, polynomial_text-coefficients_of}
use Rattle.jones_sum.proofs.laws.coefficients_tell_the_polynomial.Goals as goal

pub returns : goal.returns
returns c = record {
  value = coefficient_in-coefficients_of;
  same_text = polynomial_text-agree;
  text = polynomial_text-coefficients_of;
}
