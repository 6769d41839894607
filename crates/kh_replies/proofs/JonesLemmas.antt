-- The coefficients of the state sum within the exponents give the Jones line.
use Rattle.std.proofs.Common.{◌≡◌, ℕ, List, ◌∙◌, ap}
use Rattle.std.specs.Prelude.{ℤ}
use Rattle.kh_types.specs.Code.{Code}
use Rattle.kh_types.specs.StateSum.{polynomial_text, state_sum}
use Rattle.jones_sum.specs.Coefficients.{coefficient_in, coefficients_of}
use Rattle.jones_sum.proofs.CoefficientLemmas.{polynomial_text-coefficients_of}
use Rattle.kh_runs.specs.Homology.{jones_line}

-- the text of a polynomial with these coefficients is the line
pub line_of_sum : (code : Code) (polynomial : List ℤ) (text : List ℕ) → polynomial ≡ coefficients_of (state_sum code)
    → text ≡ polynomial_text (coefficient_in polynomial) → text ≡ jones_line code
unfolding jones_line
line_of_sum code polynomial text is_sum is_text =
    is_text ∙ ap (λ coefficients. polynomial_text (coefficient_in coefficients)) is_sum
    ∙ polynomial_text-coefficients_of (state_sum code)
