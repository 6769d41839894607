use Rattle.std.proofs.Common.{◌≡◌, ◌++◌, ◌∙◌, List, ℕ, ℤ, pos, ◌-ℤ◌, ap, sym, arith, to_z, of_z}
use Rattle.std.proofs.lemmas.Int.{ints}
use mir.Syntax.{w16}
use Rattle.kh_types.specs.declared.limits.TheConstants.{EXPONENT}
use Rattle.jones_sum.specs.declared.laurent.TheConstants.{COEFFICIENTS}
use Rattle.jones_sum.specs.Coefficients.{coefficient_in}
use Rattle.jones_sum.specs.Terms.{text_at}
use Rattle.jones_sum.proofs.TermTexts.{text_to, text_to-more, text_to-terms}
use Rattle.jones_sum.proofs.jones_line.terms_of.Goals as goal

pub places-preserved : goal.places-preserved
places-preserved c =
    let polynomial = coefficient_in c.args.polynomial.now in
    let place = c.places.place in
    let exponent = to_z w16 (of_z w16 c.exponent_at.result) in
    let is_exponent : exponent ≡ pos place -ℤ pos EXPONENT = omega (arith, ints) in
    c.in_ok-push_term.ensures ∙ ap (λ (text : List ℕ). text ++ text_at polynomial exponent) c.places.invariant
    ∙ ap (λ (e : ℤ). text_to polynomial place ++ text_at polynomial e) is_exponent
    ∙ sym (text_to-more polynomial place)

pub returns : goal.returns
returns c =
    let polynomial = coefficient_in c.args.polynomial.now in
    let all : c.places.place ≡ COEFFICIENTS = omega arith in
    c.places.invariant ∙ ap (text_to polynomial) all ∙ text_to-terms polynomial
