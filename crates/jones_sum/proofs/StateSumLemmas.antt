-- The state sum has no coefficients outside of the exponents.
use Rattle.std.proofs.Common.{◌≡◌, ℕ, ◌+◌, ◌-◌, ◌*◌, ◌≤◌, ◌∙◌, List, [], ◌∷◌, map, length, ap, refl, arith, ℤ, pos, ◌+ℤ◌, ◌-ℤ◌}
use Rattle.std.proofs.lemmas.Int.{ints}
use Rattle.kh_types.specs.declared.limits.TheConstants.{CROSSINGS, EXPONENT}
use Rattle.kh_types.specs.Code.{Code}
use Rattle.kh_types.specs.Accepted.{IsAccepted}
use Rattle.kh_types.specs.Circles.{circle_count}
use Rattle.kh_types.specs.Directions.{plus_count, minus_count}
use Rattle.kh_types.specs.Generators.{one_count, states}
use Rattle.kh_types.specs.StateSum.{int_sum, signed_by, circle_coefficient, term_of, state_term, state_sum}
use Rattle.kh_types.specs.Table.{IsWithin}
use Rattle.kh_types.proofs.CircleBound.{circle_count-within}
use Rattle.kh_types.proofs.QuantumDegrees.{IsWithin-place, one_count-le, plus_count-le}
use Rattle.jones_sum.proofs.CircleLemmas.{circle_coefficient-none}
use Rattle.kh_types.proofs.AlternatingSums.{signed_by-zero}

int_sum-none : (f : ℕ → ℤ) (xs : List ℕ) → ((x : ℕ) → f x ≡ pos 0) → int_sum (map f xs) ≡ pos 0
int_sum-none f [] none = refl
int_sum-none f (x ∷ xs) none =
    ap (λ (z : ℤ). z +ℤ int_sum (map f xs)) (none x) ∙ ap (λ (z : ℤ). pos 0 +ℤ z) (int_sum-none f xs none)

-- a term has exponents in size at most the number of circles and two for each crossing
term_of-outside : (n r plus minus circles most : ℕ) (exponent : ℤ) → r ≤ n → plus ≤ n → minus ≡ n - plus
    → circles + 2 * n ≤ most → (IsWithin most exponent → ⊥) → term_of plus minus exponent r circles ≡ pos 0
term_of-outside n r plus minus circles most exponent low some rest fits outside =
    let shifted = (exponent -ℤ pos (r + plus)) +ℤ pos (2 * minus) in
    let degree = pos r -ℤ pos minus in
    let none : circle_coefficient circles shifted ≡ 0 =
    circle_coefficient-none circles shifted
    (λ chosen within is. outside
    (IsWithin-place most (2 * chosen + most + r + plus - (circles + 2 * minus)) exponent (omega arith) (omega (arith, ints, is)))) in
    ap (signed_by degree) none ∙ signed_by-zero degree

pub state_sum-outside : (code : Code) (exponent : ℤ) → IsAccepted code → length code.crossings ≤ CROSSINGS
    → (IsWithin EXPONENT exponent → ⊥) → state_sum code exponent ≡ pos 0
state_sum-outside code exponent is few outside =
    int_sum-none (state_term code exponent) (states code)
    (λ state.
    term_of-outside (length code.crossings) (one_count code state) (plus_count code.crossings) (minus_count code.crossings)
    (circle_count code state) EXPONENT exponent (one_count-le code state) (plus_count-le code.crossings) refl
    (omega (arith, circle_count-within code state is few)) outside)
