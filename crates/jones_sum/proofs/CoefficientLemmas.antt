-- A polynomial and the list of its coefficients.
use Rattle.std.proofs.Common.{◌≡◌, ℕ, ◌+◌, ◌*◌, ◌<◌, ◌∙◌, List, ◌++◌, map, length, get_or, ap, sym, arith, ℤ, pos, neg_ℤ, ◌+ℤ◌, ◌-ℤ◌, ◌≤ℤ◌, codes}
use Rattle.std.specs.Prelude.{not}
use Rattle.std.specs.List.{range_with_len, filter}
use Rattle.std.specs.Ordering.{int_eq}
use Rattle.std.proofs.lemmas.Int.{ints}
use Rattle.std.proofs.lemmas.Simd.{map-map}
use Rattle.std.proofs.lemmas.List.FromFn.{fill_by_all}
use Rattle.kh_types.specs.Table.{from_minus, IsWithin}
use Rattle.kh_types.specs.StateSum.{Term, terms, terms_text, polynomial_text}
use Rattle.kh_types.specs.declared.limits.TheConstants.{EXPONENT}
use Rattle.kh_types.proofs.QuantumDegrees.{place-IsWithin, map-from_minus_agree, get_or-map-from_minus}
use Rattle.jones_sum.specs.Coefficients.{coefficients_of, element_at, coefficient_in}

-- the value at an exponent stands at its place
pub element_at-map : (f : ℤ → ℤ) (n : ℕ) (i : ℤ) → IsWithin n i → element_at (map f (from_minus n)) (i +ℤ pos n) ≡ f i
element_at-map f n i within =
    let place = place-IsWithin n i within in
    let k = place.0 in
    let is_place : i +ℤ pos n ≡ pos k = omega (arith, ints, place.2) in
    ap (λ (z : ℤ). element_at (map f (from_minus n)) z) is_place
    ∙ get_or-map-from_minus f n k (pos 0) place.1 ∙ ap f (sym place.2)

pub coefficient_in-coefficients_of : (polynomial : ℤ → ℤ) (exponent : ℤ) → IsWithin EXPONENT exponent
    → coefficient_in (coefficients_of polynomial) exponent ≡ polynomial exponent
coefficient_in-coefficients_of polynomial exponent within = element_at-map polynomial EXPONENT exponent within

-- a list with the value of each exponent at its place
pub filled : (f : ℤ → ℤ) (n : ℕ) (xs : List ℤ) → length xs ≡ 2 * n + 1
    → ((k : ℕ) → k < 2 * n + 1 → get_or xs k (pos 0) ≡ f (pos k -ℤ pos n)) → xs ≡ map f (from_minus n)
filled f n xs size each =
    fill_by_all (λ k. f (pos k -ℤ pos n)) xs (2 * n + 1) (pos 0) size each
    ∙ sym (map-map f (λ k. pos k -ℤ pos n) (range_with_len 0 (2 * n + 1)))

pub coefficients_of-filled : (polynomial : ℤ → ℤ) (coefficients : List ℤ) → length coefficients ≡ 2 * EXPONENT + 1
    → ((place : ℕ) → place < 2 * EXPONENT + 1 → get_or coefficients place (pos 0) ≡ polynomial (pos place -ℤ pos EXPONENT))
    → coefficients ≡ coefficients_of polynomial
coefficients_of-filled polynomial coefficients = filled polynomial EXPONENT coefficients

-- the terms with exponents up to a size
abbrev terms_within : ℕ → (ℤ → ℤ) → List Term
terms_within most polynomial =
    filter (λ term. not (int_eq term.coefficient (pos 0)))
    (map (λ exponent. record { coefficient = polynomial exponent; exponent = exponent }) (from_minus most))

terms_within-agree : (most : ℕ) (one other : ℤ → ℤ) → ((exponent : ℤ) → IsWithin most exponent → one exponent ≡ other exponent)
    → terms_within most one ≡ terms_within most other
terms_within-agree most one other same =
    ap (λ (all : List Term). filter (λ term. not (int_eq term.coefficient (pos 0))) all)
    (map-from_minus_agree (term_of one) (term_of other) most (λ exponent within. ap (made exponent) (same exponent within)))
  where
    made : ℤ → ℤ → Term
    made exponent coefficient = record { coefficient = coefficient; exponent = exponent }

    term_of : (ℤ → ℤ) → ℤ → Term
    term_of polynomial exponent = made exponent (polynomial exponent)

-- the Jones line of terms
abbrev line_of : List Term → List ℕ
line_of terms = codes "jones" ++ (terms_text terms ++ codes "\n")

pub polynomial_text-agree : (one other : ℤ → ℤ)
    → ((exponent : ℤ) → IsWithin EXPONENT exponent → one exponent ≡ other exponent) → polynomial_text one ≡ polynomial_text other
polynomial_text-agree one other same = ap line_of (terms_within-agree EXPONENT one other same)

pub polynomial_text-coefficients_of : (polynomial : ℤ → ℤ)
    → polynomial_text (coefficient_in (coefficients_of polynomial)) ≡ polynomial_text polynomial
polynomial_text-coefficients_of polynomial =
    polynomial_text-agree (coefficient_in (coefficients_of polynomial)) polynomial (coefficient_in-coefficients_of polynomial)

-- an exponent lies between -EXPONENT and EXPONENT
pub within-low : (i : ℤ) → IsWithin EXPONENT i → neg_ℤ (pos EXPONENT) ≤ℤ i
within-low i within = let place = place-IsWithin EXPONENT i within in omega (arith, ints, place.1, place.2)

pub within-high : (i : ℤ) → IsWithin EXPONENT i → i ≤ℤ pos EXPONENT
within-high i within = let place = place-IsWithin EXPONENT i within in omega (arith, ints, place.1, place.2)

pub ruleset exponents = (within-low, within-high)
