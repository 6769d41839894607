-- Terms that cancel have the sum 0, whatever the rest of the diagram is worth.
use Rattle.std.proofs.lemmas.Bool.Decides.{nat_tests}
use Rattle.std.proofs.Common.{◌≡◌, ℕ, zero, suc, ◌+◌, ◌<◌, inl, inr, Bool, true, false, not, refl, sym, ap, ap₂, ◌∙◌, List, [], ◌∷◌, ◌++◌, map, arith, cond, ℤ, pos, neg_ℤ, ◌+ℤ◌, ◌-ℤ◌}
use Rattle.std.specs.Prelude.{nat_eq}
use Rattle.std.specs.List.{list_all}
use Rattle.std.proofs.lemmas.Bool.Decides.{Decides-int_eq}
use Rattle.std.proofs.lemmas.Slice.Eq.{bytes_eq-Decides}
use Rattle.std.proofs.lemmas.Int.{ints}
use Rattle.std.proofs.lemmas.List.{map-append}
use Rattle.std.proofs.lemmas.Bool.{cases_Bool, eqb-true, and_parts}
use Rattle.kh_types.specs.StateSum.{int_sum}
use Rattle.kh_types.proofs.IntSums.{int_sum-append}
use Rattle.gluing_laws.specs.Slides.{InsideTerm, inside_value, inside_sum, inside_terms, triangle_before, triangle_after, is_slidable}
use Rattle.gluing_laws.proofs.Tallies.{Tally, is_counted_by, zero_or_one, counted_at, counted, tallies_of, opposite, have_one_sum}
use Rattle.gluing_laws.proofs.SlideTable.{have_one_sum-slide}

-- x, some times over
abbrev times : ℕ → ℤ → ℤ
times zero x = pos 0
times (suc k) x = x +ℤ times k x

times-more : (k : ℕ) (x : ℤ) → times (k + 1) x ≡ x +ℤ times k x
times-more k x = let e : k + 1 ≡ suc k = omega arith in ap (λ n. times n x) e

times-same : (k : ℕ) (x : ℤ) → times (k + 0) x ≡ times k x
times-same k x = let e : k + 0 ≡ k = omega arith in ap (λ n. times n x) e

-- what a tally adds
abbrev tally_value : (List ℕ → ℤ → ℤ) → Tally → ℤ
tally_value rest tally = times tally.plus (rest tally.joined tally.shift) -ℤ times tally.minus (rest tally.joined tally.shift)

abbrev tally_sum : (List ℕ → ℤ → ℤ) → List Tally → ℤ
tally_sum rest tallies = int_sum (map (tally_value rest) tallies)

-- a tally that one more term is counted at
one_more : (is_minus : Bool) (plus minus : ℕ) (x : ℤ)
    → times (plus + zero_or_one (not is_minus)) x -ℤ times (minus + zero_or_one is_minus) x
    ≡ cond is_minus (neg_ℤ x) x +ℤ (times plus x -ℤ times minus x)
one_more true plus minus x =
    ap₂ (λ s t. s -ℤ t) (times-same plus x) (times-more minus x) ∙ moved (times plus x) (times minus x) x
  where
    moved : (s t x : ℤ) → s -ℤ (x +ℤ t) ≡ neg_ℤ x +ℤ (s -ℤ t)
    moved s t x = omega (arith, ints)
one_more false plus minus x =
    ap₂ (λ s t. s -ℤ t) (times-more plus x) (times-same minus x) ∙ moved (times plus x) (times minus x) x
  where
    moved : (s t x : ℤ) → x +ℤ s -ℤ t ≡ x +ℤ (s -ℤ t)
    moved s t x = omega (arith, ints)

-- a new tally
first_count : (is_minus : Bool) (x : ℤ) → times (zero_or_one (not is_minus)) x -ℤ times (zero_or_one is_minus) x ≡ cond is_minus (neg_ℤ x) x
first_count is_minus x = grind (arith, nat_tests)

tally_sum-counted_here : (rest : List ℕ → ℤ → ℤ) (term : InsideTerm) (tally : Tally) → is_counted_by term tally ≡ true
    → tally_value rest (counted_at term tally) ≡ inside_value rest term +ℤ tally_value rest tally
tally_sum-counted_here rest term tally here = grind (arith, nat_tests, and_parts, bytes_eq-Decides, Decides-int_eq, one_more)

tally_sum-counted : (rest : List ℕ → ℤ → ℤ) (term : InsideTerm) (tallies : List Tally)
    → tally_sum rest (counted term tallies) ≡ inside_value rest term +ℤ tally_sum rest tallies
tally_sum-counted rest term [] = ap (λ x. x +ℤ pos 0) (first_count term.is_minus (rest term.joined term.shift))
tally_sum-counted rest term (tally ∷ tallies) = elim (cases_Bool (is_counted_by term tally)) [
  | inl here ↦
      ap (λ b. tally_sum rest (cond b (counted_at term tally ∷ tallies) (tally ∷ counted term tallies))) here
      ∙ ap (λ x. x +ℤ tally_sum rest tallies) (tally_sum-counted_here rest term tally here)
      ∙ regrouped (inside_value rest term) (tally_value rest tally) (tally_sum rest tallies)
  | inr later ↦
      ap (λ b. tally_sum rest (cond b (counted_at term tally ∷ tallies) (tally ∷ counted term tallies))) later
      ∙ ap (λ x. tally_value rest tally +ℤ x) (tally_sum-counted rest term tallies)
      ∙ turned (inside_value rest term) (tally_value rest tally) (tally_sum rest tallies)
]
  where
    regrouped : (x y z : ℤ) → x +ℤ y +ℤ z ≡ x +ℤ (y +ℤ z)
    regrouped x y z = omega (arith, ints)

    turned : (x y z : ℤ) → y +ℤ (x +ℤ z) ≡ x +ℤ (y +ℤ z)
    turned x y z = omega (arith, ints)

tally_sum-tallies_of : (rest : List ℕ → ℤ → ℤ) (terms : List InsideTerm) → tally_sum rest (tallies_of terms) ≡ inside_sum rest terms
tally_sum-tallies_of rest [] = refl
tally_sum-tallies_of rest (term ∷ terms) = grind (arith, nat_tests, tally_sum-counted, tallies_of, tally_sum-tallies_of rest terms)

tally_sum-balanced : (rest : List ℕ → ℤ → ℤ) (tallies : List Tally) → list_all (λ tally. nat_eq tally.plus tally.minus) tallies ≡ true
    → tally_sum rest tallies ≡ pos 0
tally_sum-balanced rest [] all = refl
tally_sum-balanced rest (tally ∷ tallies) all =
    let parts = and_parts (nat_eq tally.plus tally.minus) (list_all (λ t. nat_eq t.plus t.minus) tallies) all in
    let same : tally.plus ≡ tally.minus = eqb-true tally.plus tally.minus parts.0 in
    ap₂ (λ x y. x +ℤ y)
    (ap (λ k. times k (rest tally.joined tally.shift) -ℤ times tally.minus (rest tally.joined tally.shift)) same
    ∙ cancelled (times tally.minus (rest tally.joined tally.shift)))
    (tally_sum-balanced rest tallies parts.1)
  where
    cancelled : (x : ℤ) → x -ℤ x ≡ pos 0
    cancelled x = omega (arith, ints)

-- the opposites of terms have the opposite sum
inside_value-opposite : (is_minus : Bool) (x : ℤ) → cond (not is_minus) (neg_ℤ x) x ≡ neg_ℤ (cond is_minus (neg_ℤ x) x)
inside_value-opposite is_minus x = grind (arith, nat_tests)

inside_sum-opposite : (rest : List ℕ → ℤ → ℤ) (terms : List InsideTerm) → inside_sum rest (map opposite terms) ≡ neg_ℤ (inside_sum rest terms)
inside_sum-opposite rest [] = omega (arith, ints)
inside_sum-opposite rest (term ∷ terms) =
    ap₂ (λ x y. x +ℤ y) (inside_value-opposite term.is_minus (rest term.joined term.shift)) (inside_sum-opposite rest terms)
    ∙ negated (inside_value rest term) (inside_sum rest terms)
  where
    negated : (x y : ℤ) → neg_ℤ x +ℤ neg_ℤ y ≡ neg_ℤ (x +ℤ y)
    negated x y = omega (arith, ints)

pub inside_sum-append : (rest : List ℕ → ℤ → ℤ) (terms more : List InsideTerm)
    → inside_sum rest (terms ++ more) ≡ inside_sum rest terms +ℤ inside_sum rest more
inside_sum-append rest terms more = grind (arith, nat_tests, map-append, int_sum-append)

-- terms that cancel against others have their sum
pub inside_sum-same : (rest : List ℕ → ℤ → ℤ) (terms others : List InsideTerm) → have_one_sum terms others ≡ true
    → inside_sum rest terms ≡ inside_sum rest others
inside_sum-same rest terms others same =
    from_zero (inside_sum rest terms) (inside_sum rest others)
    (sym (inside_sum-append rest terms (map opposite others) ∙ ap (λ x. inside_sum rest terms +ℤ x) (inside_sum-opposite rest others))
    ∙ sym (tally_sum-tallies_of rest (terms ++ map opposite others))
    ∙ tally_sum-balanced rest (tallies_of (terms ++ map opposite others)) same)
  where
    from_zero : (x y : ℤ) → x +ℤ neg_ℤ y ≡ pos 0 → x ≡ y
    from_zero x y zero_sum = omega (arith, ints)

-- the sum over the eight states of the triangle is the same before and after, whatever the rest of the diagram is worth
pub inside_sum-slide : (p q r : ℕ) → p < 4 → q < 4 → r < 4 → is_slidable p q r ≡ true → (rest : List ℕ → ℤ → ℤ)
    → inside_sum rest (inside_terms (triangle_before p q r)) ≡ inside_sum rest (inside_terms (triangle_after p q r))
inside_sum-slide p q r p_below q_below r_below slidable rest = grind (arith, nat_tests, inside_sum-same, have_one_sum-slide)
