-- A cancellation kills one place in the pivot's degree and one in the next, and the pivot's places are alive.
use Rattle.std.proofs.lemmas.Bool.Decides.{nat_tests}
use Rattle.std.proofs.Common.{◌≡◌, ℕ, zero, suc, ◌+◌, ◌<◌, ◌∙◌, List, [], ◌∷◌, ℤ, pos, ◌+ℤ◌, length, ap, ap₂, refl, arith, Bool, true, false, cond, count_by}
use Rattle.std.specs.Prelude.{◌≢◌, nat_eq, slice_index_or, if◌then◌else◌}
use Rattle.std.proofs.lemmas.Bool.{cond-true, cond-false, eq-eqb, ne_eqb, true_from_ne_false}
use Rattle.std.proofs.lemmas.List.Sums.{sum_by-cons}
use Rattle.kh_types.specs.Complex.{Complex, Pivot, IsComplex, IsPivot, alive_count, without_place, cancel}
use Rattle.sparse_block.proofs.ComplexMatrices.{entry-stands}
use Rattle.sparse_block.proofs.CancelledDegrees.{Where, where_is, degree-at_pivot, degree-after_pivot, degree-before_pivot, degree-elsewhere}
use Rattle.kh_types.proofs.CancelLemmas.{places_from}

places_from-past : (place n : ℕ) (alive : List Bool) → place < n → places_from place n alive ≡ alive
places_from-past place n [] past = refl
places_from-past place n (first ∷ rest) past =
    let other : n ≢ place = λ same. omega arith in
    ap₂ (λ x xs. x ∷ xs) (cond-false (nat_eq n place) false first (ne_eqb n place other))
    (places_from-past place (n + 1) rest (omega arith))

-- how many of some places are alive
abbrev pub living : List Bool → ℕ
living alive = count_by (λ is_alive. is_alive) alive

living-cons : (first : Bool) (rest : List Bool) → living (first ∷ rest) ≡ cond first 1 0 + living rest
living-cons first rest = sum_by-cons (λ is_alive. cond is_alive 1 0) first rest

places_from-living : (place n k : ℕ) (alive : List Bool) → n + k ≡ place → k < length alive
    → slice_index_or alive k true ≡ true → living (places_from place n alive) + 1 ≡ living alive
places_from-living place n k [] is_place within is_alive = absurd (omega arith)
places_from-living place n zero (first ∷ rest) is_place within is_alive =
    let here : n ≡ place = omega arith in
    let dies : (if nat_eq n place then false else first) ≡ false = cond-true (nat_eq n place) false first (eq-eqb n place here) in
    let before : living (first ∷ rest) ≡ 1 + living rest = living-cons first rest ∙ ap (λ b. cond b 1 0 + living rest) is_alive in
    let after : living (places_from place n (first ∷ rest)) ≡ 0 + living rest =
    living-cons (if nat_eq n place then false else first) (places_from place (n + 1) rest)
    ∙ ap₂ (λ b xs. cond b 1 0 + living xs) dies (places_from-past place (n + 1) rest (omega arith)) in
    omega (arith, before, after)
places_from-living place n (suc k) (first ∷ rest) is_place within is_alive =
    let other : n ≢ place = λ same. omega arith in
    let stays : (if nat_eq n place then false else first) ≡ first =
    cond-false (nat_eq n place) false first (ne_eqb n place other) in
    let before : living (first ∷ rest) ≡ cond first 1 0 + living rest = living-cons first rest in
    let after : living (places_from place n (first ∷ rest)) ≡ cond first 1 0 + living (places_from place (n + 1) rest) =
    living-cons (if nat_eq n place then false else first) (places_from place (n + 1) rest)
    ∙ ap (λ b. cond b 1 0 + living (places_from place (n + 1) rest)) stays in
    let later : living (places_from place (n + 1) rest) + 1 ≡ living rest =
    places_from-living place (n + 1) k rest (omega arith) (omega arith) is_alive in
    omega (arith, before, after, later)

-- one place alive fewer, where a place that was alive dies
living-without_place : (place : ℕ) (alive : List Bool) → place < length alive → slice_index_or alive place true ≡ true
    → living (without_place place alive) + 1 ≡ living alive
living-without_place place alive within is_alive = places_from-living place 0 place alive (omega arith) within is_alive

-- so the pivot's degree and the next have one place alive fewer
pub alive_count-at_pivot : (p : ℕ) (complex : Complex) (pivot : Pivot) → IsComplex p complex → IsPivot complex pivot
    → alive_count (cancel p complex pivot) pivot.degree + 1 ≡ alive_count complex pivot.degree
alive_count-at_pivot p complex pivot is is_pivot =
    grind (arith, nat_tests, degree-at_pivot, living-without_place, entry-stands, true_from_ne_false)

pub alive_count-after_pivot : (p : ℕ) (complex : Complex) (pivot : Pivot) → IsComplex p complex → IsPivot complex pivot
    → alive_count (cancel p complex pivot) (pivot.degree +ℤ pos 1) + 1 ≡ alive_count complex (pivot.degree +ℤ pos 1)
alive_count-after_pivot p complex pivot is is_pivot =
    grind (arith, nat_tests, degree-after_pivot, living-without_place, entry-stands, true_from_ne_false)

-- and the others have as many
pub alive_count-others : (p : ℕ) (complex : Complex) (pivot : Pivot) (i : ℤ) → i ≢ pivot.degree → i ≢ pivot.degree +ℤ pos 1
    → alive_count (cancel p complex pivot) i ≡ alive_count complex i
alive_count-others p complex pivot i not_here not_after = grind (arith, nat_tests, where_is, Where, degree-before_pivot, degree-elsewhere)
