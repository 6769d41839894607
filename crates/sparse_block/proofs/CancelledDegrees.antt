-- The degrees of a complex after a cancellation, by how far they are from the pivot's, and the places that are dead then.
use Rattle.std.proofs.lemmas.Bool.Decides.{nat_tests}
use Rattle.std.proofs.Common.{◌≡◌, ℕ, zero, suc, ◌+◌, ◌∙◌, ◌⊎◌, inl, inr, List, [], ◌∷◌, ℤ, pos, negsuc, ◌+ℤ◌, ◌-ℤ◌, map, ap, sym, refl, arith, Bool, true, false}
use Rattle.std.specs.Prelude.{◌≢◌, nat_eq, slice_index_or, if◌then◌else◌}
use Rattle.std.specs.List.{enumerate_from}
use Rattle.std.proofs.lemmas.Bool.{cond-true, cond-false}
use Rattle.std.proofs.lemmas.Bool.Decides.{eqb_tells}
use Rattle.std.proofs.lemmas.Int.{ints}
use Rattle.kh_types.specs.Complex.{Complex, Degree, Pivot, empty_degree, degree_from, degree_of, without_place, without_row, without_column, cancelled_matrix, cancelled_degree, cancel}
use Rattle.kh_types.proofs.Integers.{int_eq-other, int_eq-same}

cancelled_degree-empty : (p : ℕ) (pivot : Pivot) (i : ℤ) → cancelled_degree p pivot i empty_degree ≡ empty_degree
cancelled_degree-empty p pivot i = grind (arith, nat_tests)

-- the degrees, from number n on
degrees_from-at : (p : ℕ) (pivot : Pivot) (low : ℤ) (n k j : ℕ) (degrees : List Degree) → n + k ≡ j
    → slice_index_or (map (λ at. cancelled_degree p pivot (low +ℤ pos at.0) at.1) (enumerate_from n degrees)) k empty_degree
    ≡ cancelled_degree p pivot (low +ℤ pos j) (slice_index_or degrees k empty_degree)
degrees_from-at p pivot low n k j [] is_j = sym (cancelled_degree-empty p pivot (low +ℤ pos j))
degrees_from-at p pivot low n zero j (degree ∷ degrees) is_j = grind (arith, nat_tests)
degrees_from-at p pivot low n (suc k) j (degree ∷ degrees) is_j =
    degrees_from-at p pivot low (n + 1) k j degrees (omega arith)

degree_from-cancel : (p : ℕ) (complex : Complex) (pivot : Pivot) (i distance : ℤ) → i -ℤ complex.low ≡ distance
    → degree_from (cancel p complex pivot) distance ≡ cancelled_degree p pivot i (degree_from complex distance)
degree_from-cancel p complex pivot i (pos k) is_distance =
    let is_i : complex.low +ℤ pos k ≡ i = omega (arith, ints) in
    degrees_from-at p pivot complex.low 0 k k complex.degrees (omega arith)
    ∙ ap (λ d. cancelled_degree p pivot d (slice_index_or complex.degrees k empty_degree)) is_i
degree_from-cancel p complex pivot i (negsuc k) is_distance = sym (cancelled_degree-empty p pivot i)

-- each degree of what a cancellation leaves is what it leaves of that degree
pub degree_of-cancel : (p : ℕ) (complex : Complex) (pivot : Pivot) (i : ℤ)
    → degree_of (cancel p complex pivot) i ≡ cancelled_degree p pivot i (degree_of complex i)
degree_of-cancel p complex pivot i = degree_from-cancel p complex pivot i (i -ℤ complex.low) refl

-- the pivot's degree loses the pivot's column, and its matrix is cancelled
pub degree-at_pivot : (p : ℕ) (complex : Complex) (pivot : Pivot) (i : ℤ) → i ≡ pivot.degree
    → degree_of (cancel p complex pivot) i
    ≡ record {
      alive = without_place pivot.column (degree_of complex i).alive;
      matrix = cancelled_matrix p pivot (degree_of complex i).matrix;
    }
degree-at_pivot p complex pivot i here = grind (arith, nat_tests, degree_of-cancel, cond-true, int_eq-same)

-- the next degree loses the pivot's row, a place of it, and its matrix that column
pub degree-after_pivot : (p : ℕ) (complex : Complex) (pivot : Pivot) (i : ℤ) → i ≡ pivot.degree +ℤ pos 1
    → degree_of (cancel p complex pivot) i
    ≡ record {
      alive = without_place pivot.row (degree_of complex i).alive;
      matrix = without_column pivot.row (degree_of complex i).matrix;
    }
degree-after_pivot p complex pivot i here =
    grind (arith, nat_tests, ints, degree_of-cancel, cond-false, int_eq-other, cond-true, int_eq-same)

-- the degree before keeps its places, and its matrix loses the row of the pivot's column
pub degree-before_pivot : (p : ℕ) (complex : Complex) (pivot : Pivot) (i : ℤ) → i +ℤ pos 1 ≡ pivot.degree
    → degree_of (cancel p complex pivot) i
    ≡ record { alive = (degree_of complex i).alive; matrix = without_row pivot.column (degree_of complex i).matrix }
degree-before_pivot p complex pivot i here =
    grind (arith, nat_tests, ints, degree_of-cancel, cond-false, int_eq-other, cond-true, int_eq-same)

-- all other degrees stay
pub degree-elsewhere : (p : ℕ) (complex : Complex) (pivot : Pivot) (i : ℤ) → i ≢ pivot.degree → i ≢ pivot.degree +ℤ pos 1
    → i +ℤ pos 1 ≢ pivot.degree → degree_of (cancel p complex pivot) i ≡ degree_of complex i
degree-elsewhere p complex pivot i not_pivot not_after not_before = grind (arith, nat_tests, degree_of-cancel, cond-false, int_eq-other)

-- where a degree is, seen from the pivot's
pub data Where (i pivot : ℤ) : Type 0 where
  is_at : i ≡ pivot → Where i pivot
  is_after : i ≡ pivot +ℤ pos 1 → Where i pivot
  is_before : i +ℤ pos 1 ≡ pivot → Where i pivot
  is_elsewhere : i ≢ pivot → i ≢ pivot +ℤ pos 1 → i +ℤ pos 1 ≢ pivot → Where i pivot

pub where_is : (i pivot : ℤ) → Where i pivot
where_is i pivot = grind (arith, nat_tests)

-- a place that is dead afterwards was dead, or it is the one that dies
places_from-dead : (place n k j : ℕ) (alive : List Bool) → n + k ≡ j
    → slice_index_or (map (λ at. if nat_eq at.0 place then false else at.1) (enumerate_from n alive)) k true ≡ false
    → (slice_index_or alive k true ≡ false) ⊎ (j ≡ place)
places_from-dead place n k j [] is_j dead = inl dead
places_from-dead place n zero j (first ∷ rest) is_j dead = grind (arith, nat_tests, eqb_tells)
places_from-dead place n (suc k) j (first ∷ rest) is_j dead = places_from-dead place (n + 1) k j rest (omega arith) dead

without_place-dead : (place k : ℕ) (alive : List Bool) → slice_index_or (without_place place alive) k true ≡ false
    → (slice_index_or alive k true ≡ false) ⊎ (k ≡ place)
without_place-dead place k alive = places_from-dead place 0 k k alive (omega arith)

-- a place of degree i that is dead after a cancellation: it was dead, or it is the pivot's column or row
pub data Died (complex : Complex) (pivot : Pivot) (i : ℤ) (place : ℕ) : Type 0 where
  was_dead : slice_index_or (degree_of complex i).alive place true ≡ false → Died complex pivot i place
  is_column : i ≡ pivot.degree → place ≡ pivot.column → Died complex pivot i place
  is_row : i ≡ pivot.degree +ℤ pos 1 → place ≡ pivot.row → Died complex pivot i place

pub died-cancel : (p : ℕ) (complex : Complex) (pivot : Pivot) (i : ℤ) (place : ℕ)
    → slice_index_or (degree_of (cancel p complex pivot) i).alive place true ≡ false → Died complex pivot i place
died-cancel p complex pivot i place dead =
    elim (where_is i pivot.degree) [
      | Where.is_at here ↦
          elim (without_place-dead pivot.column place (degree_of complex i).alive
          (sym (ap (λ degree. slice_index_or degree.alive place true) (degree-at_pivot p complex pivot i here)) ∙ dead)) [
            | inl was ↦ Died.was_dead was
            | inr now ↦ Died.is_column here now
          ]
      | Where.is_after here ↦
          elim (without_place-dead pivot.row place (degree_of complex i).alive
          (sym (ap (λ degree. slice_index_or degree.alive place true) (degree-after_pivot p complex pivot i here)) ∙ dead)) [
            | inl was ↦ Died.was_dead was
            | inr now ↦ Died.is_row here now
          ]
      | Where.is_before here ↦
          Died.was_dead
          (sym (ap (λ degree. slice_index_or degree.alive place true) (degree-before_pivot p complex pivot i here)) ∙ dead)
      | Where.is_elsewhere not_here not_after not_before ↦
          Died.was_dead
          (sym (ap (λ degree. slice_index_or degree.alive place true)
          (degree-elsewhere p complex pivot i not_here not_after not_before)) ∙ dead)
    ]
