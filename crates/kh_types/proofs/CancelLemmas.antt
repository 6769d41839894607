-- What a cancellation keeps: the sizes of the matrices, the places, and that dead ones are dead.
use Rattle.std.proofs.lemmas.Bool.Decides.{nat_tests}
use Rattle.std.proofs.Common.{arith, ◌≡◌, ℕ, zero, suc, ◌+◌, ◌∙◌, List, [], ◌∷◌, ℤ, pos, negsuc, ◌+ℤ◌, ◌-ℤ◌, length, map, ap₂, refl, Bool, true, false}
use Rattle.std.specs.Prelude.{nat_eq, slice_index_or, if◌then◌else◌}
use Rattle.std.specs.List.{enumerate_from}
use Rattle.std.proofs.lemmas.List.{length-map}
use Rattle.std.proofs.lemmas.List.FromFn.{length-enumerate_from}
use Rattle.kh_types.specs.Complex.{Complex, Degree, Pivot, empty_degree, degree_from, degree_of, with_entries, without_place, cancelled_degree, cancel}

-- what stays of a degree: the sizes of its matrix, the number of its places, and the dead ones among them
record Keeps (before after : Degree) : Type 0 where
  sizes : map length after.matrix ≡ map length before.matrix
  places : length after.alive ≡ length before.alive
  dead : (place : ℕ) → slice_index_or before.alive place true ≡ false → slice_index_or after.alive place true ≡ false

-- other entries in the rows from row n on
abbrev rows_from : (ℕ → ℕ → ℕ) → ℕ → List (List ℕ) → List (List ℕ)
rows_from entry n rows =
    map (λ row. map (λ column. entry row.0 column.0) (enumerate_from 0 row.1)) (enumerate_from n rows)

rows_from-sizes : (entry : ℕ → ℕ → ℕ) (n : ℕ) (rows : List (List ℕ)) → map length (rows_from entry n rows) ≡ map length rows
rows_from-sizes entry n [] = refl
rows_from-sizes entry n (row ∷ rows) =
    let first : length (map (λ column. entry n column.0) (enumerate_from 0 row)) ≡ length row =
    length-map (enumerate_from 0 row) (λ column. entry n column.0) ∙ length-enumerate_from 0 row in
    ap₂ (λ size sizes. size ∷ sizes) first (rows_from-sizes entry (n + 1) rows)

-- the places from place n on, after one of them has died
abbrev pub places_from : ℕ → ℕ → List Bool → List Bool
places_from place n alive = map (λ at. if nat_eq at.0 place then false else at.1) (enumerate_from n alive)

places_from-length : (place n : ℕ) (alive : List Bool) → length (places_from place n alive) ≡ length alive
places_from-length place n alive = grind (arith, nat_tests, length-map, length-enumerate_from)

dead_still : (dies is_alive : Bool) → is_alive ≡ false → (if dies then false else is_alive) ≡ false
dead_still dies is_alive dead = grind (arith, nat_tests)

places_from-dead : (place n at : ℕ) (alive : List Bool) → slice_index_or alive at true ≡ false
    → slice_index_or (places_from place n alive) at true ≡ false
places_from-dead place n at [] dead = dead
places_from-dead place n zero (first ∷ rest) dead = dead_still (nat_eq n place) first dead
places_from-dead place n (suc at) (first ∷ rest) dead = places_from-dead place (n + 1) at rest dead

-- a degree of which the entries change, or a place dies, or both
keeps-all : (degree : Degree) → Keeps degree degree
keeps-all degree = record { sizes = refl; places = refl; dead = λ place dead. dead }

keeps-entries : (entry : ℕ → ℕ → ℕ) (degree : Degree)
    → Keeps degree (record { alive = degree.alive; matrix = with_entries entry degree.matrix })
keeps-entries entry degree =
    record { sizes = rows_from-sizes entry 0 degree.matrix; places = refl; dead = λ place dead. dead }

keeps-place : (entry : ℕ → ℕ → ℕ) (place : ℕ) (degree : Degree)
    → Keeps degree (record { alive = without_place place degree.alive; matrix = with_entries entry degree.matrix })
keeps-place entry place degree =
    record {
      sizes = rows_from-sizes entry 0 degree.matrix;
      places = places_from-length place 0 degree.alive;
      dead = λ at. places_from-dead place 0 at degree.alive;
    }

keeps-chosen : (first second third : Bool) (before a b c d : Degree) → Keeps before a → Keeps before b → Keeps before c
    → Keeps before d → Keeps before (if first then a else if second then b else if third then c else d)
keeps-chosen first second third before a b c d in_a in_b in_c in_d = grind (arith, nat_tests)

keeps-cancelled : (p : ℕ) (pivot : Pivot) (i : ℤ) (degree : Degree) → Keeps degree (cancelled_degree p pivot i degree)
keeps-cancelled p pivot i degree = grind (arith, nat_tests, keeps-chosen, keeps-place, keeps-entries, keeps-all)

-- the degrees by their numbers: what is kept of each of the degrees is kept of all
abbrev degrees_from : ℕ → Pivot → ℤ → ℕ → List Degree → List Degree
degrees_from p pivot low n degrees = map (λ at. cancelled_degree p pivot (low +ℤ pos at.0) at.1) (enumerate_from n degrees)

keeps-number : (p : ℕ) (pivot : Pivot) (low : ℤ) (n k : ℕ) (degrees : List Degree)
    → Keeps (slice_index_or degrees k empty_degree) (slice_index_or (degrees_from p pivot low n degrees) k empty_degree)
keeps-number p pivot low n k [] = keeps-all empty_degree
keeps-number p pivot low n zero (degree ∷ degrees) = keeps-cancelled p pivot (low +ℤ pos n) degree
keeps-number p pivot low n (suc k) (degree ∷ degrees) = keeps-number p pivot low (n + 1) k degrees

keeps-from : (p : ℕ) (complex : Complex) (pivot : Pivot) (distance : ℤ)
    → Keeps (degree_from complex distance) (degree_from (cancel p complex pivot) distance)
keeps-from p complex pivot (pos k) = keeps-number p pivot complex.low 0 k complex.degrees
keeps-from p complex pivot (negsuc k) = keeps-all empty_degree

pub sizes-cancel : (p : ℕ) (complex : Complex) (pivot : Pivot) (i : ℤ)
    → map length (degree_of (cancel p complex pivot) i).matrix ≡ map length (degree_of complex i).matrix
sizes-cancel p complex pivot i = (keeps-from p complex pivot (i -ℤ complex.low)).sizes

pub places-cancel : (p : ℕ) (complex : Complex) (pivot : Pivot) (i : ℤ)
    → length (degree_of (cancel p complex pivot) i).alive ≡ length (degree_of complex i).alive
places-cancel p complex pivot i = (keeps-from p complex pivot (i -ℤ complex.low)).places

pub dead-cancel : (p : ℕ) (complex : Complex) (pivot : Pivot) (i : ℤ) (place : ℕ)
    → slice_index_or (degree_of complex i).alive place true ≡ false
    → slice_index_or (degree_of (cancel p complex pivot) i).alive place true ≡ false
dead-cancel p complex pivot i = (keeps-from p complex pivot (i -ℤ complex.low)).dead

pub degrees-cancel : (p : ℕ) (complex : Complex) (pivot : Pivot)
    → length (cancel p complex pivot).degrees ≡ length complex.degrees
degrees-cancel p complex pivot = grind (arith, nat_tests, length-map, length-enumerate_from)
