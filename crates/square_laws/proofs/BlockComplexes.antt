-- A block is a complex: the sizes of its matrices, and the product of neighbouring ones.
use Rattle.std.proofs.lemmas.Bool.Decides.{nat_tests}
use Rattle.std.proofs.Common.{◌≡◌, ℕ, ◌*◌, ◌%◌, ◌<◌, ◌∙◌, inl, inr, ℤ, pos, ◌+ℤ◌, List, [], ◌∷◌, length, map, refl, sym, ap, ap₂, arith, true, false, zero, suc, IsTrue}
use Rattle.std.specs.Prelude.{slice_index_or}
use Rattle.std.specs.List.{sum_by, range_with_len}
use Rattle.std.proofs.lemmas.Bool.{cases_lt}
use Rattle.std.proofs.lemmas.List.{get_or_past, length-map}
use Rattle.kh_types.specs.Acceptance.{accepted}
use Rattle.kh_types.specs.Code.{Code}
use Rattle.kh_types.specs.Complex.{IsComplex, degree_of, entry_in, entry_of, product_entry}
use Rattle.kh_types.specs.Differential.{differential}
use Rattle.kh_types.specs.Generators.{generators_at}
use Rattle.kh_types.specs.History.{block, homological_degrees}
use Rattle.kh_types.proofs.MatrixTests.{entry-past_rows}
use Rattle.kh_types.proofs.ListSums.{sum_by-alike}
use Rattle.square_laws.proofs.Matrices.{differentials-square, entry-below, entry-column_past, length-differential, length-row}
use Rattle.square_laws.proofs.BlockDegrees.{cube_degree, degree-block, degree-numbered}
use Rattle.kh_types.proofs.ComplexLemmas.{degree_of-number, degree_of-next}

-- at each degree the block has a place for each generator, all of them alive, and the entries of the differential
pub alive-block : (p : ℕ) (code : Code) (j i : ℤ)
    → (degree_of (block p code j) i).alive ≡ map (λ generator. true) (generators_at code i j)
alive-block p code j i = grind (arith, nat_tests, degree-block)

pub entry-block : (p : ℕ) (code : Code) (j i : ℤ) (row column : ℕ)
    → entry_of (block p code j) i row column ≡ entry_in (differential p code i j) row column
entry-block p code j i row column = grind (arith, nat_tests, degree-block, entry-past_rows, entry-column_past)

pub places-block : (p : ℕ) (code : Code) (j i : ℤ) → length (degree_of (block p code j) i).alive ≡ length (generators_at code i j)
places-block p code j i = ap length (alive-block p code j i) ∙ length-map (generators_at code i j) (λ generator. true)

-- neighbouring matrices have the product 0
pub product_entry-block : (p : ℕ) (code : Code) (j i : ℤ) (row column : ℕ) → 0 < p → IsTrue (accepted code)
    → product_entry p (block p code j) i row column ≡ 0
product_entry-block p code j i row column positive is =
    let next = i +ℤ pos 1 in
    let whole = block p code j in
    ap (λ n. sum_by (λ middle. entry_of whole next row middle * entry_of whole i middle column) (range_with_len 0 n) % p)
    (places-block p code j next)
    ∙ ap (λ s. s % p)
    (sum_by-alike (λ middle. entry_of whole next row middle * entry_of whole i middle column)
    (λ middle. entry_in (differential p code next j) row middle * entry_in (differential p code i j) middle column)
    (λ middle. ap₂ (λ x y. x * y) (entry-block p code j next row middle) (entry-block p code j i middle column))
    (range_with_len 0 (length (generators_at code next j))))
    ∙ differentials-square p code i j row column positive is

pub all_alive : {X : Type 0} (xs : List X) (place : ℕ) → slice_index_or (map (λ x. true) xs) place true ≡ true
all_alive [] zero = refl
all_alive [] (suc place) = refl
all_alive (x ∷ xs) zero = refl
all_alive (x ∷ xs) (suc place) = all_alive xs place

not_dead : (p : ℕ) (code : Code) (j i : ℤ) (place : ℕ) → slice_index_or (degree_of (block p code j) i).alive place true ≡ false → ⊥
not_dead p code j i place dead = grind (arith, nat_tests, all_alive, alive-block)

-- the degrees of a complex by their numbers
pub IsComplex-block : (p : ℕ) (code : Code) (j : ℤ) → 1 < p → IsTrue (accepted code) → IsComplex p (block p code j)
IsComplex-block p code j above is =
    let whole = block p code j in
    let low = whole.low in
    let count = length-map (homological_degrees code j) (cube_degree p code j) in
    let at = λ (k : ℕ) (within : k < length whole.degrees).
    degree-numbered p code j k (omega (arith, within, count)) in
    record {
      rows = λ k within.
          ap (λ degree. length degree.matrix) (at k within) ∙ length-differential p code (low +ℤ pos k) j
          ∙ sym (places-block p code j (low +ℤ pos k +ℤ pos 1)) ∙ ap (λ degree. length degree.alive) (degree_of-next whole k);
      columns = λ k row row_within. elim (cases_lt k (length whole.degrees)) [
        | inl within ↦
            let i = low +ℤ pos k in
            let is_cube = at k within in
            let row_there : row < length (differential p code i j) =
            omega (arith, row_within, ap (λ degree. length degree.matrix) is_cube) in
            ap (λ degree. length (slice_index_or degree.matrix row [])) is_cube
            ∙ length-row p code i j row (omega (arith, row_there, length-differential p code i j))
            ∙ sym (places-block p code j i) ∙ ap (λ degree. length degree.alive) (degree_of-number whole k)
        | inr past ↦
            absurd (omega (
              arith,
              row_within,
              ap (λ degree. length degree.matrix) (get_or_past whole.degrees k (record { alive = []; matrix = [] }) past),
            ))
      ];
      below = λ i row column. omega (arith, entry-block p code j i row column, entry-below p code i j row column above);
      dead_column = λ i row column dead. absurd (not_dead p code j i column dead);
      dead_row = λ i row column dead. absurd (not_dead p code j (i +ℤ pos 1) row dead);
      product = λ i row column. product_entry-block p code j i row column (omega arith) is;
    }
