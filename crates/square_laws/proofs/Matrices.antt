-- The entries of the differentials, and of the product of neighbouring ones.
use Rattle.std.proofs.lemmas.Bool.Decides.{nat_tests}
use Rattle.std.proofs.Common.{◌≡◌, ℕ, ◌*◌, ◌%◌, ◌<◌, ◌≤◌, ◌∙◌, inl, inr, ℤ, pos, ◌+ℤ◌, List, [], length, get_or, map, sym, ap, ap₂, arith, IsTrue}
use Rattle.std.specs.Prelude.{slice_index_or}
use Rattle.std.specs.List.{sum_by, range_with_len}
use Rattle.std.proofs.lemmas.Bool.{cases_lt}
use Rattle.std.proofs.lemmas.List.{get_or_past, get_or-map, length-map}
use Rattle.std.proofs.lemmas.List.Elements.{filter_passes}
use Rattle.std.proofs.Math.Nat.{zero-mod}
use Rattle.kh_types.specs.Acceptance.{accepted}
use Rattle.kh_types.specs.Code.{Code}
use Rattle.kh_types.specs.Complex.{entry_in}
use Rattle.kh_types.specs.Differential.{coefficient, differential}
use Rattle.kh_types.specs.Generators.{Generator, generator_of, generators, generators_at, has_degrees}
use Rattle.kh_types.proofs.MatrixTests.{entry-past_rows}
use Rattle.kh_types.proofs.ListSums.{sum_by-none, sum_by-places, sum_by-range_alike}
use Rattle.square_laws.proofs.Degrees.{coefficient-below}
use Rattle.square_laws.proofs.PlainSquares.{product_sum-at}
use Rattle.kh_types.proofs.Sums.{zero-times, times-zero}

-- the generator at a place
abbrev pub generator_number : Code → ℤ → ℤ → ℕ → Generator
generator_number code i j k = get_or (generators_at code i j) k (generator_of 0 0)

abbrev row_of : ℕ → Code → ℤ → ℤ → Generator → List ℕ
row_of p code i j head = map (λ tail. coefficient p code tail head) (generators_at code i j)

pub length-differential : (p : ℕ) (code : Code) (i j : ℤ) → length (differential p code i j) ≡ length (generators_at code (i +ℤ pos 1) j)
length-differential p code i j = length-map (generators_at code (i +ℤ pos 1) j) (row_of p code i j)

row-differential : (p : ℕ) (code : Code) (i j : ℤ) (row : ℕ) → row < length (generators_at code (i +ℤ pos 1) j)
    → slice_index_or (differential p code i j) row [] ≡ row_of p code i j (generator_number code (i +ℤ pos 1) j row)
row-differential p code i j row within = grind (arith, nat_tests, get_or-map)

pub length-row : (p : ℕ) (code : Code) (i j : ℤ) (row : ℕ) → row < length (generators_at code (i +ℤ pos 1) j)
    → length (slice_index_or (differential p code i j) row []) ≡ length (generators_at code i j)
length-row p code i j row within = grind (arith, nat_tests, row-differential, length-map)

-- an entry is the coefficient between two generators, or 0 past the rows and the columns
pub entry-differential : (p : ℕ) (code : Code) (i j : ℤ) (row column : ℕ) → row < length (generators_at code (i +ℤ pos 1) j)
    → column < length (generators_at code i j)
    → entry_in (differential p code i j) row column
    ≡ coefficient p code (generator_number code i j column) (generator_number code (i +ℤ pos 1) j row)
entry-differential p code i j row column row_within column_within =
    ap (λ xs. get_or xs column 0) (row-differential p code i j row row_within)
    ∙ get_or-map (λ tail. coefficient p code tail (generator_number code (i +ℤ pos 1) j row)) (generators_at code i j) column
    (generator_of 0 0) 0 column_within

pub entry-row_past : (p : ℕ) (code : Code) (i j : ℤ) (row column : ℕ) → length (generators_at code (i +ℤ pos 1) j) ≤ row
    → entry_in (differential p code i j) row column ≡ 0
entry-row_past p code i j row column past = grind (arith, nat_tests, entry-past_rows, length-differential)

pub entry-column_past : (p : ℕ) (code : Code) (i j : ℤ) (row column : ℕ) → length (generators_at code i j) ≤ column
    → entry_in (differential p code i j) row column ≡ 0
entry-column_past p code i j row column past = grind (arith, nat_tests, cases_lt, entry-row_past, get_or_past, length-row)

-- entries are below p
pub entry-below : (p : ℕ) (code : Code) (i j : ℤ) (row column : ℕ) → 1 < p → entry_in (differential p code i j) row column < p
entry-below p code i j row column above =
    grind (arith, nat_tests, cases_lt, entry-row_past, entry-column_past, entry-differential, coefficient-below)

-- the product of the differentials at i + 1 and i has the entry 0
abbrev product_term : ℕ → Code → ℤ → ℤ → ℕ → ℕ → ℕ → ℕ
product_term p code i j row column middle =
    entry_in (differential p code (i +ℤ pos 1) j) row middle * entry_in (differential p code i j) middle column

pub differentials-square : (p : ℕ) (code : Code) (i j : ℤ) (row column : ℕ) → 0 < p → IsTrue (accepted code)
    → sum_by (λ middle. entry_in (differential p code (i +ℤ pos 1) j) row middle * entry_in (differential p code i j) middle column)
    (range_with_len 0 (length (generators_at code (i +ℤ pos 1) j))) % p ≡ 0
differentials-square p code i j row column positive is =
    let next = i +ℤ pos 1 in
    let middles = generators_at code next j in
    let term = product_term p code i j row column in
    elim (cases_lt row (length (generators_at code (next +ℤ pos 1) j))) [
      | inr past ↦
          ap (λ s. s % p) (sum_by-none term 0 (length middles) (λ middle from below.
          zero-times (entry_in (differential p code next j) row middle) (entry_in (differential p code i j) middle column)
          (entry-row_past p code next j row middle past)))
          ∙ zero-mod p
      | inl row_within ↦ elim (cases_lt column (length (generators_at code i j))) [
        | inr past ↦
            ap (λ s. s % p) (sum_by-none term 0 (length middles) (λ middle from below.
            times-zero (entry_in (differential p code next j) row middle) (entry_in (differential p code i j) middle column)
            (entry-column_past p code i j middle column past)))
            ∙ zero-mod p
        | inl column_within ↦
            let tail = generator_number code i j column in
            let head = generator_number code (next +ℤ pos 1) j row in
            let product = λ (middle : Generator). coefficient p code middle head * coefficient p code tail middle in
            ap (λ s. s % p)
            (sum_by-range_alike term (λ k. product (generator_number code next j k)) 0 (length middles) (λ k from below.
            let within : k < length middles = omega arith in
            ap₂ (λ x y. x * y) (entry-differential p code next j row k row_within within)
            (entry-differential p code i j k column within column_within))
            ∙ sym (sum_by-places product middles (generator_of 0 0)))
            ∙ product_sum-at p code i j tail head positive is
            (filter_passes (has_degrees code i j) (generators code) column (generator_of 0 0) column_within)
      ]
    ]
