-- Matrices of coefficients between lists of generators, and the product of two of them.
use Rattle.std.proofs.lemmas.Bool.Decides.{nat_tests}
use Rattle.std.proofs.Common.{◌≡◌, ℕ, ◌*◌, ◌%◌, ◌<◌, ◌≤◌, ◌∙◌, inl, inr, List, [], length, get_or, map, sym, ap, ap₂, arith}
use Rattle.std.specs.Prelude.{slice_index_or}
use Rattle.std.specs.List.{sum_by, range_with_len}
use Rattle.std.proofs.lemmas.Bool.{cases_lt}
use Rattle.std.proofs.lemmas.List.{get_or_past, get_or-map, length-map}
use Rattle.std.proofs.Math.Nat.{zero-mod}
use Rattle.kh_types.specs.Code.{Code}
use Rattle.kh_types.specs.Complex.{entry_in}
use Rattle.kh_types.specs.Differential.{coefficient}
use Rattle.kh_types.specs.Generators.{Generator, generator_of}
use Rattle.kh_types.proofs.MatrixTests.{entry-past_rows}
use Rattle.kh_types.proofs.ListSums.{sum_by-none, sum_by-places, sum_by-range_alike}
use Rattle.square_laws.proofs.Degrees.{coefficient-below}
use Rattle.cube_signs.specs.Chosen.{coefficients}
use Rattle.kh_types.proofs.Sums.{zero-times, times-zero}

-- the generator at a place of a list
abbrev pub generator_number : List Generator → ℕ → Generator
generator_number generators k = get_or generators k (generator_of 0 0)

abbrev row_of : ℕ → Code → List Generator → Generator → List ℕ
row_of p code tails head = map (λ tail. coefficient p code tail head) tails

pub length-coefficients : (p : ℕ) (code : Code) (tails heads : List Generator) → length (coefficients p code tails heads) ≡ length heads
length-coefficients p code tails heads = length-map heads (row_of p code tails)

row-coefficients : (p : ℕ) (code : Code) (tails heads : List Generator) (row : ℕ) → row < length heads
    → slice_index_or (coefficients p code tails heads) row [] ≡ row_of p code tails (generator_number heads row)
row-coefficients p code tails heads row within = get_or-map (row_of p code tails) heads row (generator_of 0 0) [] within

pub length-row : (p : ℕ) (code : Code) (tails heads : List Generator) (row : ℕ) → row < length heads
    → length (slice_index_or (coefficients p code tails heads) row []) ≡ length tails
length-row p code tails heads row within = grind (arith, nat_tests, row-coefficients, length-map)

-- an entry is the coefficient between two generators, or 0 past the rows and the columns
pub entry-coefficients : (p : ℕ) (code : Code) (tails heads : List Generator) (row column : ℕ) → row < length heads
    → column < length tails
    → entry_in (coefficients p code tails heads) row column
    ≡ coefficient p code (generator_number tails column) (generator_number heads row)
entry-coefficients p code tails heads row column row_within column_within =
    ap (λ xs. get_or xs column 0) (row-coefficients p code tails heads row row_within)
    ∙ get_or-map (λ tail. coefficient p code tail (generator_number heads row)) tails column (generator_of 0 0) 0 column_within

pub entry-row_past : (p : ℕ) (code : Code) (tails heads : List Generator) (row column : ℕ) → length heads ≤ row
    → entry_in (coefficients p code tails heads) row column ≡ 0
entry-row_past p code tails heads row column past = grind (arith, nat_tests, entry-past_rows, length-coefficients)

pub entry-column_past : (p : ℕ) (code : Code) (tails heads : List Generator) (row column : ℕ) → length tails ≤ column
    → entry_in (coefficients p code tails heads) row column ≡ 0
entry-column_past p code tails heads row column past = grind (arith, nat_tests, cases_lt, entry-row_past, get_or_past, length-row)

-- entries are below p
pub entry-below : (p : ℕ) (code : Code) (tails heads : List Generator) (row column : ℕ) → 1 < p
    → entry_in (coefficients p code tails heads) row column < p
entry-below p code tails heads row column above =
    grind (arith, nat_tests, cases_lt, entry-row_past, entry-column_past, entry-coefficients, coefficient-below)

-- the products of the coefficients from a tail to a head, summed over some generators between
abbrev pub between : ℕ → Code → List Generator → Generator → Generator → ℕ
between p code middles tail head = sum_by (λ middle. coefficient p code middle head * coefficient p code tail middle) middles

-- from each tail to any head they are 0 modulo p
pub record SquareToZero (p : ℕ) (code : Code) (tails middles : List Generator) : Type 0 where
  pub at : (column : ℕ) (head : Generator) → column < length tails
      → between p code middles (generator_number tails column) head % p ≡ 0

-- so the product of two matrices has the entry 0
pub coefficients-square : (p : ℕ) (code : Code) (tails middles heads : List Generator) (row column : ℕ)
    → SquareToZero p code tails middles
    → sum_by (λ k. entry_in (coefficients p code middles heads) row k * entry_in (coefficients p code tails middles) k column)
    (range_with_len 0 (length middles)) % p ≡ 0
coefficients-square p code tails middles heads row column square =
    let term = λ (k : ℕ).
    entry_in (coefficients p code middles heads) row k * entry_in (coefficients p code tails middles) k column in
    elim (cases_lt row (length heads)) [
      | inr past ↦
          ap (λ s. s % p) (sum_by-none term 0 (length middles) (λ k from below.
          zero-times (entry_in (coefficients p code middles heads) row k) (entry_in (coefficients p code tails middles) k column)
          (entry-row_past p code middles heads row k past)))
          ∙ zero-mod p
      | inl row_within ↦ elim (cases_lt column (length tails)) [
        | inr past ↦
            ap (λ s. s % p) (sum_by-none term 0 (length middles) (λ k from below.
            times-zero (entry_in (coefficients p code middles heads) row k) (entry_in (coefficients p code tails middles) k column)
            (entry-column_past p code tails middles k column past)))
            ∙ zero-mod p
        | inl column_within ↦
            let tail = generator_number tails column in
            let head = generator_number heads row in
            let product = λ (middle : Generator). coefficient p code middle head * coefficient p code tail middle in
            ap (λ s. s % p)
            (sum_by-range_alike term (λ k. product (generator_number middles k)) 0 (length middles) (λ k from below.
            let within : k < length middles = omega arith in
            ap₂ (λ x y. x * y) (entry-coefficients p code middles heads row k row_within within)
            (entry-coefficients p code tails middles k column within column_within))
            ∙ sym (sum_by-places product middles (generator_of 0 0)))
            ∙ square.at column head column_within
      ]
    ]
