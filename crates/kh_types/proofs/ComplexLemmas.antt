-- The test of a complex says the same as the facts about all degrees, rows and columns.
--
-- The test goes over the degrees by their numbers, and over the rows and columns that are there; the fact speaks of all integers and all
-- numbers. Past the end of a list sizes are 0 and entries are 0, so nothing is left to test there: a degree either has a number or has no
-- places, a product of two matrices has the entry 0 outside of both, and a dead place is within its degree.
use Rattle.std.proofs.lemmas.Bool.Decides.{nat_tests}
use Rattle.std.proofs.Common.{◌≡◌, ℕ, ◌+◌, ◌<◌, ◌≤◌, ◌∙◌, ◌⊎◌, inl, inr, List, [], ◌∷◌, ℤ, pos, negsuc, ◌+ℤ◌, ◌-ℤ◌, length, ap, sym, ap₂, subst, subst₂, refl, arith, Bool, true, IsTrue, sum_by}
use Rattle.std.specs.Prelude.{nat_eq, slice_index_or}
use Rattle.std.proofs.lemmas.Bool.{and_from, and_parts, eqb-true, eq-eqb}
use Rattle.std.proofs.lemmas.Bool.Decides.{leb_tells}
use Rattle.std.proofs.lemmas.Int.{ints}
use Rattle.std.proofs.lemmas.List.{get_or_past}
use Rattle.std.proofs.lemmas.List.Sums.{sum_by-cons}
use Rattle.std.proofs.Math.Nat.{zero-mod}
use Rattle.kh_types.specs.Complex.{Complex, Degree, IsComplex, empty_degree, degree_number, degree_from, degree_of, entry_in, product_of, product_entry, squares_to_zero}
use Rattle.kh_types.specs.ComplexTests.{all_below, has_size, entries_fit, matrix_fits, is_complex}
use Rattle.kh_types.proofs.MatrixTests.{HasSize, EntriesFit, all_below-at, all_below-from, size-from_test, test-from_size, entry-past_rows, entry-past_columns, entries-from_test, test-from_entries}

sum_by-zeros : (f : ℕ → ℕ) (xs : List ℕ) → ((x : ℕ) → f x ≡ 0) → sum_by f xs ≡ 0
sum_by-zeros f [] zeros = refl
sum_by-zeros f (x ∷ xs) zeros = grind (arith, nat_tests, sum_by-cons, sum_by-zeros f xs zeros)

-- where the row has only entries 0, or the column, the product has the entry 0
product-zero_row : (p : ℕ) (degree next : Degree) (row column : ℕ) → ((middle : ℕ) → entry_in next.matrix row middle ≡ 0)
    → product_of p degree next row column ≡ 0
product-zero_row p degree next row column zeros = grind (arith, nat_tests, sum_by-zeros, zero-mod)

product-zero_column : (p : ℕ) (degree next : Degree) (row column : ℕ)
    → ((middle : ℕ) → entry_in degree.matrix middle column ≡ 0) → product_of p degree next row column ≡ 0
product-zero_column p degree next row column zeros = grind (arith, nat_tests, sum_by-zeros, zero-mod)

-- the degrees by their numbers: that of a number, and the one after it
pub degree_of-number : (complex : Complex) (k : ℕ) → degree_of complex (complex.low +ℤ pos k) ≡ degree_number complex k
degree_of-number complex k = grind (arith, nat_tests)

pub degree_of-next : (complex : Complex) (k : ℕ)
    → degree_of complex (complex.low +ℤ pos k +ℤ pos 1) ≡ degree_number complex (k + 1)
degree_of-next complex k = grind (arith, nat_tests)

-- a degree has a number, or it is outside of the complex and has no places
abbrev HasNumber : Complex → ℤ → Type 0
HasNumber complex i = (k : ℕ) × (k < length complex.degrees) × (i ≡ complex.low +ℤ pos k)

placed_at : (complex : Complex) (i distance : ℤ) → i -ℤ complex.low ≡ distance
    → HasNumber complex i ⊎ (degree_of complex i ≡ empty_degree)
placed_at complex i (pos k) is_distance =
    elim (leb_tells (length complex.degrees) k) [
      | inl past ↦ inr (ap (degree_from complex) is_distance ∙ get_or_past complex.degrees k empty_degree past.1)
      | inr within ↦ inl (k, within.1, omega (arith, ints))
    ]
placed_at complex i (negsuc k) is_distance = inr (ap (degree_from complex) is_distance)

-- what the test says of the degrees by their numbers
record Tested (p : ℕ) (complex : Complex) : Type 0 where
  size : (k : ℕ) → k < length complex.degrees → HasSize (degree_number complex k) (degree_number complex (k + 1))
  entries : (k : ℕ) → k < length complex.degrees → EntriesFit p (degree_number complex k) (degree_number complex (k + 1))
  squares : squares_to_zero p complex ≡ true

tested-from_test : (p : ℕ) (complex : Complex) → 0 < p → is_complex p complex ≡ true → Tested p complex
tested-from_test p complex positive pass =
    let parts = and_parts (all_below (length complex.degrees) (matrix_fits p complex)) (squares_to_zero p complex) pass in
    let at : (k : ℕ) → k < length complex.degrees
    → (has_size (degree_number complex k) (degree_number complex (k + 1)) ≡ true)
    × (entries_fit p (degree_number complex k) (degree_number complex (k + 1)) ≡ true) =
    λ k within. and_parts (has_size (degree_number complex k) (degree_number complex (k + 1)))
    (entries_fit p (degree_number complex k) (degree_number complex (k + 1)))
    (all_below-at (matrix_fits p complex) (length complex.degrees) k parts.0 within) in
    let size : (k : ℕ) → k < length complex.degrees → HasSize (degree_number complex k) (degree_number complex (k + 1)) =
    λ k within. size-from_test (degree_number complex k) (degree_number complex (k + 1)) (at k within).0 in
    record {
      size = size;
      entries = λ k within. entries-from_test p (degree_number complex k) (degree_number complex (k + 1)) positive
          (size k within) (at k within).1;
      squares = parts.1;
    }

test-from_tested : (p : ℕ) (complex : Complex) → Tested p complex → is_complex p complex ≡ true
test-from_tested p complex tested =
    and_from (all_below (length complex.degrees) (matrix_fits p complex)) (squares_to_zero p complex)
    (all_below-from (matrix_fits p complex) (length complex.degrees)
    (λ k within.
    and_from (has_size (degree_number complex k) (degree_number complex (k + 1)))
    (entries_fit p (degree_number complex k) (degree_number complex (k + 1)))
    (test-from_size (degree_number complex k) (degree_number complex (k + 1)) (tested.size k within))
    (test-from_entries p (degree_number complex k) (degree_number complex (k + 1)) (tested.entries k within))))
    tested.squares

-- the products at the number of a degree, by their test
abbrev square_is_zero : ℕ → Complex → ℕ → ℕ → ℕ → Bool
square_is_zero p complex k row column = nat_eq (product_entry p complex (complex.low +ℤ pos k) row column) 0

abbrev row_squares : ℕ → Complex → ℕ → ℕ → Bool
row_squares p complex k row = all_below (length (degree_number complex k).alive) (square_is_zero p complex k row)

abbrev degree_squares : ℕ → Complex → ℕ → Bool
degree_squares p complex k = all_below (length (degree_number complex (k + 2)).alive) (row_squares p complex k)

squares-at : (p : ℕ) (complex : Complex) (k row column : ℕ) → squares_to_zero p complex ≡ true
    → k < length complex.degrees → row < length (degree_number complex (k + 2)).alive
    → column < length (degree_number complex k).alive → product_entry p complex (complex.low +ℤ pos k) row column ≡ 0
squares-at p complex k row column squares within row_within column_within =
    let at_degree : degree_squares p complex k ≡ true =
    all_below-at (degree_squares p complex) (length complex.degrees) k squares within in
    let at_row : row_squares p complex k row ≡ true =
    all_below-at (row_squares p complex k) (length (degree_number complex (k + 2)).alive) row at_degree row_within in
    eqb-true (product_entry p complex (complex.low +ℤ pos k) row column) 0
    (all_below-at (square_is_zero p complex k row) (length (degree_number complex k).alive) column at_row column_within)

squares-from_products : (p : ℕ) (complex : Complex)
    → ((k row column : ℕ) → product_entry p complex (complex.low +ℤ pos k) row column ≡ 0) → squares_to_zero p complex ≡ true
squares-from_products p complex zeros =
    all_below-from (degree_squares p complex) (length complex.degrees)
    (λ k within.
    all_below-from (row_squares p complex k) (length (degree_number complex (k + 2)).alive)
    (λ row row_within.
    all_below-from (square_is_zero p complex k row) (length (degree_number complex k).alive)
    (λ column column_within.
    eq-eqb (product_entry p complex (complex.low +ℤ pos k) row column) 0 (zeros k row column))))

-- past the rows of the degree after the next, the matrix out of the next has only entries 0
next_row-past : (p : ℕ) (complex : Complex) (k row middle : ℕ) → Tested p complex
    → length (degree_number complex (k + 2)).alive ≤ row → entry_in (degree_number complex (k + 1)).matrix row middle ≡ 0
next_row-past p complex k row middle tested past =
    elim (leb_tells (length complex.degrees) (k + 1)) [
      | inl outside ↦
          entry-past_rows (degree_number complex (k + 1)).matrix row middle
          (let empty : degree_number complex (k + 1) ≡ empty_degree =
          get_or_past complex.degrees (k + 1) empty_degree outside.1 in
          omega (arith, ap (λ degree. length degree.matrix) empty))
      | inr within ↦
          entry-past_rows (degree_number complex (k + 1)).matrix row middle
          (let two : k + 1 + 1 ≡ k + 2 = omega arith in
          let places : length (degree_number complex (k + 1 + 1)).alive ≡ length (degree_number complex (k + 2)).alive =
          ap (λ n. length (degree_number complex n).alive) two in
          omega (arith, (tested.size (k + 1) within.1).rows))
    ]

-- so the product at the number of a degree is 0 in all rows and columns
product-numbered : (p : ℕ) (complex : Complex) (k row column : ℕ) → Tested p complex → k < length complex.degrees
    → product_of p (degree_of complex (complex.low +ℤ pos k)) (degree_of complex (complex.low +ℤ pos k +ℤ pos 1)) row column ≡ 0
product-numbered p complex k row column tested within =
    let degree = degree_number complex k in
    let next = degree_number complex (k + 1) in
    let by_number : product_of p degree next row column ≡ 0
    → product_of p (degree_of complex (complex.low +ℤ pos k)) (degree_of complex (complex.low +ℤ pos k +ℤ pos 1)) row column ≡ 0 =
    λ zero_there. ap₂ (λ a b. product_of p a b row column) (degree_of-number complex k) (degree_of-next complex k) ∙ zero_there in
    elim (leb_tells (length (degree_number complex (k + 2)).alive) row) [
      | inl past ↦
          by_number (product-zero_row p degree next row column (λ middle. next_row-past p complex k row middle tested past.1))
      | inr row_within ↦
          elim (leb_tells (length degree.alive) column) [
            | inl past ↦
                by_number
                (product-zero_column p degree next row column
                (λ middle. entry-past_columns degree next middle column (tested.size k within) past.1))
            | inr column_within ↦ squares-at p complex k row column tested.squares within row_within.1 column_within.1
          ]
    ]

product-everywhere : (p : ℕ) (complex : Complex) (i : ℤ) (row column : ℕ) → Tested p complex
    → product_entry p complex i row column ≡ 0
product-everywhere p complex i row column tested = grind (arith, nat_tests, placed_at, product-numbered, product-zero_column)

-- all entries fit, inside of the complex and outside
entries-outside : (p : ℕ) (next : Degree) → 0 < p → EntriesFit p empty_degree next
entries-outside p next positive = omega arith

entries-everywhere : (p : ℕ) (complex : Complex) (i : ℤ) → 0 < p → Tested p complex
    → EntriesFit p (degree_of complex i) (degree_of complex (i +ℤ pos 1))
entries-everywhere p complex i positive tested =
    elim (placed_at complex i (i -ℤ complex.low) refl) [
      | inl numbered ↦
          subst (λ d. EntriesFit p (degree_of complex d) (degree_of complex (d +ℤ pos 1))) (sym numbered.2)
          (subst₂ (EntriesFit p) (sym (degree_of-number complex numbered.0)) (sym (degree_of-next complex numbered.0))
          (tested.entries numbered.0 numbered.1))
      | inr outside ↦
          subst (λ degree. EntriesFit p degree (degree_of complex (i +ℤ pos 1))) (sym outside)
          (entries-outside p (degree_of complex (i +ℤ pos 1)) positive)
    ]

columns-everywhere : (p : ℕ) (complex : Complex) (k row : ℕ) → Tested p complex
    → row < length (degree_number complex k).matrix
    → length (slice_index_or (degree_number complex k).matrix row []) ≡ length (degree_number complex k).alive
columns-everywhere p complex k row tested row_within =
    elim (leb_tells (length complex.degrees) k) [
      | inl outside ↦
          absurd
          (let empty : degree_number complex k ≡ empty_degree = get_or_past complex.degrees k empty_degree outside.1 in
          omega (arith, ap (λ degree. length degree.matrix) empty))
      | inr within ↦ (tested.size k within.1).columns row row_within
    ]

complex-from_tested : (p : ℕ) (complex : Complex) → 0 < p → Tested p complex → IsComplex p complex
complex-from_tested p complex positive tested =
    record {
      rows = λ k within. (tested.size k within).rows;
      columns = λ k row row_within. columns-everywhere p complex k row tested row_within;
      below = λ i row column. (entries-everywhere p complex i positive tested row column).below;
      dead_column = λ i row column. (entries-everywhere p complex i positive tested row column).dead_column;
      dead_row = λ i row column. (entries-everywhere p complex i positive tested row column).dead_row;
      product = λ i row column. product-everywhere p complex i row column tested;
    }

tested-from_complex : (p : ℕ) (complex : Complex) → IsComplex p complex → Tested p complex
tested-from_complex p complex is =
    let fits : (i : ℤ) → EntriesFit p (degree_of complex i) (degree_of complex (i +ℤ pos 1)) =
    λ i row column. record {
      below = is.below i row column;
      dead_column = is.dead_column i row column;
      dead_row = is.dead_row i row column;
    } in
    record {
      size = λ k within. record { rows = is.rows k within; columns = is.columns k };
      entries = λ k within.
          subst₂ (EntriesFit p) (degree_of-number complex k) (degree_of-next complex k) (fits (complex.low +ℤ pos k));
      squares = squares-from_products p complex (λ k. is.product (complex.low +ℤ pos k));
    }

-- the test holds exactly where the facts do
pub complex-from_test : (p : ℕ) (complex : Complex) → 0 < p → IsTrue (is_complex p complex) → IsComplex p complex
complex-from_test p complex positive pass = complex-from_tested p complex positive (tested-from_test p complex positive pass)

pub test-from_complex : (p : ℕ) (complex : Complex) → IsComplex p complex → IsTrue (is_complex p complex)
test-from_complex p complex is = test-from_tested p complex (tested-from_complex p complex is)
