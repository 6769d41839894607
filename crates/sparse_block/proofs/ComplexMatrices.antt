-- The matrices of a complex: their sizes, the places of their entries, and the product of neighbours as a sum below a number.
use Rattle.std.proofs.lemmas.Bool.Decides.{nat_tests}
use Rattle.std.proofs.Common.{◌≡◌, ℕ, zero, suc, ◌+◌, ◌%◌, ◌<◌, ◌≢◌, ◌∙◌, inl, inr, [], ℤ, pos, ◌+ℤ◌, ◌-ℤ◌, length, refl, sym, subst, arith, sum_by}
use Rattle.std.specs.Prelude.{slice_index_or}
use Rattle.std.specs.List.{range_with_len}
use Rattle.std.proofs.Math.Nat.{zero-mod}
use Rattle.std.proofs.lemmas.Bool.Decides.{leb_tells}
use Rattle.std.proofs.lemmas.Int.{ints}
use Rattle.std.proofs.lemmas.List.{get_or_past}
use Rattle.std.proofs.lemmas.List.Sums.{sum_by-cons}
use Rattle.kh_types.specs.Complex.{Complex, Degree, IsComplex, degree_from, degree_of, entry_in, entry_of, product_of}
use Rattle.kh_types.specs.MatrixRanks.{IsMatrix}
use Rattle.kh_types.specs.Residues.{Same}
use Rattle.kh_types.specs.Products.{sum_below, product_at}
use Rattle.kh_types.proofs.Sums.{sum_below-equal}
use Rattle.kh_types.proofs.MatrixEntries.{entry-past_columns}
use Rattle.kh_types.proofs.MatrixTests.{entry-past_rows}

-- a sum over a range is a sum below its length
sum_by-range : (f : ℕ → ℕ) (a n : ℕ) → sum_by f (range_with_len a n) ≡ sum_below n (λ k. f (a + k))
sum_by-range f a zero = refl
sum_by-range f a (suc n) = grind (arith, nat_tests, sum_below-equal, sum_by-cons, sum_by-range f (a + 1) n)

pub product_of-below : (p : ℕ) (degree next : Degree) (row column : ℕ)
    → product_of p degree next row column
    ≡ product_at (length next.alive) (entry_in next.matrix) (entry_in degree.matrix) row column % p
product_of-below p degree next row column = grind (arith, nat_tests, sum_by-range, sum_below-equal)

-- neighbouring matrices have the product 0
pub product-of_complex : (p : ℕ) (complex : Complex) (i : ℤ) (row column : ℕ) → IsComplex p complex
    → Same p
    (product_at (length (degree_of complex (i +ℤ pos 1)).alive) (entry_of complex (i +ℤ pos 1)) (entry_of complex i) row column) 0
product-of_complex p complex i row column is =
    sym (product_of-below p (degree_of complex i) (degree_of complex (i +ℤ pos 1)) row column)
    ∙ is.product i row column ∙ sym (zero-mod p)

-- the matrix of each degree has a size and entries below p
degree_from-sized : (p : ℕ) (complex : Complex) → IsComplex p complex → (distance : ℤ) (row : ℕ)
    → row < length (degree_from complex distance).matrix
    → length (slice_index_or (degree_from complex distance).matrix row []) ≡ length (degree_from complex distance).alive
degree_from-sized p complex is distance row within = grind (arith, nat_tests)

pub matrix-of_degree : (p : ℕ) (complex : Complex) → IsComplex p complex → (i : ℤ)
    → IsMatrix p (length (degree_of complex i).alive) (degree_of complex i).matrix
matrix-of_degree p complex is i = grind (arith, nat_tests)

-- rows are places of the next degree
degree_from-rows : (p : ℕ) (complex : Complex) → IsComplex p complex → (distance : ℤ) (row : ℕ)
    → row < length (degree_from complex distance).matrix → row < length (degree_from complex (distance +ℤ pos 1)).alive
degree_from-rows p complex is distance row within = grind (arith, nat_tests, ints, leb_tells, get_or_past)

-- an entry other than 0 stands in a row of the matrix, and at a place of its degree and one of the next
pub record StandsAt (complex : Complex) (i : ℤ) (row column : ℕ) : Type 0 where
  pub row_within : row < length (degree_of complex i).matrix
  pub column_place : column < length (degree_of complex i).alive
  pub row_place : row < length (degree_of complex (i +ℤ pos 1)).alive

pub entry-stands : (p : ℕ) (complex : Complex) (i : ℤ) (row column : ℕ) → IsComplex p complex
    → entry_of complex i row column ≢ 0 → StandsAt complex i row column
entry-stands p complex i row column is other =
    let rows = (degree_of complex i).matrix in
    let next : i -ℤ complex.low +ℤ pos 1 ≡ i +ℤ pos 1 -ℤ complex.low = omega (arith, ints) in
    let row_within : row < length rows =
    elim (leb_tells (length rows) row) [
      | inl past ↦ absurd (other (entry-past_rows rows row column past.1))
      | inr below ↦ below.1
    ] in
    let column_within : column < length (slice_index_or rows row []) =
    elim (leb_tells (length (slice_index_or rows row [])) column) [
      | inl past ↦ absurd (other (entry-past_columns rows row column past.1))
      | inr below ↦ below.1
    ] in
    record {
      row_within = row_within;
      column_place = omega (arith, column_within, degree_from-sized p complex is (i -ℤ complex.low) row row_within);
      row_place = subst (λ distance. row < length (degree_from complex distance).alive) next
          (degree_from-rows p complex is (i -ℤ complex.low) row row_within);
    }
