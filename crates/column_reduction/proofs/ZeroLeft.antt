-- What column reduction leaves is the complex without entries that has the same places alive.
use Rattle.std.proofs.Common.{◌≡◌, ℕ, zero, suc, ◌∙◌, List, [], ◌∷◌, ℤ, pos, negsuc, ◌-ℤ◌, length, ap, sym, refl, arith, Bool, true, false}
use Rattle.std.specs.Prelude.{nat_eq, slice_index, slice_index_or}
use Rattle.std.specs.List.{list_all}
use Rattle.std.proofs.lemmas.Bool.{and_parts}
use Rattle.std.proofs.lemmas.Bool.Decides.{nat_tests}
use Rattle.std.proofs.lemmas.List.{length-map}
use Rattle.kh_types.specs.Complex.{Complex, Degree, IsComplex, degree_from, degree_of, empty_degree, entry_in, is_zero}
use Rattle.kh_types.proofs.ComplexLemmas.{degree_of-number}
use Rattle.prime_field.specs.Residues.{IsField}
use Rattle.sparse_block.specs.Complexes.{complex_from, no_columns}
use Rattle.sparse_block.proofs.DegreeLemmas.{degree_number-from, length-degrees_from}
use Rattle.sparse_block.proofs.ZeroComplexes.{complex-zero, entry-zero}
use Rattle.column_reduction.specs.StoredColumns.{alive_in}
use Rattle.column_reduction.proofs.Alike.{complex-alike}
use Rattle.column_reduction.proofs.Marks.{alive-number}

row-zeros : (row : List ℕ) (column : ℕ) → list_all (nat_eq 0) row ≡ true → slice_index row column ≡ 0
row-zeros [] column zeros = refl
row-zeros (x ∷ row) zero zeros = grind (arith, nat_tests)
row-zeros (x ∷ row) (suc column) zeros = row-zeros row column (and_parts (nat_eq 0 x) (list_all (nat_eq 0) row) zeros).1

abbrev are_zeros : List (List ℕ) → Bool
are_zeros matrix = list_all (λ row. list_all (nat_eq 0) row) matrix

matrix-zeros : (matrix : List (List ℕ)) (row column : ℕ) → are_zeros matrix ≡ true → entry_in matrix row column ≡ 0
matrix-zeros [] row column zeros = refl
matrix-zeros (first ∷ matrix) zero column zeros = row-zeros first column (and_parts (list_all (nat_eq 0) first) (are_zeros matrix) zeros).0
matrix-zeros (first ∷ matrix) (suc row) column zeros =
    matrix-zeros matrix row column (and_parts (list_all (nat_eq 0) first) (are_zeros matrix) zeros).1

degrees-zeros : (degrees : List Degree) (k row column : ℕ) → list_all (λ degree. are_zeros degree.matrix) degrees ≡ true
    → entry_in (slice_index_or degrees k empty_degree).matrix row column ≡ 0
degrees-zeros [] k row column zeros = refl
degrees-zeros (degree ∷ degrees) zero row column zeros =
    matrix-zeros degree.matrix row column
    (and_parts (are_zeros degree.matrix) (list_all (λ degree. are_zeros degree.matrix) degrees) zeros).0
degrees-zeros (degree ∷ degrees) (suc k) row column zeros =
    degrees-zeros degrees k row column
    (and_parts (are_zeros degree.matrix) (list_all (λ degree. are_zeros degree.matrix) degrees) zeros).1

module _ (complex : Complex) (zeros : is_zero complex ≡ true) where
  pub entry-from : (distance : ℤ) (row column : ℕ) → entry_in (degree_from complex distance).matrix row column ≡ 0
  entry-from (pos k) row column = degrees-zeros complex.degrees k row column zeros
  entry-from (negsuc k) row column = refl

module _ (p : ℕ) (low : ℤ) (alive : List (List Bool)) (after : Complex) (field : IsField p) (is : IsComplex p after)
    (at : low ≡ after.low) (are : alive ≡ alive_in after) (zeros : is_zero after ≡ true) where
  abbrev made : Complex
  made = complex_from low alive (no_columns alive)

  alive-from : (distance : ℤ) → (degree_from made distance).alive ≡ (degree_from after distance).alive
  alive-from (pos k) =
      ap (λ (degree : Degree). degree.alive) (degree_number-from low alive (no_columns alive) k)
      ∙ ap (λ (alive : List (List Bool)). slice_index_or alive k []) are ∙ alive-number after k
      ∙ ap (λ (degree : Degree). degree.alive) (degree_of-number after k)
  alive-from (negsuc k) = refl

  alive-of : (i : ℤ) → (degree_of made i).alive ≡ (degree_of after i).alive
  alive-of i =
      alive-from (i -ℤ low) ∙ ap (λ (low : ℤ). (degree_from after (i -ℤ low)).alive) at

  pub zero-left : made ≡ after
  zero-left =
      complex-alike p p made after (complex-zero p low alive (omega (arith, field.above_one))) is at
      (length-degrees_from alive (no_columns alive) ∙ ap length are ∙ length-map after.degrees (λ (degree : Degree). degree.alive))
      (λ i. ap length (alive-of i)) (λ i place. ap (λ (alive : List Bool). slice_index_or alive place false) (alive-of i))
      (λ i row column.
      entry-zero p low alive i row column ∙ sym (entry-from after zeros (i -ℤ after.low) row column))
