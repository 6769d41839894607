-- Over a field, the cancellation of an entry other than 0 leaves a complex of a complex.
use Rattle.std.proofs.lemmas.Bool.Decides.{nat_tests}
use Rattle.std.proofs.Common.{◌≡◌, ℕ, ◌+◌, ◌<◌, ◌∙◌, List, [], ℤ, pos, ◌+ℤ◌, length, map, ap, sym, arith}
use Rattle.std.specs.Prelude.{slice_index_or}
use Rattle.std.proofs.Math.ListN.{get_or-map}
use Rattle.std.proofs.Math.Nat.{zero-mod}
use Rattle.std.proofs.lemmas.Int.{ints}
use Rattle.std.proofs.lemmas.List.{length-map}
use Rattle.kh_types.specs.Complex.{Complex, Pivot, IsComplex, IsPivot, degree_number, degree_of, entry_in, entry_of, product_entry, cancelled_matrix, cancel}
use Rattle.kh_types.proofs.CancelLemmas.{sizes-cancel, places-cancel, degrees-cancel}
use Rattle.prime_field.specs.Residues.{IsField}
use Rattle.kh_types.specs.Residues.{Same}
use Rattle.kh_types.specs.Products.{product_at}
use Rattle.kh_types.proofs.Sums.{sum_below-equal}
use Rattle.kh_types.proofs.DependentRows.{row_cleared, column_cleared}
use Rattle.kh_types.proofs.MatrixEntries.{entry-without_row, entry-without_column}
use Rattle.sparse_block.proofs.ComplexMatrices.{product_of-below, product-of_complex}
use Rattle.sparse_block.proofs.CancelledDegrees.{Where, where_is, degree-at_pivot, degree-after_pivot, degree-before_pivot, degree-elsewhere}
use Rattle.sparse_block.proofs.CancelledProducts.{product-below_pivot, product-above_pivot, product-column_cleared, product-row_cleared}
use Rattle.sparse_block.proofs.CancelledMatrices.{leaves-cancel, matrix-cancel, dead_column-cancel, dead_row-cancel}
use Rattle.kh_types.proofs.ComplexLemmas.{degree_of-number}

-- the product after a cancellation, by what the entries of the two matrices are then
product-from_entries : (p : ℕ) (complex : Complex) (pivot : Pivot) (i : ℤ) (row column : ℕ) (U L : ℕ → ℕ → ℕ)
    → ((m : ℕ) → entry_of (cancel p complex pivot) (i +ℤ pos 1) row m ≡ U row m)
    → ((m : ℕ) → entry_of (cancel p complex pivot) i m column ≡ L m column)
    → Same p (product_at (length (degree_of complex (i +ℤ pos 1)).alive) U L row column) 0
    → product_entry p (cancel p complex pivot) i row column ≡ 0
product-from_entries p complex pivot i row column U L is_upper is_lower is_zero =
    grind (arith, nat_tests, product_of-below, places-cancel, sum_below-equal, zero-mod)

product-cancel : (p : ℕ) (complex : Complex) (pivot : Pivot) (i : ℤ) (row column : ℕ) → IsField p
    → IsComplex p complex → IsPivot complex pivot → product_entry p (cancel p complex pivot) i row column ≡ 0
product-cancel p complex pivot i row column field is is_pivot =
    let next = i +ℤ pos 1 in
    let upper = (degree_of complex next).matrix in
    let lower = (degree_of complex i).matrix in
    let places = length (degree_of complex next).alive in
    let positive : 0 < p = omega (arith, field.above_one) in
    let before : (r c : ℕ) → Same p (product_at places (entry_in upper) (entry_in lower) r c) 0 =
    λ r c. product-of_complex p complex i r c is in
    elim (where_is i pivot.degree) [
      | Where.is_at here ↦
          let above : next ≡ pivot.degree +ℤ pos 1 = omega (arith, ints) in
          let left = entry_in (cancelled_matrix p pivot lower) in
          product-from_entries p complex pivot i row column (column_cleared pivot.row (entry_in upper)) left
          (λ m. ap (λ degree. entry_in degree.matrix row m) (degree-after_pivot p complex pivot next above)
          ∙ entry-without_column pivot.row upper row m)
          (λ m. ap (λ degree. entry_in degree.matrix m column) (degree-at_pivot p complex pivot i here))
          (product-below_pivot p places pivot.row pivot.column row column (entry_in upper) (entry_in lower) left positive
          (leaves-cancel p complex pivot i field is is_pivot here) (before row pivot.column) (before row column))
      | Where.is_before here ↦
          let left = entry_in (cancelled_matrix p pivot upper) in
          product-from_entries p complex pivot i row column left (row_cleared pivot.column (entry_in lower))
          (λ m. ap (λ degree. entry_in degree.matrix row m) (degree-at_pivot p complex pivot next here))
          (λ m. ap (λ degree. entry_in degree.matrix m column) (degree-before_pivot p complex pivot i here)
          ∙ entry-without_row pivot.column lower m column)
          (product-above_pivot p places pivot.row pivot.column row column (entry_in upper) (entry_in lower) left positive
          (leaves-cancel p complex pivot next field is is_pivot here) (before pivot.row column) (before row column))
      | Where.is_after here ↦
          let stays = degree-elsewhere p complex pivot next (λ same. omega (arith, ints)) (λ same. omega (arith, ints))
          (λ same. omega (arith, ints)) in
          product-from_entries p complex pivot i row column (entry_in upper) (column_cleared pivot.row (entry_in lower))
          (λ m. ap (λ degree. entry_in degree.matrix row m) stays)
          (λ m. ap (λ degree. entry_in degree.matrix m column) (degree-after_pivot p complex pivot i here)
          ∙ entry-without_column pivot.row lower m column)
          (product-column_cleared p places pivot.row row column (entry_in upper) (entry_in lower) (before row column))
      | Where.is_elsewhere not_here not_after not_before ↦
          let stays = degree-elsewhere p complex pivot i not_here not_after not_before in
          elim (where_is next pivot.degree) [
            | Where.is_at there ↦ absurd (not_before there)
            | Where.is_after there ↦ absurd (not_here (omega (arith, ints)))
            | Where.is_before there ↦
                product-from_entries p complex pivot i row column (row_cleared pivot.column (entry_in upper)) (entry_in lower)
                (λ m. ap (λ degree. entry_in degree.matrix row m) (degree-before_pivot p complex pivot next there)
                ∙ entry-without_row pivot.column upper row m)
                (λ m. ap (λ degree. entry_in degree.matrix m column) stays)
                (product-row_cleared p places pivot.column row column (entry_in upper) (entry_in lower) (before row column))
            | Where.is_elsewhere not_there not_after_there not_before_there ↦
                product-from_entries p complex pivot i row column (entry_in upper) (entry_in lower)
                (λ m. ap (λ degree. entry_in degree.matrix row m)
                (degree-elsewhere p complex pivot next not_there not_after_there not_before_there))
                (λ m. ap (λ degree. entry_in degree.matrix m column) stays) (before row column)
          ]
    ]

-- sizes by the numbers of degrees
pub places_number-cancel : (p : ℕ) (complex : Complex) (pivot : Pivot) (k : ℕ)
    → length (degree_number (cancel p complex pivot) k).alive ≡ length (degree_number complex k).alive
places_number-cancel p complex pivot k =
    ap (λ degree. length degree.alive) (sym (degree_of-number (cancel p complex pivot) k))
    ∙ places-cancel p complex pivot (complex.low +ℤ pos k)
    ∙ ap (λ degree. length degree.alive) (degree_of-number complex k)

sizes_number-cancel : (p : ℕ) (complex : Complex) (pivot : Pivot) (k : ℕ)
    → map length (degree_number (cancel p complex pivot) k).matrix ≡ map length (degree_number complex k).matrix
sizes_number-cancel p complex pivot k =
    ap (λ degree. map length degree.matrix) (sym (degree_of-number (cancel p complex pivot) k))
    ∙ sizes-cancel p complex pivot (complex.low +ℤ pos k)
    ∙ ap (λ degree. map length degree.matrix) (degree_of-number complex k)

height-from_sizes : (after before : List (List ℕ)) → map length after ≡ map length before → length after ≡ length before
height-from_sizes after before same = sym (length-map after length) ∙ ap length same ∙ length-map before length

width-from_sizes : (after before : List (List ℕ)) (row : ℕ) → map length after ≡ map length before
    → length (slice_index_or after row []) ≡ length (slice_index_or before row [])
width-from_sizes after before row same =
    sym (get_or-map length after row []) ∙ ap (λ sizes. slice_index_or sizes row 0) same ∙ get_or-map length before row []

pub complex-cancel : (p : ℕ) (complex : Complex) (pivot : Pivot) → IsField p → IsComplex p complex
    → IsPivot complex pivot → IsComplex p (cancel p complex pivot)
complex-cancel p complex pivot field is is_pivot =
    let after = cancel p complex pivot in
    let height : (k : ℕ) → length (degree_number after k).matrix ≡ length (degree_number complex k).matrix =
    λ k. height-from_sizes (degree_number after k).matrix (degree_number complex k).matrix (sizes_number-cancel p complex pivot k) in
    record {
      rows = λ k within.
          let before : length (degree_number complex k).matrix ≡ length (degree_number complex (k + 1)).alive =
          is.rows k (omega (arith, degrees-cancel p complex pivot)) in
          height k ∙ before ∙ sym (places_number-cancel p complex pivot (k + 1));
      columns = λ k row within.
          let before : length (slice_index_or (degree_number complex k).matrix row []) ≡ length (degree_number complex k).alive =
          is.columns k row (omega (arith, height k)) in
          width-from_sizes (degree_number after k).matrix (degree_number complex k).matrix row (sizes_number-cancel p complex pivot k)
          ∙ before ∙ sym (places_number-cancel p complex pivot k);
      below = λ i. (matrix-cancel p complex pivot i field is is_pivot).below;
      dead_column = λ i row column. dead_column-cancel p complex pivot i row column field is is_pivot;
      dead_row = λ i row column. dead_row-cancel p complex pivot i row column field is is_pivot;
      product = λ i row column. product-cancel p complex pivot i row column field is is_pivot;
    }
