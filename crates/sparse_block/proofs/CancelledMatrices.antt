-- The matrices of a complex after a cancellation: they keep their sizes, with entries below p, and are 0 in the rows and columns
-- of dead places. In the pivot's degree the entries are what the pivot leaves modulo p; in the degree after it a column is put to
-- 0, in the degree before it a row, and elsewhere nothing changes. An entry 0 stays 0 where its row has 0 in the pivot's column,
-- or its column has 0 in the pivot's row; and the pivot's own column and row become 0. A place that is dead afterwards was dead
-- before, so its whole line was 0 and stays 0; or it is that of the pivot's column or row, whose lines the cancellation puts to 0
-- in its degree and beside it.
use Rattle.std.proofs.lemmas.Bool.Decides.{nat_tests}
use Rattle.std.proofs.Common.{◌≡◌, ℕ, ◌+◌, ◌*◌, ◌%◌, ◌<◌, ◌≢◌, ◌∙◌, ◌⊎◌, inl, inr, List, ℤ, pos, ◌+ℤ◌, length, ap, sym, subst, arith, true, false}
use Rattle.std.specs.Prelude.{nat_eq, slice_index_or}
use Rattle.std.proofs.Math.Nat.{zero-mod, mod-eq_of_lt}
use Rattle.std.proofs.lemmas.Bool.{cond-true, eq-eqb}
use Rattle.std.proofs.lemmas.Int.{ints}
use Rattle.kh_types.specs.Complex.{Complex, Pivot, IsComplex, IsPivot, degree_of, entry_in, entry_of, cancelled_matrix, cancel}
use Rattle.prime_field.specs.Residues.{IsField}
use Rattle.kh_types.specs.MatrixRanks.{IsMatrix, Leaves}
use Rattle.kh_types.specs.Residues.{Same}
use Rattle.kh_types.proofs.Residues.{same-equal, same-rest}
use Rattle.kh_types.proofs.PivotLemmas.{leaves-row, leaves-column}
use Rattle.kh_types.proofs.PlainRank.{other-below}
use Rattle.kh_types.proofs.MatrixEntries.{entry_cancelled, entry_cancelled-below, entry-cancelled_matrix, leaves-entry_cancelled, entry-without_row, entry-without_column, matrix-without_row, matrix-without_column, matrix-with_entries, if_zero}
use Rattle.sparse_block.proofs.FieldInverses.{inverses-field}
use Rattle.sparse_block.proofs.ComplexMatrices.{matrix-of_degree, entry-stands}
use Rattle.sparse_block.proofs.CancelledDegrees.{Where, where_is, Died, died-cancel, degree-at_pivot, degree-after_pivot, degree-before_pivot, degree-elsewhere}

-- the pivot's entry, by another name of its degree
pub pivot-at : (complex : Complex) (pivot : Pivot) (i : ℤ) → i ≡ pivot.degree → IsPivot complex pivot
    → entry_of complex i pivot.row pivot.column ≢ 0
pivot-at complex pivot i here is_pivot = subst (λ d. entry_of complex d pivot.row pivot.column ≢ 0) (sym here) is_pivot

-- the matrix of the pivot's degree: it has the size that it had, and its entries are what the pivot leaves
pub matrix-cancelled : (p n : ℕ) (pivot : Pivot) (rows : List (List ℕ)) → 0 < p → IsMatrix p n rows → pivot.row < length rows
    → IsMatrix p n (cancelled_matrix p pivot rows)
matrix-cancelled p n pivot rows positive is within =
    grind (arith, nat_tests, matrix-with_entries, entry_cancelled, entry-cancelled_matrix, entry_cancelled-below)

pub leaves-cancelled : (p n : ℕ) (pivot : Pivot) (rows : List (List ℕ)) → IsField p → IsMatrix p n rows → pivot.row < length rows
    → entry_in rows pivot.row pivot.column ≢ 0
    → Leaves p (entry_in rows) (entry_in (cancelled_matrix p pivot rows)) pivot.row pivot.column
leaves-cancelled p n pivot rows field is within other =
    let a = pivot.row in
    let b = pivot.column in
    let leaves = leaves-entry_cancelled p a b (entry_in rows) (inverses-field p field) (other-below p (entry_in rows a b) (is.below a b) other) in
    record {
      inverse = leaves.inverse;
      inverts = leaves.inverts;
      others = λ i j.
          ap (λ x. (entry_in rows i b * (leaves.inverse * entry_in rows a j) + x) % p) (entry-cancelled_matrix p pivot rows n is within i j)
          ∙ leaves.others i j;
    }

-- so in the complex: at the pivot's degree, by whatever name
pub leaves-cancel : (p : ℕ) (complex : Complex) (pivot : Pivot) (i : ℤ) → IsField p → IsComplex p complex → IsPivot complex pivot
    → i ≡ pivot.degree
    → Leaves p (entry_of complex i) (entry_in (cancelled_matrix p pivot (degree_of complex i).matrix)) pivot.row pivot.column
leaves-cancel p complex pivot i field is is_pivot here =
    let other = pivot-at complex pivot i here is_pivot in
    leaves-cancelled p (length (degree_of complex i).alive) pivot (degree_of complex i).matrix field (matrix-of_degree p complex is i)
    (entry-stands p complex i pivot.row pivot.column is other).row_within other

-- all matrices keep their sizes, with entries below p
pub matrix-cancel : (p : ℕ) (complex : Complex) (pivot : Pivot) (i : ℤ) → IsField p → IsComplex p complex → IsPivot complex pivot
    → IsMatrix p (length (degree_of complex i).alive) (degree_of (cancel p complex pivot) i).matrix
matrix-cancel p complex pivot i field is is_pivot =
    let n = length (degree_of complex i).alive in
    let rows = (degree_of complex i).matrix in
    let before = matrix-of_degree p complex is i in
    let positive : 0 < p = omega (arith, field.above_one) in
    elim (where_is i pivot.degree) [
      | Where.is_at here ↦
          let stands = entry-stands p complex i pivot.row pivot.column is (pivot-at complex pivot i here is_pivot) in
          subst (λ degree. IsMatrix p n degree.matrix) (sym (degree-at_pivot p complex pivot i here))
          (matrix-cancelled p n pivot rows positive before stands.row_within)
      | Where.is_after here ↦
          subst (λ degree. IsMatrix p n degree.matrix) (sym (degree-after_pivot p complex pivot i here))
          (matrix-without_column p n pivot.row rows positive before)
      | Where.is_before here ↦
          subst (λ degree. IsMatrix p n degree.matrix) (sym (degree-before_pivot p complex pivot i here))
          (matrix-without_row p n pivot.column rows positive before)
      | Where.is_elsewhere not_here not_after not_before ↦
          subst (λ degree. IsMatrix p n degree.matrix) (sym (degree-elsewhere p complex pivot i not_here not_after not_before)) before
    ]

-- an entry after the cancellation that is 0 modulo p is 0
zero-modulo : (p : ℕ) (complex : Complex) (pivot : Pivot) (i : ℤ) (row column : ℕ) → IsField p → IsComplex p complex
    → IsPivot complex pivot → Same p (entry_of (cancel p complex pivot) i row column) 0
    → entry_of (cancel p complex pivot) i row column ≡ 0
zero-modulo p complex pivot i row column field is is_pivot same =
    sym (mod-eq_of_lt ((matrix-cancel p complex pivot i field is is_pivot).below row column)) ∙ same ∙ zero-mod p

way-zero : (x y z : ℕ) → (x ≡ 0) ⊎ (z ≡ 0) → x * (y * z) ≡ 0
way-zero x y z has3 = grind (arith, nat_tests)

-- an entry 0 stays 0, where its row has 0 in the pivot's column, or its column in the pivot's row
zero-cancel : (p : ℕ) (complex : Complex) (pivot : Pivot) (i : ℤ) (row column : ℕ) → IsField p → IsComplex p complex
    → IsPivot complex pivot → entry_of complex i row column ≡ 0
    → (entry_of complex i row pivot.column ≡ 0) ⊎ (entry_of complex i pivot.row column ≡ 0)
    → entry_of (cancel p complex pivot) i row column ≡ 0
zero-cancel p complex pivot i row column field is is_pivot zero_there way =
    let rows = (degree_of complex i).matrix in
    let entry = entry_of complex i row column in
    elim (where_is i pivot.degree) [
      | Where.is_at here ↦
          let leaves = leaves-cancel p complex pivot i field is is_pivot here in
          let back = entry_of complex i row pivot.column * (leaves.inverse * entry_of complex i pivot.row column) in
          let left = entry_in (cancelled_matrix p pivot rows) row column in
          let is_left : entry_of (cancel p complex pivot) i row column ≡ left =
          ap (λ degree. entry_in degree.matrix row column) (degree-at_pivot p complex pivot i here) in
          let none : Same p back 0 =
          same-equal p back 0
          (way-zero (entry_of complex i row pivot.column) leaves.inverse (entry_of complex i pivot.row column) way) in
          zero-modulo p complex pivot i row column field is is_pivot
          (ap (λ z. z % p) is_left ∙ same-rest p back left 0 none (leaves.others row column ∙ same-equal p entry 0 zero_there))
      | Where.is_after here ↦
          ap (λ degree. entry_in degree.matrix row column) (degree-after_pivot p complex pivot i here)
          ∙ entry-without_column pivot.row rows row column ∙ if_zero (nat_eq column pivot.row) entry zero_there
      | Where.is_before here ↦
          ap (λ degree. entry_in degree.matrix row column) (degree-before_pivot p complex pivot i here)
          ∙ entry-without_row pivot.column rows row column ∙ if_zero (nat_eq row pivot.column) entry zero_there
      | Where.is_elsewhere not_here not_after not_before ↦
          ap (λ degree. entry_in degree.matrix row column) (degree-elsewhere p complex pivot i not_here not_after not_before)
          ∙ zero_there
    ]

-- the pivot's column and row become 0
pub pivot_column-cancel : (p : ℕ) (complex : Complex) (pivot : Pivot) (i : ℤ) (row column : ℕ) → IsField p → IsComplex p complex
    → IsPivot complex pivot → i ≡ pivot.degree → column ≡ pivot.column → entry_of (cancel p complex pivot) i row column ≡ 0
pivot_column-cancel p complex pivot i row column field is is_pivot here same =
    let positive : 0 < p = omega (arith, field.above_one) in
    let left = entry_in (cancelled_matrix p pivot (degree_of complex i).matrix) in
    let leaves = leaves-cancel p complex pivot i field is is_pivot here in
    zero-modulo p complex pivot i row column field is is_pivot
    (ap (λ degree. entry_in degree.matrix row column % p) (degree-at_pivot p complex pivot i here)
    ∙ ap (λ k. left row k % p) same
    ∙ leaves-column p (entry_of complex i) left pivot.row pivot.column positive leaves row)

pub pivot_row-cancel : (p : ℕ) (complex : Complex) (pivot : Pivot) (i : ℤ) (row column : ℕ) → IsField p → IsComplex p complex
    → IsPivot complex pivot → i ≡ pivot.degree → row ≡ pivot.row → entry_of (cancel p complex pivot) i row column ≡ 0
pivot_row-cancel p complex pivot i row column field is is_pivot here same =
    let positive : 0 < p = omega (arith, field.above_one) in
    let left = entry_in (cancelled_matrix p pivot (degree_of complex i).matrix) in
    let leaves = leaves-cancel p complex pivot i field is is_pivot here in
    zero-modulo p complex pivot i row column field is is_pivot
    (ap (λ degree. entry_in degree.matrix row column % p) (degree-at_pivot p complex pivot i here)
    ∙ ap (λ k. left k column % p) same
    ∙ leaves-row p (entry_of complex i) left pivot.row pivot.column positive leaves column)

-- columns and rows of dead places are 0
pub dead_column-cancel : (p : ℕ) (complex : Complex) (pivot : Pivot) (i : ℤ) (row column : ℕ) → IsField p → IsComplex p complex
    → IsPivot complex pivot → slice_index_or (degree_of (cancel p complex pivot) i).alive column true ≡ false
    → entry_of (cancel p complex pivot) i row column ≡ 0
dead_column-cancel p complex pivot i row column field is is_pivot dead =
    elim (died-cancel p complex pivot i column dead) [
      | Died.was_dead was ↦
          zero-cancel p complex pivot i row column field is is_pivot (is.dead_column i row column was)
          (inr (is.dead_column i pivot.row column was))
      | Died.is_column here now ↦ pivot_column-cancel p complex pivot i row column field is is_pivot here now
      | Died.is_row here now ↦
          ap (λ degree. entry_in degree.matrix row column) (degree-after_pivot p complex pivot i here)
          ∙ entry-without_column pivot.row (degree_of complex i).matrix row column
          ∙ cond-true (nat_eq column pivot.row) 0 (entry_of complex i row column) (eq-eqb column pivot.row now)
    ]

pub dead_row-cancel : (p : ℕ) (complex : Complex) (pivot : Pivot) (i : ℤ) (row column : ℕ) → IsField p → IsComplex p complex
    → IsPivot complex pivot → slice_index_or (degree_of (cancel p complex pivot) (i +ℤ pos 1)).alive row true ≡ false
    → entry_of (cancel p complex pivot) i row column ≡ 0
dead_row-cancel p complex pivot i row column field is is_pivot dead =
    elim (died-cancel p complex pivot (i +ℤ pos 1) row dead) [
      | Died.was_dead was ↦
          zero-cancel p complex pivot i row column field is is_pivot (is.dead_row i row column was)
          (inl (is.dead_row i row pivot.column was))
      | Died.is_column here now ↦
          ap (λ degree. entry_in degree.matrix row column) (degree-before_pivot p complex pivot i here)
          ∙ entry-without_row pivot.column (degree_of complex i).matrix row column
          ∙ cond-true (nat_eq row pivot.column) 0 (entry_of complex i row column) (eq-eqb row pivot.column now)
      | Died.is_row here now ↦ pivot_row-cancel p complex pivot i row column field is is_pivot (omega (arith, ints)) now
    ]
