-- The entries of a matrix that is made entry by entry, and what a cancellation makes of them.
--
-- Matrices are lists of rows, and steps on them are said entry by entry. `with_entries` makes each entry anew from its row and column, and
-- keeps the size. So what a cancellation does is one formula for an entry (`entry_cancelled`), which is 0 in the row and in the column of
-- the pivot, and the entry less the way through the pivot elsewhere; and that is what PivotLemmas asks of entries that a pivot leaves.
use Rattle.std.proofs.lemmas.Bool.Decides.{nat_tests}
use Rattle.std.proofs.Common.{◌≡◌, ℕ, ◌+◌, ◌*◌, ◌≤◌, ◌<◌, ◌≢◌, ◌∙◌, ◌⊎◌, inl, inr, List, [], length, map, ap, sym, arith, Bool, true, false, ◌||◌}
use Rattle.std.specs.Prelude.{nat_eq, slice_index, slice_index_or, if◌then◌else◌}
use Rattle.std.specs.List.{enumerate_from}
use Rattle.std.proofs.lemmas.Bool.Decides.{eqb_tells, leb_tells}
use Rattle.std.proofs.lemmas.List.{length-map, get_or-map, get_or_past}
use Rattle.std.proofs.lemmas.List.FromFn.{length-enumerate_from, get_or-enumerate_from}
use Rattle.kh_types.specs.Rank.{inverse, minus_mod}
use Rattle.kh_types.specs.Complex.{Pivot, entry_in, with_entries, cancelled_matrix, without_row, without_column}
use Rattle.kh_types.specs.Residues.{HasInverses, Same}
use Rattle.kh_types.specs.MatrixRanks.{IsMatrix, Leaves}
use Rattle.kh_types.proofs.Residues.{same-inverse, same-equal, same-unit_left, same-unit_right}
use Rattle.kh_types.proofs.DependentRows.{row_cleared, column_cleared}
use Rattle.kh_types.proofs.Reduced.{minus_mod-nothing, minus_mod-added}
use Rattle.kh_types.proofs.MatrixTests.{entry-past_rows}

-- a row made entry by entry
abbrev row_made : (ℕ → ℕ) → List ℕ → List ℕ
row_made entry row = map (λ column. entry column.0) (enumerate_from 0 row)

length-row_made : (entry : ℕ → ℕ) (row : List ℕ) → length (row_made entry row) ≡ length row
length-row_made entry row = length-map (enumerate_from 0 row) (λ column. entry column.0) ∙ length-enumerate_from 0 row

slice_index-row_made : (entry : ℕ → ℕ) (row : List ℕ) (j : ℕ) → (length row ≤ j → entry j ≡ 0)
    → slice_index (row_made entry row) j ≡ entry j
slice_index-row_made entry row j past_zero =
    elim (leb_tells (length row) j) [
      | inl past ↦
          get_or_past (row_made entry row) j 0 (omega (arith, length-row_made entry row, past.1)) ∙ sym (past_zero past.1)
      | inr below ↦
          get_or-map (λ column. entry column.0) (enumerate_from 0 row) j (0, 0) 0
          (omega (arith, length-enumerate_from 0 row, below.1))
          ∙ ap (λ pair. entry pair.0) (get_or-enumerate_from 0 row j (0, 0) below.1) ∙ ap entry (omega arith)
    ]

-- the rows of a matrix made entry by entry
pub length-with_entries : (entry : ℕ → ℕ → ℕ) (rows : List (List ℕ)) → length (with_entries entry rows) ≡ length rows
length-with_entries entry rows = grind (arith, nat_tests, length-map, length-enumerate_from)

row-with_entries : (entry : ℕ → ℕ → ℕ) (rows : List (List ℕ)) (i : ℕ) → i < length rows
    → slice_index_or (with_entries entry rows) i [] ≡ row_made (entry i) (slice_index_or rows i [])
row-with_entries entry rows i below =
    let none : ℕ × List ℕ = (0, []) in
    let zero_first : 0 + i ≡ i = omega arith in
    get_or-map (λ row. row_made (entry row.0) row.1) (enumerate_from 0 rows) i none []
    (omega (arith, length-enumerate_from 0 rows, below))
    ∙ ap (λ pair. row_made (entry pair.0) pair.1) (get_or-enumerate_from 0 rows i none below)
    ∙ ap (λ k. row_made (entry k) (slice_index_or rows i [])) zero_first

-- the entries are those given, where these are 0 past the end
pub entry-with_entries : (entry : ℕ → ℕ → ℕ) (rows : List (List ℕ))
    → ((i j : ℕ) → length rows ≤ i → entry i j ≡ 0)
    → ((i j : ℕ) → length (slice_index_or rows i []) ≤ j → entry i j ≡ 0) → (i j : ℕ)
    → entry_in (with_entries entry rows) i j ≡ entry i j
entry-with_entries entry rows past_rows past_columns i j =
    grind (arith, nat_tests, leb_tells, get_or_past, length-with_entries, row-with_entries, slice_index-row_made)

-- and the matrix has the size that it had
pub matrix-with_entries : (p n : ℕ) (entry : ℕ → ℕ → ℕ) (rows : List (List ℕ)) → IsMatrix p n rows
    → ((i j : ℕ) → entry_in (with_entries entry rows) i j ≡ entry i j) → ((i j : ℕ) → entry i j < p)
    → IsMatrix p n (with_entries entry rows)
matrix-with_entries p n entry rows is entries below = grind (arith, nat_tests, length-with_entries, row-with_entries, length-row_made)

-- past the end, entries are 0
pub entry-past_columns : (rows : List (List ℕ)) (i j : ℕ) → length (slice_index_or rows i []) ≤ j → entry_in rows i j ≡ 0
entry-past_columns rows i j past = get_or_past (slice_index_or rows i []) j 0 past

pub if_zero : (b : Bool) (x : ℕ) → x ≡ 0 → (if b then 0 else x) ≡ 0
if_zero b x is_zero = grind (arith, nat_tests)

if_below : (b : Bool) (x p : ℕ) → 0 < p → x < p → (if b then 0 else x) < p
if_below b x p positive below = grind (arith, nat_tests)

-- an entry after the cancellation of a pivot at a row and a column
abbrev pub entry_cancelled : ℕ → ℕ → ℕ → (ℕ → ℕ → ℕ) → ℕ → ℕ → ℕ
entry_cancelled p a b matrix row column =
    if nat_eq row a || nat_eq column b then 0
    else minus_mod p (matrix row column) (matrix row b * (inverse p (matrix a b) * matrix a column))

entry_cancelled-past : (p a b i j : ℕ) (M : ℕ → ℕ → ℕ) → M i j ≡ 0 → (M i b ≡ 0) ⊎ (M a j ≡ 0)
    → entry_cancelled p a b M i j ≡ 0
entry_cancelled-past p a b i j M entry way =
    if_zero (nat_eq i a || nat_eq j b) (minus_mod p (M i j) (M i b * (inverse p (M a b) * M a j)))
    (ap (λ x. minus_mod p x (M i b * (inverse p (M a b) * M a j))) entry
    ∙ minus_mod-nothing p (M i b * (inverse p (M a b) * M a j)) (nothing way))
  where
    nothing : (M i b ≡ 0) ⊎ (M a j ≡ 0) → M i b * (inverse p (M a b) * M a j) ≡ 0
    nothing (inl row) = ap (λ x. x * (inverse p (M a b) * M a j)) row ∙ omega arith
    nothing (inr column) = ap (λ x. M i b * (inverse p (M a b) * x)) column ∙ omega arith

pub entry-cancelled_matrix : (p : ℕ) (pivot : Pivot) (rows : List (List ℕ)) (n : ℕ) → IsMatrix p n rows
    → pivot.row < length rows → (i j : ℕ)
    → entry_in (cancelled_matrix p pivot rows) i j ≡ entry_cancelled p pivot.row pivot.column (entry_in rows) i j
entry-cancelled_matrix p pivot rows n is within =
    entry-with_entries (entry_cancelled p pivot.row pivot.column (entry_in rows)) rows
    (λ i j past.
    entry_cancelled-past p pivot.row pivot.column i j (entry_in rows) (entry-past_rows rows i j past)
    (inl (entry-past_rows rows i pivot.column past)))
    (λ i j past.
    elim (leb_tells (length rows) i) [
      | inl past_rows ↦
          entry_cancelled-past p pivot.row pivot.column i j (entry_in rows) (entry-past_rows rows i j past_rows.1)
          (inl (entry-past_rows rows i pivot.column past_rows.1))
      | inr below ↦
          entry_cancelled-past p pivot.row pivot.column i j (entry_in rows) (entry-past_columns rows i j past)
          (inr (entry-past_columns rows pivot.row j (omega (arith, is.width i below.1, is.width pivot.row within, past))))
    ])

-- the way back through a pivot and what it leaves of an entry, by the tests of the row and of the column
abbrev with_tests : ℕ → ℕ → ℕ → Bool → Bool → ℕ
with_tests p entry way in_row in_column = way + (if in_row || in_column then 0 else minus_mod p entry way)

-- those entries are what the pivot leaves
pub leaves-entry_cancelled : (p a b : ℕ) (M : ℕ → ℕ → ℕ) → HasInverses p → ¬ Same p (M a b) 0
    → Leaves p M (entry_cancelled p a b M) a b
leaves-entry_cancelled p a b M field other =
    record { inverse = inverse p (M a b); inverts = inverts; others = λ i j. at i j (eqb_tells i a) (eqb_tells j b) }
  where
    inverts : Same p (M a b * inverse p (M a b)) 1
    inverts = same-inverse p (M a b) field other

    at : (i j : ℕ) → ((nat_eq i a ≡ true) × (i ≡ a)) ⊎ ((nat_eq i a ≡ false) × (i ≢ a))
        → ((nat_eq j b ≡ true) × (j ≡ b)) ⊎ ((nat_eq j b ≡ false) × (j ≢ b))
        → Same p (M i b * (inverse p (M a b) * M a j) + entry_cancelled p a b M i j) (M i j)
    at i j (inl same) column = grind (arith, nat_tests, same-equal, same-unit_left, inverts)
    at i j (inr other_row) (inl same) = grind (arith, nat_tests, same-equal, same-unit_right, inverts)
    at i j (inr other_row) (inr other_column) = grind (arith, nat_tests, minus_mod-added)

pub entry_cancelled-below : (p a b i j : ℕ) (M : ℕ → ℕ → ℕ) → 0 < p → entry_cancelled p a b M i j < p
entry_cancelled-below p a b i j M positive = grind (arith, nat_tests)

-- the entries of a matrix with 0 in a row, and in a column
pub entry-without_row : (dead : ℕ) (rows : List (List ℕ)) (i j : ℕ)
    → entry_in (without_row dead rows) i j ≡ row_cleared dead (entry_in rows) i j
entry-without_row dead rows i j = grind (arith, nat_tests, entry-with_entries, row_cleared, if_zero, entry-past_rows, entry-past_columns)

pub entry-without_column : (dead : ℕ) (rows : List (List ℕ)) (i j : ℕ)
    → entry_in (without_column dead rows) i j ≡ column_cleared dead (entry_in rows) i j
entry-without_column dead rows i j =
    grind (arith, nat_tests, entry-with_entries, column_cleared, if_zero, entry-past_rows, entry-past_columns)

pub matrix-without_row : (p n dead : ℕ) (rows : List (List ℕ)) → 0 < p → IsMatrix p n rows → IsMatrix p n (without_row dead rows)
matrix-without_row p n dead rows positive is = grind (arith, nat_tests, matrix-with_entries, row_cleared, entry-without_row, if_below)

pub matrix-without_column : (p n dead : ℕ) (rows : List (List ℕ)) → 0 < p → IsMatrix p n rows
    → IsMatrix p n (without_column dead rows)
matrix-without_column p n dead rows positive is =
    grind (arith, nat_tests, matrix-with_entries, column_cleared, entry-without_column, if_below)
