-- The test of the matrix from a degree to the next says what holds at all rows and columns.
use Rattle.std.proofs.Common.{◌≡◌, ℕ, ◌<◌, ◌≤◌, ◌∙◌, ◌⊎◌, inl, inr, List, [], length, get_or, ap, sym, arith, Bool, true, false, ◌&&◌, ◌||◌}
use Rattle.std.specs.Prelude.{nat_eq, nat_lt, slice_index, slice_index_or}
use Rattle.std.specs.List.{list_all, range_with_len}
use Rattle.std.proofs.lemmas.Bool.{and_from, and_parts, eqb-true, eq-eqb}
use Rattle.std.proofs.lemmas.Bool.Decides.{nat_tests, leb_tells}
use Rattle.std.proofs.lemmas.List.{get_or_past}
use Rattle.std.proofs.lemmas.List.Elements.{All-from_get_or}
use Rattle.std.proofs.lemmas.List.FromFn.{length-range_with_len, get_or-range_with_len}
use Rattle.std.proofs.lemmas.List.Sums.{AllPass-from_list_all, list_all-from_AllPass}
use Rattle.kh_types.specs.Complex.{Degree, entry_in}
use Rattle.kh_types.specs.ComplexTests.{all_below, has_size, entry_fits, entries_fit}

-- what a test of all numbers below n says of one of them, and when it holds
pub all_below-at : (test : ℕ → Bool) (n k : ℕ) → all_below n test ≡ true → k < n → test k ≡ true
all_below-at test n k pass below =
    let within : k < length (range_with_len 0 n) = omega (arith, length-range_with_len 0 n) in
    let is_k : get_or (range_with_len 0 n) k 0 ≡ k = get_or-range_with_len 0 n k 0 below ∙ omega arith in
    ap test (sym is_k) ∙ AllPass-from_list_all test (range_with_len 0 n) pass k 0 within

pub all_below-from : (test : ℕ → Bool) (n : ℕ) → ((k : ℕ) → k < n → test k ≡ true) → all_below n test ≡ true
all_below-from test n pass =
    list_all-from_AllPass test (range_with_len 0 n)
    (λ k d within.
    let below : k < n = omega (arith, length-range_with_len 0 n) in
    let is_k : get_or (range_with_len 0 n) k d ≡ k = get_or-range_with_len 0 n k d below ∙ omega arith in
    ap test is_k ∙ pass k below)

-- the sizes of the matrix from a degree to the next
pub record HasSize (degree next : Degree) : Type 0 where
  pub rows : length degree.matrix ≡ length next.alive
  pub columns : (row : ℕ) → row < length degree.matrix → length (slice_index_or degree.matrix row []) ≡ length degree.alive

pub size-from_test : (degree next : Degree) → has_size degree next ≡ true → HasSize degree next
size-from_test degree next pass =
    let parts = and_parts (nat_eq (length degree.matrix) (length next.alive))
    (list_all (λ row. nat_eq (length row) (length degree.alive)) degree.matrix) pass in
    record {
      rows = eqb-true (length degree.matrix) (length next.alive) parts.0;
      columns = λ row below. eqb-true (length (slice_index_or degree.matrix row [])) (length degree.alive)
          (AllPass-from_list_all (λ line. nat_eq (length line) (length degree.alive)) degree.matrix parts.1 row [] below);
    }

pub test-from_size : (degree next : Degree) → HasSize degree next → has_size degree next ≡ true
test-from_size degree next size =
    and_from (nat_eq (length degree.matrix) (length next.alive))
    (list_all (λ row. nat_eq (length row) (length degree.alive)) degree.matrix)
    (eq-eqb (length degree.matrix) (length next.alive) size.rows)
    (list_all-from_AllPass (λ row. nat_eq (length row) (length degree.alive)) degree.matrix
    (All-from_get_or (λ row. nat_eq (length row) (length degree.alive) ≡ true) degree.matrix []
    (λ row below. eq-eqb (length (slice_index_or degree.matrix row [])) (length degree.alive) (size.columns row below))))

-- past the rows, and past the columns, entries are 0
pub entry-past_rows : (matrix : List (List ℕ)) (row column : ℕ) → length matrix ≤ row → entry_in matrix row column ≡ 0
entry-past_rows matrix row column past = ap (λ line. slice_index line column) (get_or_past matrix row [] past)

pub entry-past_columns : (degree next : Degree) (row column : ℕ) → HasSize degree next → length degree.alive ≤ column
    → entry_in degree.matrix row column ≡ 0
entry-past_columns degree next row column size past =
    elim (leb_tells (length degree.matrix) row) [
      | inl past_rows ↦ entry-past_rows degree.matrix row column past_rows.1
      | inr within ↦ get_or_past (slice_index_or degree.matrix row []) column 0 (omega (arith, size.columns row within.1))
    ]

-- a row and a column are places of the two degrees, or the entry there is 0
entry-placed : (degree next : Degree) (row column : ℕ) → HasSize degree next
    → ((row < length next.alive) × (column < length degree.alive)) ⊎ (entry_in degree.matrix row column ≡ 0)
entry-placed degree next row column size =
    elim (leb_tells (length next.alive) row) [
      | inl past ↦ inr (entry-past_rows degree.matrix row column (omega (arith, size.rows, past.1)))
      | inr row_within ↦
          elim (leb_tells (length degree.alive) column) [
            | inl past ↦ inr (entry-past_columns degree next row column size past.1)
            | inr column_within ↦ inl (row_within.1, column_within.1)
          ]
    ]

-- what an entry has to be, where its column and its row are alive or not
pub record Fits (p entry : ℕ) (column_alive row_alive : Bool) : Type 0 where
  pub below : entry < p
  pub dead_column : column_alive ≡ false → entry ≡ 0
  pub dead_row : row_alive ≡ false → entry ≡ 0

fits-from_test : (p entry : ℕ) (column_alive row_alive : Bool)
    → (nat_lt entry p && (nat_eq entry 0 || (column_alive && row_alive))) ≡ true → Fits p entry column_alive row_alive
fits-from_test p entry column_alive row_alive pass = grind (arith, nat_tests)

test-from_fits : (p entry : ℕ) (column_alive row_alive : Bool) → Fits p entry column_alive row_alive
    → (nat_lt entry p && (nat_eq entry 0 || (column_alive && row_alive))) ≡ true
test-from_fits p entry column_alive row_alive fits = grind (arith, nat_tests, fits.below, fits.dead_column, fits.dead_row)

pub fits-zero : (p entry : ℕ) (column_alive row_alive : Bool) → 0 < p → entry ≡ 0 → Fits p entry column_alive row_alive
fits-zero p entry column_alive row_alive positive is_zero = omega arith

-- all entries of the matrix from a degree to the next fit, at whatever row and column
abbrev pub EntriesFit : ℕ → Degree → Degree → Type 0
EntriesFit p degree next =
    (row column : ℕ)
    → Fits p (entry_in degree.matrix row column) (slice_index_or degree.alive column true) (slice_index_or next.alive row true)

pub entries-from_test : (p : ℕ) (degree next : Degree) → 0 < p → HasSize degree next → entries_fit p degree next ≡ true
    → EntriesFit p degree next
entries-from_test p degree next positive size pass row column =
    let entry = entry_in degree.matrix row column in
    let column_alive = slice_index_or degree.alive column true in
    let row_alive = slice_index_or next.alive row true in
    elim (entry-placed degree next row column size) [
      | inl placed ↦
          fits-from_test p entry column_alive row_alive
          (all_below-at (entry_fits p degree next row) (length degree.alive) column
          (all_below-at (λ line. all_below (length degree.alive) (entry_fits p degree next line)) (length next.alive) row pass placed.0)
          placed.1)
      | inr is_zero ↦ fits-zero p entry column_alive row_alive positive is_zero
    ]

pub test-from_entries : (p : ℕ) (degree next : Degree) → EntriesFit p degree next → entries_fit p degree next ≡ true
test-from_entries p degree next fits = grind (arith, nat_tests, all_below-from, test-from_fits)
