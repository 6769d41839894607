-- The entries of columns and rows after a cancellation, from those before. Entries in order that denote the numbers of a line are
-- its entries; so it is enough to compare numbers, for a line that stays, one that loses its number at a place, and one that
-- loses all. Away from the pivot nothing changes. In the degree before, the row of the pivot's column is emptied and all columns
-- lose their number there; in the degree after, the column of the pivot's row is emptied and all rows lose theirs. In the pivot's
-- own degree its column and its row are emptied, and all else stays where it stands alone in one of them: then the product that
-- is taken from another entry is 0.
use Rattle.std.proofs.lemmas.Bool.Decides.{nat_tests}
use Rattle.std.proofs.Common.{◌≡◌, ◌≢◌, ℕ, ◌+◌, ◌-◌, ◌*◌, ◌%◌, ◌<◌, ◌∙◌, ◌⊎◌, inl, inr, List, [], ℤ, pos, ◌+ℤ◌, ap, sym, subst, arith, refl, Bool, true, false}
use Rattle.std.specs.Prelude.{nat_eq, if◌then◌else◌, ◌||◌}
use Rattle.std.proofs.Math.Nat.{zero-mod, add-mod_right, mod-eq_of_lt}
use Rattle.std.proofs.lemmas.Bool.{eq-eqb}
use Rattle.std.proofs.lemmas.Bool.Decides.{eqb_tells}
use Rattle.kh_types.specs.Rank.{inverse, minus_mod}
use Rattle.kh_types.specs.Complex.{Complex, Degree, Pivot, IsComplex, IsPivot, cancel, degree_of, entry_in, entry_of}
use Rattle.kh_types.proofs.CancelLemmas.{places-cancel}
use Rattle.prime_field.specs.Residues.{IsField}
use Rattle.kh_types.proofs.MatrixEntries.{entry_cancelled, entry-cancelled_matrix, entry-without_row, entry-without_column}
use Rattle.sparse_block.specs.Clearing.{without}
use Rattle.sparse_block.specs.Complexes.{column_of, place_count, row_of}
use Rattle.sparse_block.specs.Entries.{Entry, AreEntries, entries_of, value_at}
use Rattle.sparse_block.proofs.ClearedLists.{no-entries}
use Rattle.sparse_block.proofs.CancelledComplexes.{complex-cancel}
use Rattle.sparse_block.proofs.CancelledDegrees.{degree-at_pivot, degree-after_pivot, degree-before_pivot, degree-elsewhere}
use Rattle.sparse_block.proofs.ComplexMatrices.{entry-stands, matrix-of_degree}
use Rattle.sparse_block.proofs.EntryLemmas.{value_at-entries_of}
use Rattle.sparse_block.proofs.ReadingLemmas.{number-column_of, column-entries, row-entries}
use Rattle.sparse_block.proofs.RemovalLemmas.{entries-same, entries-without, value_at-without, value_at-without_other}

-- a number that is put to 0 at one place
cleared-same : (a x n : ℕ) → x ≡ a → (if nat_eq x a then 0 else n) ≡ 0
cleared-same a x n same = ap (λ (b : Bool). if b then 0 else n) (eq-eqb x a same)

cleared-other : (a x n : ℕ) → x ≢ a → (if nat_eq x a then 0 else n) ≡ n
cleared-other a x n differs = grind (arith, nat_tests)

-- the numbers of a column and a row, by their entries

pub value-column : (complex : Complex) (i : ℤ) (place row : ℕ)
    → value_at (entries_of (column_of complex i place)) row ≡ entry_of complex i row place
value-column complex i place row = value_at-entries_of (column_of complex i place) row ∙ number-column_of complex i row place

pub value-row : (complex : Complex) (i : ℤ) (place column : ℕ)
    → value_at (entries_of (row_of complex i place)) column ≡ entry_of complex i place column
value-row complex i place column = value_at-entries_of (row_of complex i place) column

-- the pivot stands alone in its column, or alone in its row
abbrev pub IsAlone : Complex → Pivot → Type 0
IsAlone complex pivot =
    ((row : ℕ) → row ≢ pivot.row → entry_of complex pivot.degree row pivot.column ≡ 0)
    ⊎ ((column : ℕ) → column ≢ pivot.column → entry_of complex pivot.degree pivot.row column ≡ 0)

module _ (p : ℕ) (complex : Complex) (pivot : Pivot) (field : IsField p) (is : IsComplex p complex)
    (is_pivot : IsPivot complex pivot) where
  -- entries that have the numbers after the cancellation

  column-from : (i : ℤ) (place : ℕ) (entries : List Entry) → AreEntries p (place_count complex (i +ℤ pos 1)) entries
      → ((row : ℕ) → value_at entries row ≡ entry_of (cancel p complex pivot) i row place)
      → entries ≡ entries_of (column_of (cancel p complex pivot) i place)
  column-from i place entries are same =
      let after = cancel p complex pivot in
      entries-same p (place_count complex (i +ℤ pos 1)) entries (entries_of (column_of after i place)) are
      (subst (λ (size : ℕ). AreEntries p size (entries_of (column_of after i place))) (places-cancel p complex pivot (i +ℤ pos 1))
      (column-entries p after i place (complex-cancel p complex pivot field is is_pivot)))
      (λ row. same row ∙ sym (value-column after i place row))

  row-from : (i : ℤ) (place : ℕ) (entries : List Entry) → AreEntries p (place_count complex i) entries
      → ((column : ℕ) → value_at entries column ≡ entry_of (cancel p complex pivot) i place column)
      → entries ≡ entries_of (row_of (cancel p complex pivot) i place)
  row-from i place entries are same =
      let after = cancel p complex pivot in
      entries-same p (place_count complex i) entries (entries_of (row_of after i place)) are
      (subst (λ (size : ℕ). AreEntries p size (entries_of (row_of after i place))) (places-cancel p complex pivot i)
      (row-entries p after i place (complex-cancel p complex pivot field is is_pivot)))
      (λ column. same column ∙ sym (value-row after i place column))

  -- a line that stays, that loses its number at a place, and that loses all

  column-kept : (i : ℤ) (place : ℕ)
      → ((row : ℕ) → entry_of (cancel p complex pivot) i row place ≡ entry_of complex i row place)
      → entries_of (column_of complex i place) ≡ entries_of (column_of (cancel p complex pivot) i place)
  column-kept i place same =
      column-from i place (entries_of (column_of complex i place)) (column-entries p complex i place is)
      (λ row. value-column complex i place row ∙ sym (same row))

  row-kept : (i : ℤ) (place : ℕ)
      → ((column : ℕ) → entry_of (cancel p complex pivot) i place column ≡ entry_of complex i place column)
      → entries_of (row_of complex i place) ≡ entries_of (row_of (cancel p complex pivot) i place)
  row-kept i place same =
      row-from i place (entries_of (row_of complex i place)) (row-entries p complex i place is)
      (λ column. value-row complex i place column ∙ sym (same column))

  column-without : (i : ℤ) (place dead : ℕ) → entry_of (cancel p complex pivot) i dead place ≡ 0
      → ((row : ℕ) → row ≢ dead → entry_of (cancel p complex pivot) i row place ≡ entry_of complex i row place)
      → without dead (entries_of (column_of complex i place)) ≡ entries_of (column_of (cancel p complex pivot) i place)
  column-without i place dead none same =
      let before = entries_of (column_of complex i place) in
      column-from i place (without dead before)
      (entries-without p (place_count complex (i +ℤ pos 1)) dead before (column-entries p complex i place is))
      (λ row.
      elim (eqb_tells row dead) [
        | inl here ↦
            ap (value_at (without dead before)) here.1 ∙ value_at-without dead before ∙ sym none
            ∙ ap (λ (row : ℕ). entry_of (cancel p complex pivot) i row place) (sym here.1)
        | inr other ↦
            value_at-without_other dead row before other.1 ∙ value-column complex i place row ∙ sym (same row other.1)
      ])

  row-without : (i : ℤ) (place dead : ℕ) → entry_of (cancel p complex pivot) i place dead ≡ 0
      → ((column : ℕ) → column ≢ dead → entry_of (cancel p complex pivot) i place column ≡ entry_of complex i place column)
      → without dead (entries_of (row_of complex i place)) ≡ entries_of (row_of (cancel p complex pivot) i place)
  row-without i place dead none same =
      let before = entries_of (row_of complex i place) in
      row-from i place (without dead before)
      (entries-without p (place_count complex i) dead before (row-entries p complex i place is))
      (λ column.
      elim (eqb_tells column dead) [
        | inl here ↦
            ap (value_at (without dead before)) here.1 ∙ value_at-without dead before ∙ sym none
            ∙ ap (entry_of (cancel p complex pivot) i place) (sym here.1)
        | inr other ↦
            value_at-without_other dead column before other.1 ∙ value-row complex i place column ∙ sym (same column other.1)
      ])

  column-emptied : (i : ℤ) (place : ℕ) → ((row : ℕ) → entry_of (cancel p complex pivot) i row place ≡ 0)
      → [] ≡ entries_of (column_of (cancel p complex pivot) i place)
  column-emptied i place none = column-from i place [] (no-entries p (place_count complex (i +ℤ pos 1))) (λ row. sym (none row))

  row-emptied : (i : ℤ) (place : ℕ) → ((column : ℕ) → entry_of (cancel p complex pivot) i place column ≡ 0)
      → [] ≡ entries_of (row_of (cancel p complex pivot) i place)
  row-emptied i place none = row-from i place [] (no-entries p (place_count complex i)) (λ column. sym (none column))

  -- away from the pivot nothing changes

  pub column-elsewhere : (i : ℤ) (place : ℕ) → i ≢ pivot.degree → i ≢ pivot.degree +ℤ pos 1 → i +ℤ pos 1 ≢ pivot.degree
      → entries_of (column_of complex i place) ≡ entries_of (column_of (cancel p complex pivot) i place)
  column-elsewhere i place not_at not_after not_before = grind (arith, nat_tests, column-kept, degree-elsewhere)

  pub row-elsewhere : (i : ℤ) (place : ℕ) → i ≢ pivot.degree → i ≢ pivot.degree +ℤ pos 1 → i +ℤ pos 1 ≢ pivot.degree
      → entries_of (row_of complex i place) ≡ entries_of (row_of (cancel p complex pivot) i place)
  row-elsewhere i place not_at not_after not_before = grind (arith, nat_tests, row-kept, degree-elsewhere)

  -- in the degree before, the row of the pivot's column goes

  entry-before : (i : ℤ) (row column : ℕ) → i +ℤ pos 1 ≡ pivot.degree
      → entry_of (cancel p complex pivot) i row column ≡ (if nat_eq row pivot.column then 0 else entry_of complex i row column)
  entry-before i row column here = grind (arith, nat_tests, degree-before_pivot, entry-without_row)

  pub column-before : (i : ℤ) (place : ℕ) → i +ℤ pos 1 ≡ pivot.degree
      → without pivot.column (entries_of (column_of complex i place)) ≡ entries_of (column_of (cancel p complex pivot) i place)
  column-before i place here = grind (arith, nat_tests, column-without, entry-before, cleared-same, cleared-other)

  pub row-before_same : (i : ℤ) (place : ℕ) → i +ℤ pos 1 ≡ pivot.degree → place ≡ pivot.column
      → [] ≡ entries_of (row_of (cancel p complex pivot) i place)
  row-before_same i place here same = grind (arith, nat_tests, row-emptied, entry-before, cleared-same)

  pub row-before_other : (i : ℤ) (place : ℕ) → i +ℤ pos 1 ≡ pivot.degree → place ≢ pivot.column
      → entries_of (row_of complex i place) ≡ entries_of (row_of (cancel p complex pivot) i place)
  row-before_other i place here other = grind (arith, nat_tests, row-kept, entry-before, cleared-other)

  -- in the degree after, the column of the pivot's row goes

  entry-after : (i : ℤ) (row column : ℕ) → i ≡ pivot.degree +ℤ pos 1
      → entry_of (cancel p complex pivot) i row column ≡ (if nat_eq column pivot.row then 0 else entry_of complex i row column)
  entry-after i row column here = grind (arith, nat_tests, degree-after_pivot, entry-without_column)

  pub row-after : (i : ℤ) (place : ℕ) → i ≡ pivot.degree +ℤ pos 1
      → without pivot.row (entries_of (row_of complex i place)) ≡ entries_of (row_of (cancel p complex pivot) i place)
  row-after i place here = grind (arith, nat_tests, row-without, entry-after, cleared-same, cleared-other)

  pub column-after_same : (i : ℤ) (place : ℕ) → i ≡ pivot.degree +ℤ pos 1 → place ≡ pivot.row
      → [] ≡ entries_of (column_of (cancel p complex pivot) i place)
  column-after_same i place here same = grind (arith, nat_tests, column-emptied, entry-after, cleared-same)

  pub column-after_other : (i : ℤ) (place : ℕ) → i ≡ pivot.degree +ℤ pos 1 → place ≢ pivot.row
      → entries_of (column_of complex i place) ≡ entries_of (column_of (cancel p complex pivot) i place)
  column-after_other i place here other = grind (arith, nat_tests, column-kept, entry-after, cleared-other)

  -- in the pivot's own degree its row and its column go, and all else stays where it stands alone

  entry-at : (row column : ℕ)
      → entry_of (cancel p complex pivot) pivot.degree row column
      ≡ entry_cancelled p pivot.row pivot.column (entry_of complex pivot.degree) row column
  entry-at row column =
      ap (λ (degree : Degree). entry_in degree.matrix row column) (degree-at_pivot p complex pivot pivot.degree refl)
      ∙ entry-cancelled_matrix p pivot (degree_of complex pivot.degree).matrix (place_count complex pivot.degree)
      (matrix-of_degree p complex is pivot.degree)
      (entry-stands p complex pivot.degree pivot.row pivot.column is is_pivot).row_within row column

  entry-in_row : (row column : ℕ) → row ≡ pivot.row → entry_of (cancel p complex pivot) pivot.degree row column ≡ 0
  entry-in_row row column same = grind (arith, nat_tests, entry-at, eq-eqb)

  entry-in_column : (row column : ℕ) → column ≡ pivot.column → entry_of (cancel p complex pivot) pivot.degree row column ≡ 0
  entry-in_column row column same =
      let old = entry_of complex pivot.degree in
      let back = old row pivot.column * (inverse p (old pivot.row pivot.column) * old pivot.row column) in
      entry-at row column
      ∙ ap (λ (b : Bool). if nat_eq row pivot.row || b then 0 else minus_mod p (old row column) back)
      (eq-eqb column pivot.column same)
      ∙ either (nat_eq row pivot.row) (minus_mod p (old row column) back)
    where
      either : (b : Bool) (n : ℕ) → (if b || true then 0 else n) ≡ 0
      either true n = refl
      either false n = refl

  module _ (alone : IsAlone complex pivot) where
    no-way_back : (row column : ℕ) → row ≢ pivot.row → column ≢ pivot.column
        → entry_of complex pivot.degree row pivot.column
        * (inverse p (entry_of complex pivot.degree pivot.row pivot.column) * entry_of complex pivot.degree pivot.row column)
        ≡ 0
    no-way_back row column other_row other_column =
        let old = entry_of complex pivot.degree in
        let inverted = inverse p (old pivot.row pivot.column) in
        elim alone [
          | inl in_column ↦
              ap (λ (n : ℕ). n * (inverted * old pivot.row column)) (in_column row other_row)
              ∙ omega arith
          | inr in_row ↦
              ap (λ (n : ℕ). old row pivot.column * (inverted * n)) (in_row column other_column)
              ∙ omega arith
        ]

    entry-other : (row column : ℕ) → row ≢ pivot.row → column ≢ pivot.column
        → entry_of (cancel p complex pivot) pivot.degree row column ≡ entry_of complex pivot.degree row column
    entry-other row column other_row other_column =
        let old = entry_of complex pivot.degree in
        let back = old row pivot.column * (inverse p (old pivot.row pivot.column) * old pivot.row column) in
        entry-at row column
        ∙ elim (eqb_tells row pivot.row) [
          | inl same ↦ absurd (other_row same.1)
          | inr row_other ↦
              ap (λ (b : Bool). if b || nat_eq column pivot.column then 0 else minus_mod p (old row column) back) row_other.0
        ]
        ∙ cleared-other pivot.column column (minus_mod p (old row column) back) other_column
        ∙ ap (minus_mod p (old row column)) (no-way_back row column other_row other_column)
        ∙ minus_mod-zero (old row column) (is.below pivot.degree row column)
      where
        minus_mod-zero : (n : ℕ) → n < p → minus_mod p n 0 ≡ n
        minus_mod-zero n below =
            let whole : n + (p - 0) ≡ n + p = omega arith in
            ap (λ (m : ℕ). (n + (p - m)) % p) (zero-mod p) ∙ ap (λ (m : ℕ). m % p) whole ∙ add-mod_right n p ∙ mod-eq_of_lt below

    pub column-at_same : (place : ℕ) → place ≡ pivot.column
        → [] ≡ entries_of (column_of (cancel p complex pivot) pivot.degree place)
    column-at_same place same = column-emptied pivot.degree place (λ row. entry-in_column row place same)

    pub column-at_other : (place : ℕ) → place ≢ pivot.column
        → without pivot.row (entries_of (column_of complex pivot.degree place))
        ≡ entries_of (column_of (cancel p complex pivot) pivot.degree place)
    column-at_other place other = grind (arith, nat_tests, column-without, entry-in_row, entry-other)

    pub row-at_same : (place : ℕ) → place ≡ pivot.row → [] ≡ entries_of (row_of (cancel p complex pivot) pivot.degree place)
    row-at_same place same = row-emptied pivot.degree place (λ column. entry-in_row place column same)

    pub row-at_other : (place : ℕ) → place ≢ pivot.row
        → without pivot.column (entries_of (row_of complex pivot.degree place))
        ≡ entries_of (row_of (cancel p complex pivot) pivot.degree place)
    row-at_other place other = grind (arith, nat_tests, row-without, entry-in_column, entry-other)
