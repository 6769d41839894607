-- The pivot's own columns and rows, after they were exchanged, and after they were cleared: both times they are those of the
-- cancelled complex, and all other degrees are as they were. Where lines are exchanged, a line that is named has the entries
-- after; one that is not named is the same before and after, since all that differ are named. Where the pivot stands alone in its
-- column or its row, its column and its row are emptied, and their places crossed out of the rows and of the columns: so all
-- other lines lose at most one entry, as in the cancellation. Last, a pivot whose column or row has one entry stands alone there,
-- as all other numbers of that line are 0.
use Rattle.std.proofs.lemmas.Bool.Decides.{nat_tests}
use Rattle.std.proofs.Common.{◌≡◌, ◌≢◌, ℕ, ◌<◌, ◌∙◌, ◌⊎◌, inl, inr, List, [], ◌∷◌, ℤ, pos, ◌+ℤ◌, length, set, ap, sym, arith, refl, Bool}
use Rattle.std.specs.Prelude.{slice_index_or}
use Rattle.std.specs.Str.{bytes_eq}
use Rattle.std.proofs.lemmas.Bool.{cases_Bool}
use Rattle.std.proofs.lemmas.Bool.Decides.{eqb_tells, not_from_Decides}
use Rattle.std.proofs.lemmas.List.{get_or-set_other, get_or-set_same}
use Rattle.std.proofs.lemmas.List.Elements.{All-contains}
use Rattle.std.proofs.lemmas.Slice.Eq.{bytes_eq-Decides}
use Rattle.kh_types.specs.Complex.{Complex, Pivot, IsPivot, cancel}
use Rattle.kh_types.specs.Generators.{Generator}
use Rattle.prime_field.specs.Residues.{IsField}
use Rattle.sparse_block.specs.Changes.{PlacedLine, AreChanged, placed}
use Rattle.sparse_block.specs.Clearing.{AreExchanged, crossed_out, emptied, without}
use Rattle.sparse_block.specs.Complexes.{NamedComplex, column_of, place_count, row_of}
use Rattle.sparse_block.specs.Entries.{Entry, entries_of, value_at}
use Rattle.sparse_block.specs.Inside.{IsKept}
use Rattle.sparse_block.proofs.CancelledLists.{HaveOwn, column_place, k-within, row_place}
use Rattle.sparse_block.proofs.ClearedLists.{SameSizes, crossed_out-line, crossed_out-other, crossed_out-sizes, emptied-apart, emptied-other, emptied-same, emptied-sizes, line_at, lines_at, sizes-set, sizes-then}
use Rattle.sparse_block.proofs.KeptLemmas.{IsSeen, column-at, complex-seen, length-columns, length-rows, row-at}
use Rattle.sparse_block.proofs.LeftLines.{IsAlone, column-at_other, column-at_same, row-at_other, row-at_same, value-column, value-row}
use Rattle.sparse_block.proofs.EntryLemmas.{value_at-later}

-- lines of numbers are the same, or not
same_or_not : (xs ys : List ℕ) → (xs ≡ ys) ⊎ (xs ≢ ys)
same_or_not xs ys =
    elim (cases_Bool (bytes_eq xs ys)) [
      | inl same ↦ inl ((bytes_eq-Decides xs ys).0 same)
      | inr other ↦ inr (not_from_Decides (bytes_eq xs ys) (bytes_eq-Decides xs ys) other)
    ]

-- a line after an exchange has the entries after
line-exchanged : (size place : ℕ) (before after : ℕ → List ℕ) (named : List PlacedLine) (old now : List (List Entry))
    → AreChanged size before after named → AreExchanged named old now → slice_index_or old place [] ≡ entries_of (before place)
    → slice_index_or now place [] ≡ entries_of (after place)
line-exchanged size place before after named old now changed exchanged is_old =
    elim (exchanged.each place) [
      | inl has ↦
          All-contains (λ (line : PlacedLine). line.entries ≡ entries_of (after line.place)) named
          (placed place (slice_index_or now place [])) changed.entries has
      | inr stays ↦
          elim (same_or_not (before place) (after place)) [
            | inl same ↦ stays.1 ∙ is_old ∙ ap entries_of same
            | inr differ ↦ absurd (stays.0 (changed.all place differ))
          ]
    ]

module _ {p : ℕ} {low : ℤ} {names : List (List Generator)} {alive : List (List Bool)} {columns rows : List (List (List Entry))}
    {named : NamedComplex} (kept : IsKept p low names alive columns rows) (seen : IsSeen low names alive columns named)
    (pivot : Pivot) (is_pivot : IsPivot named.complex pivot) (k : ℕ) (is_distance : pivot.degree ≡ low +ℤ pos k) where
  within : k < length names
  within = omega (arith, k-within kept seen pivot is_pivot k is_distance)

  column-own : (place : ℕ) → place < place_count named.complex pivot.degree
      → line_at columns k place ≡ entries_of (column_of named.complex pivot.degree place)
  column-own place place_within = column-at kept seen pivot.degree k place is_distance within place_within

  row-own : (place : ℕ) → line_at rows k place ≡ entries_of (row_of named.complex pivot.degree place)
  row-own place = row-at kept seen pivot.degree k place is_distance within

  pub own-exchanged : (named_columns named_rows : List PlacedLine) (columns_now rows_now : List (List Entry))
      → AreChanged (place_count named.complex pivot.degree) (column_of named.complex pivot.degree)
      (column_of (cancel p named.complex pivot) pivot.degree) named_columns
      → AreChanged (place_count named.complex (pivot.degree +ℤ pos 1)) (row_of named.complex pivot.degree)
      (row_of (cancel p named.complex pivot) pivot.degree) named_rows
      → AreExchanged named_columns (lines_at columns k) columns_now → AreExchanged named_rows (lines_at rows k) rows_now
      → HaveOwn p named.complex pivot k columns rows (set columns k columns_now) (set rows k rows_now)
  own-exchanged named_columns named_rows columns_now rows_now changed_columns changed_rows put_columns put_rows =
      let columns_within : k < length columns = omega (arith, within, length-columns kept) in
      let rows_within : k < length rows = omega (arith, within, length-rows kept) in
      record {
        columns_sizes = sizes-set columns k columns_now put_columns.size columns_within;
        rows_sizes = sizes-set rows k rows_now put_rows.size rows_within;
        columns_others = λ j other. get_or-set_other columns k j columns_now [] other;
        rows_others = λ j other. get_or-set_other rows k j rows_now [] other;
        columns_own = λ place place_within.
            ap (λ (lines : List (List Entry)). slice_index_or lines place []) (get_or-set_same columns k columns_now [] columns_within)
            ∙ line-exchanged (place_count named.complex pivot.degree) place (column_of named.complex pivot.degree)
            (column_of (cancel p named.complex pivot) pivot.degree) named_columns (lines_at columns k) columns_now changed_columns
            put_columns (column-own place place_within);
        rows_own = λ place place_within.
            ap (λ (lines : List (List Entry)). slice_index_or lines place []) (get_or-set_same rows k rows_now [] rows_within)
            ∙ line-exchanged (place_count named.complex (pivot.degree +ℤ pos 1)) place (row_of named.complex pivot.degree)
            (row_of (cancel p named.complex pivot) pivot.degree) named_rows (lines_at rows k) rows_now changed_rows
            put_rows (row-own place);
      }

  pub own-cleared : IsField p → IsAlone named.complex pivot
      → HaveOwn p named.complex pivot k columns rows (emptied k pivot.column (crossed_out k pivot.row columns))
      (crossed_out k pivot.column (emptied k pivot.row rows))
  own-cleared field alone =
      let is = complex-seen kept seen in
      let columns_within : k < length columns = omega (arith, within, length-columns kept) in
      let rows_within : k < length rows = omega (arith, within, length-rows kept) in
      let crossed = crossed_out k pivot.row columns in
      let left = emptied k pivot.row rows in
      let crossed_sizes : SameSizes columns crossed = crossed_out-sizes k pivot.row columns columns_within in
      let left_sizes : SameSizes rows left = emptied-sizes k pivot.row rows rows_within in
      let crossed_within : k < length crossed = omega (arith, columns_within, crossed_sizes.degrees) in
      let left_within : k < length left = omega (arith, rows_within, left_sizes.degrees) in
      record {
        columns_sizes =
            sizes-then columns crossed (emptied k pivot.column crossed) crossed_sizes
            (emptied-sizes k pivot.column crossed crossed_within);
        rows_sizes =
            sizes-then rows left (crossed_out k pivot.column left) left_sizes
            (crossed_out-sizes k pivot.column left left_within);
        columns_others = λ j other.
            emptied-other k pivot.column crossed j other ∙ crossed_out-other k pivot.row columns j other;
        rows_others = λ j other. crossed_out-other k pivot.column left j other ∙ emptied-other k pivot.row rows j other;
        columns_own = λ place place_within.
            elim (eqb_tells place pivot.column) [
              | inl same ↦
                  ap (line_at (emptied k pivot.column crossed) k) same.1
                  ∙ emptied-same k pivot.column crossed crossed_within
                  (omega (
                    arith,
                    column_place kept seen pivot is_pivot k is_distance,
                    crossed_sizes.lines k,
                  ))
                  ∙ column-at_same p named.complex pivot field is is_pivot alone place same.1
              | inr other ↦
                  emptied-apart k pivot.column crossed crossed_within place other.1
                  ∙ crossed_out-line k pivot.row columns columns_within place
                  ∙ ap (without pivot.row) (column-own place place_within)
                  ∙ column-at_other p named.complex pivot field is is_pivot alone place other.1
            ];
        rows_own = λ place place_within.
            crossed_out-line k pivot.column left left_within place
            ∙ elim (eqb_tells place pivot.row) [
              | inl same ↦
                  ap (λ (place : ℕ). without pivot.column (line_at left k place)) same.1
                  ∙ ap (without pivot.column)
                  (emptied-same k pivot.row rows rows_within (row_place kept seen pivot is_pivot k is_distance))
                  ∙ row-at_same p named.complex pivot field is is_pivot alone place same.1
              | inr other ↦
                  ap (without pivot.column) (emptied-apart k pivot.row rows rows_within place other.1 ∙ row-own place)
                  ∙ row-at_other p named.complex pivot field is is_pivot alone place other.1
            ];
      }

-- one entry alone is that at its place: all other numbers of the line are 0
number-alone : (entries : List Entry) (place at : ℕ) → length entries ≡ 1 → value_at entries place ≢ 0 → at ≢ place
    → value_at entries at ≡ 0
number-alone [] place at one some other = refl
number-alone (e ∷ []) place at one some other = grind (arith, nat_tests, eqb_tells, value_at-later)
number-alone (e ∷ f ∷ es) place at one some other = absurd (omega (arith, one))

pub alone-from_entries : (complex : Complex) (pivot : Pivot) → IsPivot complex pivot
    → (length (entries_of (column_of complex pivot.degree pivot.column)) ≡ 1)
    ⊎ (length (entries_of (row_of complex pivot.degree pivot.row)) ≡ 1) → IsAlone complex pivot
alone-from_entries complex pivot is_pivot one =
    let i = pivot.degree in
    elim one [
      | inl column ↦
          inl (λ row other.
          sym (value-column complex i pivot.column row)
          ∙ number-alone (entries_of (column_of complex i pivot.column)) pivot.row row column
          (λ none. is_pivot (sym (value-column complex i pivot.column pivot.row) ∙ none)) other)
      | inr row ↦
          inr (λ column other.
          sym (value-row complex i pivot.row column)
          ∙ number-alone (entries_of (row_of complex i pivot.row)) pivot.column column row
          (λ none. is_pivot (sym (value-row complex i pivot.row pivot.column) ∙ none)) other)
    ]
