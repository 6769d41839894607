-- What is held of a complex after a cancellation, where k is the number of the pivot's degree. A place dies in its list. The
-- number of a degree is k, one more, one less, or another; the proofs on lines go by these cases. Named here for them: that the
-- pivot's own columns and rows are those after the cancellation, and all others as they were. Then where the pivot stands: its
-- column is a place of degree k and its row one of degree k + 1, and both have an entry, so there are lines in memory. Columns
-- and rows of a degree show the same numbers from both sides. So the pivot's own column and row may be cleared, and after its own
-- lines have changed also its row's column in the degree after and its column's row in the degree before. Last, both places that
-- die are within their lists.
use Rattle.std.proofs.lemmas.Bool.Decides.{nat_tests}
use Rattle.std.proofs.Common.{◌≡◌, ◌≢◌, ℕ, zero, suc, ◌+◌, ◌<◌, ◌∙◌, inl, inr, List, [], ◌∷◌, ℤ, pos, ◌+ℤ◌, ◌≤ℤ◌, length, map, set, ap, sym, subst, arith, refl, Bool, false}
use Rattle.std.specs.Prelude.{nat_eq, slice_index_or, if◌then◌else◌}
use Rattle.std.specs.List.{enumerate_from}
use Rattle.std.proofs.lemmas.Bool.Decides.{eqb_tells, leb_tells}
use Rattle.std.proofs.lemmas.Int.{ints}
use Rattle.std.proofs.lemmas.List.{get_or_default, get_or_past}
use Rattle.kh_types.specs.Complex.{Complex, Degree, Pivot, IsPivot, cancel, degree_of, entry_of, without_place}
use Rattle.kh_types.specs.Generators.{Generator}
use Rattle.sparse_block.specs.Clearing.{AreCrossed, CanClear}
use Rattle.sparse_block.specs.Complexes.{NamedComplex, column_of, place_count, row_of}
use Rattle.sparse_block.specs.Entries.{Entry, AreEntries, entries_of, value_at}
use Rattle.sparse_block.specs.Held.{no_entries}
use Rattle.sparse_block.specs.Inside.{IsKept}
use Rattle.sparse_block.proofs.FilledLines.{some-entries}
use Rattle.sparse_block.proofs.ClearedLists.{SameSizes, can_clear-kept, crossed-swapped, line_at, lines_at}
use Rattle.sparse_block.proofs.ComplexMatrices.{StandsAt, entry-stands}
use Rattle.sparse_block.proofs.KeptLemmas.{IsSeen, column-at, complex-seen, degree-at, length-column, length-columns, length-row, length-rows, places-at, row-at, within-alive}
use Rattle.sparse_block.proofs.LeftLines.{value-column, value-row}
use Rattle.sparse_block.proofs.ReadingLemmas.{column-entries as entries-of_column, row-entries as entries-of_row}

-- a place that dies in a list

places-kept : (place n : ℕ) (alive : List Bool) → place < n
    → map (λ at. if nat_eq at.0 place then false else at.1) (enumerate_from n alive) ≡ alive
places-kept place n [] before = refl
places-kept place n (first ∷ rest) before = grind (arith, nat_tests, eqb_tells, places-kept place (n + 1) rest (omega (arith, before)))

place-dies : (place n k : ℕ) (alive : List Bool) → n + k ≡ place
    → set alive k false ≡ map (λ at. if nat_eq at.0 place then false else at.1) (enumerate_from n alive)
place-dies place n k [] is_place = refl
place-dies place n zero (first ∷ rest) is_place = grind (arith, nat_tests, eqb_tells, places-kept)
place-dies place n (suc k) (first ∷ rest) is_place =
    grind (arith, nat_tests, eqb_tells, place-dies place (n + 1) k rest (omega (arith, is_place)))

pub set-without_place : (place : ℕ) (alive : List Bool) → set alive place false ≡ without_place place alive
set-without_place place alive = place-dies place 0 place alive (omega arith)

-- where a degree's number is, seen from the pivot's
pub data Beside (j k : ℕ) : Type 0 where
  is_at : j ≡ k → Beside j k
  is_after : j ≡ k + 1 → Beside j k
  is_before : j + 1 ≡ k → Beside j k
  is_elsewhere : j ≢ k → j ≢ k + 1 → j + 1 ≢ k → Beside j k

pub beside : (j k : ℕ) → Beside j k
beside j k = grind (arith, nat_tests)

-- the pivot's own columns and rows are those after the cancellation, and all others are as they were
pub record HaveOwn (p : ℕ) (complex : Complex) (pivot : Pivot) (k : ℕ) (columns rows columns_after rows_after : List (List (List Entry)))
    : Type 0 where
  pub columns_sizes : SameSizes columns columns_after
  pub rows_sizes : SameSizes rows rows_after
  pub columns_others : (j : ℕ) → j ≢ k → lines_at columns_after j ≡ lines_at columns j
  pub rows_others : (j : ℕ) → j ≢ k → lines_at rows_after j ≡ lines_at rows j
  pub columns_own : (place : ℕ) → place < place_count complex pivot.degree
      → line_at columns_after k place ≡ entries_of (column_of (cancel p complex pivot) pivot.degree place)
  pub rows_own : (place : ℕ) → place < place_count complex (pivot.degree +ℤ pos 1)
      → line_at rows_after k place ≡ entries_of (row_of (cancel p complex pivot) pivot.degree place)

module _ {p : ℕ} {low : ℤ} {names : List (List Generator)} {alive : List (List Bool)} {columns rows : List (List (List Entry))}
    {named : NamedComplex} (kept : IsKept p low names alive columns rows) (seen : IsSeen low names alive columns named)
    (pivot : Pivot) (is_pivot : IsPivot named.complex pivot) where
  -- where the pivot stands

  stands : StandsAt named.complex pivot.degree pivot.row pivot.column
  stands = entry-stands p named.complex pivot.degree pivot.row pivot.column (complex-seen kept seen) is_pivot

  pub pivot-from_low : low ≤ℤ pivot.degree
  pivot-from_low = grind (arith, nat_tests)

  module _ (k : ℕ) (is_distance : pivot.degree ≡ low +ℤ pos k) where
    pub next-degree : pivot.degree +ℤ pos 1 ≡ low +ℤ pos (k + 1)
    next-degree = omega (arith, ints, is_distance)

    pub k-within : k + 1 < length names
    k-within =
        elim (leb_tells (length names) (k + 1)) [
          | inl past ↦
              absurd
              (omega (
                arith,
                stands.row_place,
                places-at kept seen (pivot.degree +ℤ pos 1) (k + 1) next-degree,
                ap length (get_or_past names (k + 1) [] past.1),
              ))
          | inr within ↦ within.1
        ]

    -- what the places of the two may hold

    pub column-line : (j place : ℕ) → j < length names → place < length (lines_at columns j)
        → line_at columns j place ≡ entries_of (column_of named.complex (low +ℤ pos j) place)
    column-line j place within place_within =
        column-at kept seen (low +ℤ pos j) j place refl within
        (omega (arith, place_within, length-column kept seen (low +ℤ pos j) j refl within))

    pub row-line : (j place : ℕ) → j < length names
        → line_at rows j place ≡ entries_of (row_of named.complex (low +ℤ pos j) place)
    row-line j place within = row-at kept seen (low +ℤ pos j) j place refl within

    crossed-kept : (j : ℕ) → j < length names → AreCrossed p (lines_at columns j) (lines_at rows j)
    crossed-kept j within =
        let complex = named.complex in
        let i : ℤ = low +ℤ pos j in
        let width = length-column kept seen i j refl within in
        let height = length-row kept seen i j refl within in
        record {
          in_lines = λ place d place_within.
              subst (AreEntries p (length (lines_at rows j)))
              (sym (get_or_default (lines_at columns j) place d [] place_within ∙ column-line j place within place_within))
              (subst (λ (size : ℕ). AreEntries p size (entries_of (column_of complex i place))) (sym height)
              (entries-of_column p complex i place (complex-seen kept seen)));
          in_across = λ place d place_within.
              subst (AreEntries p (length (lines_at columns j)))
              (sym (get_or_default (lines_at rows j) place d [] place_within ∙ row-line j place within))
              (subst (λ (size : ℕ). AreEntries p size (entries_of (row_of complex i place))) (sym width)
              (entries-of_row p complex i place (complex-seen kept seen)));
          same = λ column row.
              let across : value_at (line_at rows j row) column ≡ entry_of complex i row column =
              ap (λ (es : List Entry). value_at es column) (row-line j row within) ∙ value-row complex i row column in
              elim (leb_tells (length (lines_at columns j)) column) [
                | inl past ↦
                    ap (λ (es : List Entry). value_at es row) (get_or_past (lines_at columns j) column [] past.1)
                    ∙ sym (across
                    ∙ elim (eqb_tells (entry_of complex i row column) 0) [
                      | inl none ↦ none.1
                      | inr some ↦
                          absurd
                          (omega (
                            arith,
                            past.1,
                            width,
                            (entry-stands p complex i row column (complex-seen kept seen) some.1).column_place,
                          ))
                    ])
                | inr column_within ↦
                    ap (λ (es : List Entry). value_at es row) (column-line j column within column_within.1)
                    ∙ value-column complex i column row ∙ sym across
              ];
        }

    pub column_place : pivot.column < length (lines_at columns k)
    column_place =
        omega (arith, stands.column_place, length-column kept seen pivot.degree k is_distance (omega (arith, k-within)))

    pub row_place : pivot.row < length (lines_at rows k)
    row_place = grind (arith, nat_tests, stands, length-row, k-within)

    -- the pivot's column and its row have an entry

    pub some-columns : no_entries (lines_at columns k) ≡ false
    some-columns =
        some-entries (lines_at columns k) pivot.column pivot.row
        (λ none.
        is_pivot
        (sym (value-column named.complex pivot.degree pivot.column pivot.row)
        ∙ ap (λ (es : List Entry). value_at es pivot.row)
        (sym (column-at kept seen pivot.degree k pivot.column is_distance (omega (arith, k-within)) stands.column_place))
        ∙ none))

    pub some-rows : no_entries (lines_at rows k) ≡ false
    some-rows =
        some-entries (lines_at rows k) pivot.row pivot.column
        (λ none.
        is_pivot
        (sym (value-row named.complex pivot.degree pivot.row pivot.column)
        ∙ ap (λ (es : List Entry). value_at es pivot.column)
        (sym (row-at kept seen pivot.degree k pivot.row is_distance (omega (arith, k-within))))
        ∙ none))

    -- what may be cleared

    clear-columns : (j place : ℕ) → j < length names → place < length (lines_at columns j) → CanClear j place columns rows
    clear-columns j place within place_within =
        record {
          has_lines = omega (arith, within, length-columns kept);
          has_across = omega (arith, within, length-rows kept);
          has_place = place_within;
          crossed = (p, crossed-kept j within);
        }

    clear-rows : (j place : ℕ) → j < length names → place < length (lines_at rows j) → CanClear j place rows columns
    clear-rows j place within place_within =
        record {
          has_lines = omega (arith, within, length-rows kept);
          has_across = omega (arith, within, length-columns kept);
          has_place = place_within;
          crossed = (p, crossed-swapped p (lines_at columns j) (lines_at rows j) (crossed-kept j within));
        }

    pub clear-own_column : CanClear k pivot.column columns rows
    clear-own_column = clear-columns k pivot.column (omega (arith, k-within)) column_place

    pub clear-own_row : CanClear k pivot.row rows columns
    clear-own_row = clear-rows k pivot.row (omega (arith, k-within)) row_place

    module _ {columns_after rows_after : List (List (List Entry))}
        (own : HaveOwn p named.complex pivot k columns rows columns_after rows_after) where
      pub clear-after : CanClear (k + 1) pivot.row columns_after rows_after
      clear-after =
          let other : k + 1 ≢ k = λ same. omega (arith, same) in
          can_clear-kept (k + 1) pivot.row columns rows columns_after rows_after own.columns_sizes.degrees own.rows_sizes.degrees
          (own.columns_others (k + 1) other) (own.rows_others (k + 1) other)
          (clear-columns (k + 1) pivot.row k-within
          (omega (
            arith,
            stands.row_place,
            length-column kept seen (pivot.degree +ℤ pos 1) (k + 1) next-degree k-within,
          )))

      pub clear-before : (j : ℕ) → k ≡ j + 1 → CanClear j pivot.column rows_after columns_after
      clear-before j next =
          let other : j ≢ k = λ same. omega (arith, same, next) in
          let within : j < length names = omega (arith, next, k-within) in
          let i : ℤ = low +ℤ pos j in
          let same : i +ℤ pos 1 ≡ pivot.degree = omega (arith, ints, is_distance, next) in
          can_clear-kept j pivot.column rows columns rows_after columns_after own.rows_sizes.degrees own.columns_sizes.degrees
          (own.rows_others j other) (own.columns_others j other)
          (clear-rows j pivot.column within
          (omega (
            arith,
            stands.column_place,
            length-row kept seen i j refl within,
            ap (λ (i : ℤ). place_count named.complex i) same,
          )))

    -- the places that die

    pub alive-within : k + 1 < length alive
    alive-within = within-alive kept (k + 1) k-within

    pub alive-line : (j : ℕ) → slice_index_or alive j [] ≡ (degree_of named.complex (low +ℤ pos j)).alive
    alive-line j = ap (λ (degree : Degree). degree.alive) (degree-at kept seen (low +ℤ pos j) j refl)

    pub column-alive : pivot.column < length (slice_index_or alive k [])
    column-alive =
        omega (
          arith,
          stands.column_place,
          ap (λ (degree : Degree). length degree.alive) (degree-at kept seen pivot.degree k is_distance),
        )

    pub row-alive : pivot.row < length (slice_index_or alive (k + 1) [])
    row-alive =
        omega (
          arith,
          stands.row_place,
          ap (λ (degree : Degree). length degree.alive) (degree-at kept seen (pivot.degree +ℤ pos 1) (k + 1) next-degree),
        )
