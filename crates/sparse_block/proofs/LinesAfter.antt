-- The columns, rows and places in memory after a cancellation, one by one: each is that of the cancelled complex. The pivot's own
-- columns and rows are given as right. Beside it, in the degree before, the place of the pivot's column is crossed out of the
-- columns, and the row of that place is emptied; in the degree after, the column of the place of the pivot's row is emptied, and
-- that place is crossed out of the rows; and both places die. First the columns, then the rows, then the places, each by four
-- cases: the degree is the pivot's, the one after, the one before, or another. What was done in that degree is what the
-- cancellation does there, and the rest does not touch it.
use Rattle.std.proofs.lemmas.Bool.Decides.{nat_tests}
use Rattle.std.proofs.Common.{◌≡◌, ◌≢◌, ℕ, ◌+◌, ◌<◌, ◌∙◌, inl, inr, List, [], ℤ, pos, ◌+ℤ◌, length, set, ap, sym, arith, Bool, false}
use Rattle.std.specs.Prelude.{slice_index_or}
use Rattle.std.proofs.lemmas.Bool.Decides.{eqb_tells}
use Rattle.std.proofs.lemmas.Int.{ints}
use Rattle.std.proofs.lemmas.List.{get_or-set_other, get_or-set_same, length-set}
use Rattle.kh_types.specs.Complex.{Degree, Pivot, IsComplex, IsPivot, cancel, degree_of, without_place}
use Rattle.kh_types.specs.Generators.{Generator}
use Rattle.prime_field.specs.Residues.{IsField}
use Rattle.sparse_block.specs.Clearing.{crossed_out, crossed_out_before, emptied, emptied_before, with_dead, without}
use Rattle.sparse_block.specs.Complexes.{NamedComplex, column_of, row_of}
use Rattle.sparse_block.specs.Entries.{Entry, entries_of}
use Rattle.sparse_block.specs.Inside.{IsKept}
use Rattle.sparse_block.proofs.CancelledDegrees.{degree-at_pivot, degree-after_pivot, degree-before_pivot, degree-elsewhere}
use Rattle.sparse_block.proofs.CancelledLists.{Beside, HaveOwn, alive-line, alive-within, beside, column-line, k-within, row-line, set-without_place}
use Rattle.sparse_block.proofs.ClearedLists.{SameSizes, crossed_out-before, crossed_out-line, crossed_out-other, crossed_out_before-other, crossed_out_before-sizes, emptied-apart, emptied-before, emptied-other, emptied-same, emptied_before-other, emptied_before-sizes, line_at, lines_at, sizes-then}
use Rattle.sparse_block.proofs.KeptLemmas.{IsSeen, complex-seen, length-column, length-columns, length-row, length-rows}
use Rattle.sparse_block.proofs.LeftLines.{column-after_other, column-after_same, column-before, column-elsewhere, row-after, row-before_other, row-before_same, row-elsewhere}

module _ {p : ℕ} {low : ℤ} {names : List (List Generator)} {alive : List (List Bool)} {columns rows : List (List (List Entry))}
    {named : NamedComplex} (kept : IsKept p low names alive columns rows) (seen : IsSeen low names alive columns named)
    (pivot : Pivot) (is_pivot : IsPivot named.complex pivot) (k : ℕ) (is_distance : pivot.degree ≡ low +ℤ pos k)
    (field : IsField p) {columns_after rows_after : List (List (List Entry))}
    (own : HaveOwn p named.complex pivot k columns rows columns_after rows_after) where
  is : IsComplex p named.complex
  is = complex-seen kept seen

  pub within : k + 1 < length names
  within = k-within kept seen pivot is_pivot k is_distance

  -- the columns

  pub columns_count : length columns_after ≡ length names
  columns_count = own.columns_sizes.degrees ∙ length-columns kept

  pub rows_count : length rows_after ≡ length names
  rows_count = own.rows_sizes.degrees ∙ length-rows kept

  pub columns_sizes : SameSizes columns (crossed_out_before k pivot.column columns_after)
  columns_sizes =
      sizes-then columns columns_after (crossed_out_before k pivot.column columns_after) own.columns_sizes
      (crossed_out_before-sizes k pivot.column columns_after (omega (arith, within, columns_count)))

  pub rows_sizes : SameSizes rows (emptied_before k pivot.column rows_after)
  rows_sizes =
      sizes-then rows rows_after (emptied_before k pivot.column rows_after) own.rows_sizes
      (emptied_before-sizes k pivot.column rows_after (omega (arith, within, rows_count)))

  column-stays : (j place : ℕ) → j ≢ k → j < length names → place < length (lines_at columns j)
      → line_at columns_after j place ≡ entries_of (column_of named.complex (low +ℤ pos j) place)
  column-stays j place other j_within place_within =
      ap (λ (lines : List (List Entry)). slice_index_or lines place []) (own.columns_others j other)
      ∙ column-line kept seen pivot is_pivot k is_distance j place j_within place_within

  pub columns-left : (j place : ℕ) → j < length names → place < length (lines_at columns j)
      → line_at (emptied (k + 1) pivot.row (crossed_out_before k pivot.column columns_after)) j place
      ≡ entries_of (column_of (cancel p named.complex pivot) (low +ℤ pos j) place)
  columns-left j place j_within place_within =
      let crossed = crossed_out_before k pivot.column columns_after in
      let line : List (List Entry) → List Entry = λ lines. slice_index_or lines place [] in
      let i : ℤ = low +ℤ pos j in
      elim (beside j k) [
        | Beside.is_at here ↦
            let same : pivot.degree ≡ i = omega (arith, ints, is_distance, here) in
            ap line (emptied-other (k + 1) pivot.row crossed j (λ same. omega (arith, same, here)))
            ∙ ap line (crossed_out_before-other k j pivot.column columns_after (λ same. omega (arith, same, here)))
            ∙ ap (λ (j : ℕ). line_at columns_after j place) here
            ∙ own.columns_own place
            (omega (
              arith,
              place_within,
              ap (λ (j : ℕ). length (lines_at columns j)) here,
              length-column kept seen pivot.degree k is_distance (omega (arith, within)),
            ))
            ∙ ap (λ (i : ℤ). entries_of (column_of (cancel p named.complex pivot) i place)) same
        | Beside.is_after here ↦
            let next : i ≡ pivot.degree +ℤ pos 1 = omega (arith, ints, is_distance, here) in
            let j_crossed : j < length crossed =
            omega (arith, j_within, columns_sizes.degrees, length-columns kept) in
            ap (λ (m : ℕ). line_at (emptied m pivot.row crossed) j place) (sym here)
            ∙ elim (eqb_tells place pivot.row) [
              | inl same ↦
                  ap (line_at (emptied j pivot.row crossed) j) same.1
                  ∙ emptied-same j pivot.row crossed j_crossed (omega (arith, place_within, same.1, columns_sizes.lines j))
                  ∙ column-after_same p named.complex pivot field is is_pivot i place next same.1
              | inr other ↦
                  emptied-apart j pivot.row crossed j_crossed place other.1
                  ∙ ap line (crossed_out_before-other k j pivot.column columns_after (λ same. omega (arith, same, here)))
                  ∙ column-stays j place (λ same. omega (arith, same, here)) j_within place_within
                  ∙ column-after_other p named.complex pivot field is is_pivot i place next other.1
            ]
        | Beside.is_before here ↦
            let before : i +ℤ pos 1 ≡ pivot.degree = omega (arith, ints, is_distance, here) in
            ap line (emptied-other (k + 1) pivot.row crossed j (λ same. omega (arith, same, here)))
            ∙ ap (λ (degrees : List (List (List Entry))). line_at degrees j place)
            (crossed_out-before k j pivot.column columns_after here)
            ∙ crossed_out-line j pivot.column columns_after (omega (arith, j_within, columns_count)) place
            ∙ ap (without pivot.column) (column-stays j place (λ same. omega (arith, same, here)) j_within place_within)
            ∙ column-before p named.complex pivot field is is_pivot i place before
        | Beside.is_elsewhere not_at not_after not_before ↦
            ap line (emptied-other (k + 1) pivot.row crossed j not_after)
            ∙ ap line (crossed_out_before-other k j pivot.column columns_after not_before)
            ∙ column-stays j place not_at j_within place_within
            ∙ column-elsewhere p named.complex pivot field is is_pivot i place
            (λ same. not_at (omega (arith, ints, is_distance, same))) (λ same. not_after (omega (arith, ints, is_distance, same)))
            (λ same. not_before (omega (arith, ints, is_distance, same)))
      ]

  -- the rows

  row-stays : (j place : ℕ) → j ≢ k → j < length names
      → line_at rows_after j place ≡ entries_of (row_of named.complex (low +ℤ pos j) place)
  row-stays j place other j_within = grind (arith, nat_tests, row-line)

  pub rows-left : (j place : ℕ) → j < length names → place < length (lines_at rows j)
      → line_at (crossed_out (k + 1) pivot.row (emptied_before k pivot.column rows_after)) j place
      ≡ entries_of (row_of (cancel p named.complex pivot) (low +ℤ pos j) place)
  rows-left j place j_within place_within =
      let left = emptied_before k pivot.column rows_after in
      let line : List (List Entry) → List Entry = λ lines. slice_index_or lines place [] in
      let i : ℤ = low +ℤ pos j in
      elim (beside j k) [
        | Beside.is_at here ↦
            let same : pivot.degree ≡ i = omega (arith, ints, is_distance, here) in
            ap line (crossed_out-other (k + 1) pivot.row left j (λ same. omega (arith, same, here)))
            ∙ ap line (emptied_before-other k j pivot.column rows_after (λ same. omega (arith, same, here)))
            ∙ ap (λ (j : ℕ). line_at rows_after j place) here
            ∙ own.rows_own place
            (omega (
              arith,
              place_within,
              ap (λ (j : ℕ). length (lines_at rows j)) here,
              length-row kept seen pivot.degree k is_distance (omega (arith, within)),
            ))
            ∙ ap (λ (i : ℤ). entries_of (row_of (cancel p named.complex pivot) i place)) same
        | Beside.is_after here ↦
            let next : i ≡ pivot.degree +ℤ pos 1 = omega (arith, ints, is_distance, here) in
            let j_left : j < length left = omega (arith, j_within, rows_sizes.degrees, length-rows kept) in
            ap (λ (m : ℕ). line_at (crossed_out m pivot.row left) j place) (sym here)
            ∙ crossed_out-line j pivot.row left j_left place
            ∙ ap (without pivot.row)
            (ap line (emptied_before-other k j pivot.column rows_after (λ same. omega (arith, same, here)))
            ∙ row-stays j place (λ same. omega (arith, same, here)) j_within)
            ∙ row-after p named.complex pivot field is is_pivot i place next
        | Beside.is_before here ↦
            let before : i +ℤ pos 1 ≡ pivot.degree = omega (arith, ints, is_distance, here) in
            let j_after : j < length rows_after = omega (arith, j_within, rows_count) in
            ap line (crossed_out-other (k + 1) pivot.row left j (λ same. omega (arith, same, here)))
            ∙ ap (λ (degrees : List (List (List Entry))). line_at degrees j place) (emptied-before k j pivot.column rows_after here)
            ∙ elim (eqb_tells place pivot.column) [
              | inl same ↦
                  ap (line_at (emptied j pivot.column rows_after) j) same.1
                  ∙ emptied-same j pivot.column rows_after j_after
                  (omega (arith, place_within, same.1, own.rows_sizes.lines j))
                  ∙ row-before_same p named.complex pivot field is is_pivot i place before same.1
              | inr other ↦
                  emptied-apart j pivot.column rows_after j_after place other.1
                  ∙ row-stays j place (λ same. omega (arith, same, here)) j_within
                  ∙ row-before_other p named.complex pivot field is is_pivot i place before other.1
            ]
        | Beside.is_elsewhere not_at not_after not_before ↦
            ap line (crossed_out-other (k + 1) pivot.row left j not_after)
            ∙ ap line (emptied_before-other k j pivot.column rows_after not_before)
            ∙ row-stays j place not_at j_within
            ∙ row-elsewhere p named.complex pivot field is is_pivot i place
            (λ same. not_at (omega (arith, ints, is_distance, same))) (λ same. not_after (omega (arith, ints, is_distance, same)))
            (λ same. not_before (omega (arith, ints, is_distance, same)))
      ]

  -- the places

  pub alive-left : (j : ℕ)
      → slice_index_or (with_dead (k + 1) pivot.row (with_dead k pivot.column alive)) j []
      ≡ (degree_of (cancel p named.complex pivot) (low +ℤ pos j)).alive
  alive-left j =
      let i : ℤ = low +ℤ pos j in
      let first : List (List Bool) = with_dead k pivot.column alive in
      let size : length first ≡ length alive = length-set alive k (set (slice_index_or alive k []) pivot.column false) in
      let is_alive : slice_index_or alive j [] ≡ (degree_of named.complex i).alive =
      alive-line kept seen pivot is_pivot k is_distance j in
      let alive_count = alive-within kept seen pivot is_pivot k is_distance in
      let second : j ≢ k + 1 → slice_index_or (with_dead (k + 1) pivot.row first) j [] ≡ slice_index_or first j [] =
      λ other. get_or-set_other first (k + 1) j (set (slice_index_or first (k + 1) []) pivot.row false) [] other in
      let one : j ≢ k → slice_index_or first j [] ≡ slice_index_or alive j [] =
      λ other. get_or-set_other alive k j (set (slice_index_or alive k []) pivot.column false) [] other in
      let places : Degree → List Bool = λ degree. degree.alive in
      elim (beside j k) [
        | Beside.is_at here ↦
            let same : i ≡ pivot.degree = omega (arith, ints, is_distance, here) in
            second (λ same. omega (arith, same, here))
            ∙ ap (λ (m : ℕ). slice_index_or (with_dead m pivot.column alive) j []) (sym here)
            ∙ get_or-set_same alive j (set (slice_index_or alive j []) pivot.column false) [] (omega (arith, alive_count, here))
            ∙ set-without_place pivot.column (slice_index_or alive j [])
            ∙ ap (without_place pivot.column) is_alive
            ∙ sym (ap places (degree-at_pivot p named.complex pivot i same))
        | Beside.is_after here ↦
            let next : i ≡ pivot.degree +ℤ pos 1 = omega (arith, ints, is_distance, here) in
            ap (λ (m : ℕ). slice_index_or (with_dead m pivot.row first) j []) (sym here)
            ∙ get_or-set_same first j (set (slice_index_or first j []) pivot.row false) [] (omega (arith, alive_count, here, size))
            ∙ set-without_place pivot.row (slice_index_or first j [])
            ∙ ap (without_place pivot.row) (one (λ same. omega (arith, same, here)) ∙ is_alive)
            ∙ sym (ap places (degree-after_pivot p named.complex pivot i next))
        | Beside.is_before here ↦
            let before : i +ℤ pos 1 ≡ pivot.degree = omega (arith, ints, is_distance, here) in
            second (λ same. omega (arith, same, here)) ∙ one (λ same. omega (arith, same, here)) ∙ is_alive
            ∙ sym (ap places (degree-before_pivot p named.complex pivot i before))
        | Beside.is_elsewhere not_at not_after not_before ↦
            second not_after ∙ one not_at ∙ is_alive
            ∙ sym (ap places
            (degree-elsewhere p named.complex pivot i (λ same. not_at (omega (arith, ints, is_distance, same)))
            (λ same. not_after (omega (arith, ints, is_distance, same)))
            (λ same. not_before (omega (arith, ints, is_distance, same)))))
      ]
