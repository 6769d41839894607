-- What is held of a complex after a cancellation is what the cancelled complex has.
use Rattle.std.proofs.lemmas.Bool.Decides.{nat_tests}
use Rattle.std.proofs.Common.{◌≡◌, ℕ, ◌+◌, ◌<◌, ◌∙◌, List, [], ◌++◌, ℤ, pos, ◌+ℤ◌, length, map, set, take, ap, sym, arith, refl, Bool, false}
use Rattle.std.specs.Prelude.{slice_index_or}
use Rattle.std.specs.Global.{Vec}
use Rattle.std.proofs.lemmas.Int.{ints}
use Rattle.std.proofs.lemmas.List.{get_or-map, length-map, length-set}
use Rattle.kh_types.specs.Complex.{Degree, Pivot, IsPivot, cancel, degree_number, degree_of, empty_degree}
use Rattle.kh_types.specs.Generators.{Generator}
use Rattle.kh_types.proofs.CancelLemmas.{degrees-cancel}
use Rattle.kh_types.proofs.ComplexLemmas.{degree_of-number}
use Rattle.prime_field.specs.Residues.{IsField}
use Rattle.sparse_block.specs.Clearing.{crossed_out, crossed_out_before, emptied, emptied_before, with_dead}
use Rattle.sparse_block.specs.Complexes.{NamedComplex, column_in, place_count}
use Rattle.sparse_block.specs.Entries.{Entry, entries_of}
use Rattle.sparse_block.specs.Inside.{IsKept, lists_in}
use Rattle.sparse_block.proofs.CancelledComplexes.{complex-cancel, places_number-cancel}
use Rattle.sparse_block.proofs.CancelledLists.{HaveOwn}
use Rattle.sparse_block.proofs.ClearedLists.{SameSizes, crossed_out-sizes, emptied-sizes, lines_at}
use Rattle.sparse_block.proofs.ClearingLemmas.{list-same, taken-whole}
use Rattle.sparse_block.proofs.DegreeLemmas.{length-same}
use Rattle.sparse_block.proofs.HeldLists.{IsHeldAs, alive-held, columns-held, held-as, rows-held}
use Rattle.sparse_block.proofs.KeptLemmas.{IsSeen, complex-seen, degree-count, length-column, length-columns, length-row, length-rows, names-seen}
use Rattle.sparse_block.proofs.LinesAfter.{alive-left, columns-left, columns_sizes, rows-left, rows_sizes, within}

module _ {p : ℕ} {low : ℤ} {names : List (List Generator)} {alive : List (List Bool)} {columns rows : List (List (List Entry))}
    {named : NamedComplex} (kept : IsKept p low names alive columns rows) (seen : IsSeen low names alive columns named)
    (pivot : Pivot) (is_pivot : IsPivot named.complex pivot) (k : ℕ) (is_distance : pivot.degree ≡ low +ℤ pos k)
    (field : IsField p) {columns_after rows_after : List (List (List Entry))}
    (own : HaveOwn p named.complex pivot k columns rows columns_after rows_after) where
  -- by the numbers of degrees

  same_low : named.complex.low ≡ low
  same_low = sym (ap (λ (named : NamedComplex). named.complex.low) seen)

  degree_count : length (cancel p named.complex pivot).degrees ≡ length names
  degree_count =
      degrees-cancel p named.complex pivot ∙ sym (ap (λ (named : NamedComplex). length named.complex.degrees) seen)
      ∙ degree-count kept

  number-left : (j : ℕ) → degree_of (cancel p named.complex pivot) (low +ℤ pos j) ≡ degree_number (cancel p named.complex pivot) j
  number-left j = grind (arith, nat_tests)

  places-left : (i : ℤ) (j : ℕ) → i ≡ low +ℤ pos j
      → place_count named.complex i ≡ length (degree_number (cancel p named.complex pivot) j).alive
  places-left i j is_i = grind (arith, nat_tests, same_low, degree_of-number, places_number-cancel)

  sizes-left : map (λ degree. length degree.alive) (cancel p named.complex pivot).degrees ≡ map length names
  sizes-left =
      let size : Degree → ℕ = λ degree. length degree.alive in
      let before = named.complex.degrees in
      let after = (cancel p named.complex pivot).degrees in
      let count = degrees-cancel p named.complex pivot in
      list-same (map size after) (map size before) 0 (length-map after size ∙ count ∙ sym (length-map before size))
      (λ j j_within.
      let j_before : j < length before = omega (arith, j_within, length-map before size) in
      get_or-map size after j empty_degree 0 (omega (arith, j_before, count))
      ∙ places_number-cancel p named.complex pivot j ∙ sym (get_or-map size before j empty_degree 0 j_before))
      ∙ sym (names-seen kept seen) ∙ sym (ap (λ (named : NamedComplex). map length named.names) seen)

  pub held-cancelled : (alive_now : List (List Bool)) (columns_now rows_now : List (List (List Entry)))
      → alive_now ≡ with_dead (k + 1) pivot.row (with_dead k pivot.column alive)
      → columns_now ≡ emptied (k + 1) pivot.row (crossed_out_before k pivot.column columns_after)
      → rows_now ≡ crossed_out (k + 1) pivot.row (emptied_before k pivot.column rows_after)
      → IsHeldAs p low names alive_now columns_now rows_now (cancel p named.complex pivot)
  held-cancelled alive_now columns_now rows_now are_alive are_columns are_rows =
      let after = cancel p named.complex pivot in
      let crossed = crossed_out_before k pivot.column columns_after in
      let left = emptied_before k pivot.column rows_after in
      let first : List (List Bool) = with_dead k pivot.column alive in
      let is_after = complex-cancel p named.complex pivot field (complex-seen kept seen) is_pivot in
      let next_columns : SameSizes crossed (emptied (k + 1) pivot.row crossed) =
      emptied-sizes (k + 1) pivot.row crossed (omega (arith, within kept seen pivot is_pivot k is_distance field own, (columns_sizes kept seen pivot is_pivot k is_distance field own).degrees, length-columns kept)) in
      let next_rows : SameSizes left (crossed_out (k + 1) pivot.row left) =
      crossed_out-sizes (k + 1) pivot.row left (omega (arith, within kept seen pivot is_pivot k is_distance field own, (rows_sizes kept seen pivot is_pivot k is_distance field own).degrees, length-rows kept)) in
      held-as p low names alive alive_now columns rows columns_now rows_now after kept is_after same_low sizes-left (
      record {
        are_alive =
            are_alive
            ∙ alive-held after (with_dead (k + 1) pivot.row first)
            (omega (
              arith,
              length-set first (k + 1) (set (slice_index_or first (k + 1) []) pivot.row false),
              length-set alive k (set (slice_index_or alive k []) pivot.column false),
              length-same alive names kept.sizes,
              degree_count,
            ))
            (λ j j_within. alive-left kept seen pivot is_pivot k is_distance field own j ∙ ap (λ (degree : Degree). degree.alive) (number-left j));
        are_columns =
            are_columns
            ∙ columns-held after (emptied (k + 1) pivot.row crossed)
            (omega (arith, next_columns.degrees, (columns_sizes kept seen pivot is_pivot k is_distance field own).degrees, length-columns kept, degree_count))
            (λ j j_within.
            next_columns.lines j ∙ (columns_sizes kept seen pivot is_pivot k is_distance field own).lines j
            ∙ length-column kept seen (low +ℤ pos j) j refl (omega (arith, j_within, degree_count))
            ∙ places-left (low +ℤ pos j) j refl)
            (λ j place j_within place_within.
            let j_names : j < length names = omega (arith, j_within, degree_count) in
            columns-left kept seen pivot is_pivot k is_distance field own j place j_names
            (omega (
              arith,
              place_within,
              places-left (low +ℤ pos j) j refl,
              length-column kept seen (low +ℤ pos j) j refl j_names,
            ))
            ∙ ap (λ (degree : Degree). entries_of (column_in degree.matrix place)) (number-left j));
        are_rows =
            are_rows
            ∙ rows-held after (crossed_out (k + 1) pivot.row left)
            (omega (arith, next_rows.degrees, (rows_sizes kept seen pivot is_pivot k is_distance field own).degrees, length-rows kept, degree_count))
            (λ j j_within. next_rows.lines j ∙ (rows_sizes kept seen pivot is_pivot k is_distance field own).lines j ∙ rows-height j j_within)
            (λ j place j_within place_within.
            rows-left kept seen pivot is_pivot k is_distance field own j place (omega (arith, j_within, degree_count))
            (omega (arith, place_within, rows-height j j_within))
            ∙ ap (λ (degree : Degree). entries_of (slice_index_or degree.matrix place [])) (number-left j));
      }
      )
    where
      rows-height : (j : ℕ) → j < length (cancel p named.complex pivot).degrees
          → length (lines_at rows j) ≡ length (degree_number (cancel p named.complex pivot) j).matrix
      rows-height j j_within =
          let next : low +ℤ pos j +ℤ pos 1 ≡ low +ℤ pos (j + 1) = omega (arith, ints) in
          length-row kept seen (low +ℤ pos j) j refl (omega (arith, j_within, degree_count))
          ∙ places-left (low +ℤ pos j +ℤ pos 1) (j + 1) next
          ∙ sym ((complex-cancel p named.complex pivot field (complex-seen kept seen) is_pivot).rows j j_within)

  -- the same of what is written over the vectors in memory
  pub held-written : (alive_len columns_len rows_len : ℕ) (alive_now alive_rest : List (Vec Bool))
      (columns_now columns_rest rows_now rows_rest : List (List (List Entry)))
      → length alive_now ≡ alive_len → length columns_now ≡ columns_len → length rows_now ≡ rows_len
      → lists_in alive_now ≡ with_dead (k + 1) pivot.row (with_dead k pivot.column alive)
      → columns_now ≡ emptied (k + 1) pivot.row (crossed_out_before k pivot.column columns_after)
      → rows_now ≡ crossed_out (k + 1) pivot.row (emptied_before k pivot.column rows_after)
      → IsHeldAs p low names (lists_in (take alive_len (alive_now ++ alive_rest)))
      (take columns_len (columns_now ++ columns_rest)) (take rows_len (rows_now ++ rows_rest))
      (cancel p named.complex pivot)
  held-written alive_len columns_len rows_len alive_now alive_rest columns_now columns_rest rows_now rows_rest alive_size
      columns_size rows_size are_alive are_columns are_rows =
      held-cancelled (lists_in (take alive_len (alive_now ++ alive_rest)))
      (take columns_len (columns_now ++ columns_rest)) (take rows_len (rows_now ++ rows_rest))
      (ap lists_in (taken-whole alive_len alive_now alive_rest alive_size) ∙ are_alive)
      (taken-whole columns_len columns_now columns_rest columns_size ∙ are_columns)
      (taken-whole rows_len rows_now rows_rest rows_size ∙ are_rows)
