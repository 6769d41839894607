-- The complex that names and columns make, and that it is kept in memory as it should be. For any places alive: columns in memory
-- are the entries of the columns of the matrices, since entries that ascend are those of the line that they denote; matrices have
-- the sizes of their degrees, with entries below p; so it is a complex, if dead places have no entry and products are 0. With all
-- places alive no place is dead, and products are asked for. Then the steps of building: one degree more of the lists of living
-- places and of the rows, and the lines of one degree in memory, which are as many as its names.
use Rattle.std.proofs.lemmas.Bool.Decides.{nat_tests}
use Rattle.std.proofs.Common.{◌≡◌, ℕ, zero, suc, ◌+◌, ◌<◌, ◌^◌, ◌∙◌, inl, inr, List, [], ◌∷◌, ◌++◌, ℤ, pos, negsuc, ◌+ℤ◌, ◌-ℤ◌, ◌≤ℤ◌, length, map, get_or, take, replicate, ap, sym, subst, arith, refl, Bool, true, false}
use Rattle.std.specs.Prelude.{slice_index_or, All}
use Rattle.std.specs.List.{range_with_len}
use Rattle.std.proofs.Math.ListN as plain
use Rattle.std.proofs.lemmas.Bool.{false≢true}
use Rattle.std.proofs.lemmas.Bool.Decides.{leb_tells}
use Rattle.std.proofs.lemmas.List.{length-map, get_or_past, map_more, map_push}
use Rattle.std.proofs.lemmas.List.FromFn.{fill_by_all, map-range_with_len_more}
use Rattle.std.proofs.lemmas.Simd.{map-map}
use Rattle.kh_types.specs.Complex.{Degree, IsComplex, degree_number, degree_from, degree_of, entry_in, entry_of}
use Rattle.kh_types.specs.Generators.{Generator}
use Rattle.kh_types.proofs.MatrixTests.{entry-past_rows}
use Rattle.sparse_block.specs.Entries.{Entry, entries_of, value_at, AreEntries}
use Rattle.sparse_block.specs.Complexes.{matrix_from, column_in, degree_from_lists, degrees_from, complex_from, all_alive, HaveEntries, SquaresToZero}
use Rattle.std.specs.Global.{Vec}
use Rattle.smallvec.specs.SmallVec.{SmallVec}
use Rattle.sparse_block.specs.Inside.{IsKept, column_entries, row_entries, entries_in, lines_in, lists_in}
use Rattle.sparse_block.proofs.LineLemmas.{lines-lines_in}
use Rattle.sparse_block.proofs.AscendingLemmas.{entries-ascend}
use Rattle.sparse_block.proofs.EntryLemmas.{entries_of-line_of, value_at-below}
use Rattle.sparse_block.proofs.MatrixLemmas.{length-matrix_from, row-matrix_from, column_in-matrix_from, entry-matrix_from}
use Rattle.sparse_block.proofs.DegreeLemmas.{degree_number-from, length-at, length-same}

-- all places are alive, as many as there are names

abbrev all_true : List Generator → List Bool
all_true degree = map (λ name. true) degree

pub sizes-all_alive : (names : List (List Generator)) → map length (all_alive names) ≡ map length names
sizes-all_alive [] = refl
sizes-all_alive (degree ∷ names) = grind (arith, nat_tests, length-map, sizes-all_alive names)

pub replicate-all_true : (degree : List Generator) → replicate (length degree) true ≡ all_true degree
replicate-all_true [] = refl
replicate-all_true (name ∷ degree) = ap (λ (bs : List Bool). true ∷ bs) (replicate-all_true degree)

always_true : (degree : List Generator) (place : ℕ) → slice_index_or (all_true degree) place true ≡ true
always_true [] place = refl
always_true (name ∷ degree) zero = refl
always_true (name ∷ degree) (suc place) = always_true degree place

pub alive-always : (names : List (List Generator)) (k place : ℕ)
    → slice_index_or (slice_index_or (all_alive names) k []) place true ≡ true
alive-always names k place =
    ap (λ (bs : List Bool). slice_index_or bs place true) (plain.get_or-map all_true names k [])
    ∙ always_true (slice_index_or names k []) place

-- the complex with these places alive, where columns have entries at places of the next degree

module _ (p : ℕ) (alive : List (List Bool)) (columns : List (List (List Entry))) (sizes : map length columns ≡ map length alive)
    (have : (k : ℕ) → All (AreEntries p (length (slice_index_or alive (k + 1) []))) (slice_index_or columns k [])) where
  width-at : (k : ℕ) → length (slice_index_or columns k []) ≡ length (slice_index_or alive k [])
  width-at k = length-at columns alive k sizes

  have-at : (k column : ℕ) → column < length (slice_index_or columns k [])
      → AreEntries p (length (slice_index_or alive (k + 1) [])) (slice_index_or (slice_index_or columns k []) column [])
  have-at k column within = have k column [] within

  -- the columns in memory are the entries of the matrices

  column-built : (k column : ℕ) → column < length (slice_index_or alive k [])
      → slice_index_or (slice_index_or columns k []) column []
      ≡ entries_of (column_in (degree_from_lists alive columns k).matrix column)
  column-built k column within =
      let height = length (slice_index_or alive (k + 1) []) in
      let entries : List Entry = slice_index_or (slice_index_or columns k []) column [] in
      sym (
      ap entries_of (column_in-matrix_from height column (slice_index_or columns k []))
      ∙ entries_of-line_of p height entries (have-at k column (omega (arith, within, width-at k)))
      )

  pub columns-built : columns ≡ map column_entries (degrees_from alive columns)
  columns-built =
      let degree : ℕ → Degree = degree_from_lists alive columns in
      fill_by_all (λ (k : ℕ). column_entries (degree k)) columns (length alive) [] (length-same columns alive sizes)
      (λ k within.
      fill_by_all (λ (column : ℕ). entries_of (column_in (degree k).matrix column)) (slice_index_or columns k [])
      (length (slice_index_or alive k [])) [] (width-at k) (column-built k))
      ∙ sym (map-map column_entries degree (range_with_len 0 (length alive)))

  -- the sizes of the matrices, and their entries

  rows-sized : (low : ℤ) (k : ℕ)
      → length (degree_number (complex_from low alive columns) k).matrix
      ≡ length (degree_number (complex_from low alive columns) (k + 1)).alive
  rows-sized low k =
      ap (λ (degree : Degree). length degree.matrix) (degree_number-from low alive columns k)
      ∙ length-matrix_from (length (slice_index_or alive (k + 1) [])) (slice_index_or columns k [])
      ∙ ap (λ (degree : Degree). length degree.alive) (sym (degree_number-from low alive columns (k + 1)))

  row-sized : (k row : ℕ) → row < length (degree_from_lists alive columns k).matrix
      → length (slice_index_or (degree_from_lists alive columns k).matrix row []) ≡ length (degree_from_lists alive columns k).alive
  row-sized k row within = grind (arith, nat_tests, row-matrix_from, length-matrix_from, length-map, width-at)

  number-below : (k row column : ℕ) → 0 < p → value_at (slice_index_or (slice_index_or columns k []) column []) row < p
  number-below k row column positive =
      let height = length (slice_index_or alive (k + 1) []) in
      let lists : List (List Entry) = slice_index_or columns k [] in
      elim (leb_tells (length lists) column) [
        | inl past ↦
            subst (λ (entries : List Entry). value_at entries row < p) (sym (get_or_past lists column [] past.1)) positive
        | inr has ↦
            value_at-below p 0 height row (slice_index_or lists column []) positive
            (entries-ascend p height (slice_index_or lists column []) (have-at k column has.1))
      ]

  entry-below : (k row column : ℕ) → 0 < p → entry_in (degree_from_lists alive columns k).matrix row column < p
  entry-below k row column positive =
      grind (arith, nat_tests, leb_tells, entry-past_rows, length-matrix_from, entry-matrix_from, number-below)

  entry-below-from : (low distance : ℤ) (row column : ℕ) → 0 < p
      → entry_in (degree_from (complex_from low alive columns) distance).matrix row column < p
  entry-below-from low (pos k) row column positive =
      subst (λ (degree : Degree). entry_in degree.matrix row column < p) (sym (degree_number-from low alive columns k))
      (entry-below k row column positive)
  entry-below-from low (negsuc k) row column positive = positive

  -- a complex, if places that are dead have no entry, and products are 0
  pub complex-built : (low : ℤ) → 0 < p
      → ((i : ℤ) (row column : ℕ) → slice_index_or (degree_of (complex_from low alive columns) i).alive column true ≡ false
      → entry_of (complex_from low alive columns) i row column ≡ 0)
      → ((i : ℤ) (row column : ℕ) → slice_index_or (degree_of (complex_from low alive columns) (i +ℤ pos 1)).alive row true ≡ false
      → entry_of (complex_from low alive columns) i row column ≡ 0)
      → SquaresToZero p (complex_from low alive columns) → IsComplex p (complex_from low alive columns)
  complex-built low positive dead_column dead_row squares =
      record {
        rows = λ k within. rows-sized low k;
        columns = λ k row within.
            let is_degree = degree_number-from low alive columns k in
            subst (λ (degree : Degree). length (slice_index_or degree.matrix row []) ≡ length degree.alive) (sym is_degree)
            (row-sized k row (subst (λ (degree : Degree). row < length degree.matrix) is_degree within));
        below = λ i row column. entry-below-from low (i -ℤ low) row column positive;
        dead_column = dead_column;
        dead_row = dead_row;
        product = squares;
      }

-- all places are alive

module _ (p : ℕ) (names : List (List Generator)) (columns : List (List (List Entry)))
    (sizes : map length columns ≡ map length names) (have : HaveEntries p names columns) where
  pub sizes-alive : map length columns ≡ map length (all_alive names)
  sizes-alive = sizes ∙ sym (sizes-all_alive names)

  pub have-alive : (k : ℕ) → All (AreEntries p (length (slice_index_or (all_alive names) (k + 1) []))) (slice_index_or columns k [])
  have-alive k =
      subst (λ (height : ℕ). All (AreEntries p height) (slice_index_or columns k []))
      (sym (length-at (all_alive names) names (k + 1) (sizes-all_alive names))) (have k)

  never-dead : (low distance : ℤ) (place : ℕ)
      → slice_index_or (degree_from (complex_from low (all_alive names) columns) distance).alive place true ≡ true
  never-dead low (pos k) place =
      ap (λ (degree : Degree). slice_index_or degree.alive place true) (degree_number-from low (all_alive names) columns k)
      ∙ alive-always names k place
  never-dead low (negsuc k) place = refl

  pub complex-all_alive : (low : ℤ) → 0 < p → SquaresToZero p (complex_from low (all_alive names) columns)
      → IsComplex p (complex_from low (all_alive names) columns)
  complex-all_alive low positive =
      complex-built p (all_alive names) columns sizes-alive have-alive low positive
      (λ i row column dead. absurd (false≢true (sym dead ∙ never-dead low (i -ℤ low) column)))
      (λ i row column dead. absurd (false≢true (sym dead ∙ never-dead low (i +ℤ pos 1 -ℤ low) row)))

-- what build keeps
pub kept-built : (p : ℕ) (low : ℤ) (names : List (List Generator)) (alive : List (List Bool))
    (columns rows : List (List (List Entry))) → 0 < p → 0 < length names → (low +ℤ pos (length names)) ≤ℤ pos 32767
    → All (λ degree. length degree < 2 ^ 29) names → map length columns ≡ map length names → HaveEntries p names columns
    → SquaresToZero p (complex_from low (all_alive names) columns) → alive ≡ all_alive names
    → rows ≡ map row_entries (degrees_from (all_alive names) columns) → IsKept p low names alive columns rows
kept-built p low names alive columns rows positive some end counts sizes have squares are_alive are_rows =
    subst (λ (alive : List (List Bool)). IsKept p low names alive columns rows) (sym are_alive)
    (record {
      some = some;
      end = end;
      counts = counts;
      sizes = sizes-all_alive names;
      is_complex = complex-all_alive p names columns sizes have low positive squares;
      are_columns = columns-built p (all_alive names) columns (sizes-alive p names columns sizes have) (have-alive p names columns sizes have);
      are_rows = are_rows;
    })

-- one degree more of the lists of places alive
pub all_alive-more : (names : List (List Generator)) (k : ℕ) (degree : List Generator) (places : List Bool)
    (made : List (List Bool)) → k < length names → degree ≡ get_or names k [] → places ≡ replicate (length degree) true
    → made ≡ all_alive (take k names) → made ++ places ∷ [] ≡ all_alive (take (k + 1) names)
all_alive-more names k degree places made within is_degree are so_far =
    ap (λ (made : List (List Bool)). made ++ places ∷ []) so_far
    ∙ ap (λ (places : List Bool). all_alive (take k names) ++ places ∷ [])
    (are ∙ replicate-all_true degree ∙ ap all_true is_degree)
    ∙ sym (map_more all_true names k [] within)

-- one degree more of the rows
pub rows-more : (alive : List (List Bool)) (columns : List (List (List Entry))) (k : ℕ) (rows : List (List Entry))
    (made : List (List (List Entry))) → rows ≡ row_entries (degree_from_lists alive columns k)
    → made ≡ map row_entries (map (degree_from_lists alive columns) (range_with_len 0 k))
    → made ++ rows ∷ [] ≡ map row_entries (map (degree_from_lists alive columns) (range_with_len 0 (k + 1)))
rows-more alive columns k rows made are so_far =
    let degrees : ℕ → List Degree = λ n. map (degree_from_lists alive columns) (range_with_len 0 n) in
    ap (λ (made : List (List (List Entry))). made ++ rows ∷ []) so_far
    ∙ ap (λ (rows : List (List Entry)). map row_entries (degrees k) ++ rows ∷ []) are
    ∙ sym (map_push row_entries (degrees k) (degree_from_lists alive columns k))
    ∙ ap (λ (degrees : List Degree). map row_entries degrees)
    (sym (map-range_with_len_more (degree_from_lists alive columns) 0 k k (omega arith)))

-- the rows of a degree, whose height is a count of names
pub rows-of_height : (names : List (List Generator)) (columns : List (List (List Entry))) (k height : ℕ)
    (lists : List (List Entry)) → height ≡ length (slice_index_or names (k + 1) []) → lists ≡ slice_index_or columns k []
    → map entries_of (matrix_from height lists) ≡ row_entries (degree_from_lists (all_alive names) columns k)
rows-of_height names columns k height lists is_height are = grind (arith, nat_tests, length-at, sizes-all_alive)

-- the columns of a degree in memory

module _ (names : List (Vec Generator)) (columns : List (Vec (SmallVec Entry))) (k : ℕ) (degree : Vec (SmallVec Entry))
    (lines : List (SmallVec Entry)) (sizes : map length (lines_in columns) ≡ map length (lists_in names))
    (within : k < length names) (is_degree : degree ≡ get_or columns k degree) (are : lines ≡ degree.items) where
  within-columns : k < length columns
  within-columns = grind (arith, nat_tests, length-same, length-map)

  pub lines-of_degree : entries_in lines ≡ slice_index_or (lines_in columns) k []
  lines-of_degree = ap entries_in are ∙ sym (lines-lines_in columns k degree within-columns is_degree)

  pub count-of_degree : (limit : ℕ) → All (λ list. length list < limit) (lists_in names) → length lines < limit
  count-of_degree limit few =
      omega (
        arith,
        few k [] (omega (arith, within, length-map names (λ (degree : Vec Generator). degree.items))),
        length-at (lines_in columns) (lists_in names) k sizes,
        ap length lines-of_degree,
        length-map lines (λ (line : SmallVec Entry). line.items),
      )

  pub entries-of_degree : (p height : ℕ) → height ≡ length (slice_index_or (lists_in names) (k + 1) [])
      → HaveEntries p (lists_in names) (lines_in columns) → All (AreEntries p height) (entries_in lines)
  entries-of_degree p height is_height have =
      subst (λ (lists : List (List Entry)). All (AreEntries p height) lists) (sym lines-of_degree)
      (subst (λ (height : ℕ). All (AreEntries p height) (slice_index_or (lines_in columns) k [])) (sym is_height) (have k))
