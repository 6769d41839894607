-- What a complex in memory keeps, at a degree and a place of it. Its columns and its rows are both the entries of its matrices.
-- So for the degree that is k above the least one: it has as many columns as places and as many rows as the next degree has
-- places, and each is the list of entries of the complex's column or row. Counts of places, places alive and names are read in
-- the same way; below the least degree there are none; and the distance k comes out right in the signed numbers of the program.
-- All rows are empty exactly where all entries are 0. What contracts see is a complex, has a degree, and is within the limits of
-- degrees and counts. Last, an entry of the complex is the number at its row in the entries of its column.
use Rattle.std.proofs.lemmas.Bool.Decides.{nat_tests}
use Rattle.std.proofs.Common.{◌≡◌, ℕ, inl, inr, true, ◌+◌, ◌<◌, ◌^◌, ◌∙◌, List, [], ◌∷◌, ℤ, pos, ◌+ℤ◌, ◌-ℤ◌, ◌<ℤ◌, ◌≤ℤ◌, length, map, ap, sym, subst, arith, refl, Bool, FitsSigned, w16, to_z, of_z}
use Rattle.std.specs.Prelude.{slice_index, slice_index_or, nat_eq, All}
use Rattle.std.specs.List.{count_by, list_all, range_with_len}
use Rattle.std.proofs.Math.ListN as plain
use Rattle.std.proofs.lemmas.Int.{ints}
use Rattle.std.proofs.lemmas.Simd.{map-map}
use Rattle.std.proofs.lemmas.Bool.Decides.{leb_tells}
use Rattle.std.proofs.lemmas.List.{length-map, get_or-map, get_or_default, get_or_past}
use Rattle.std.proofs.lemmas.List.FromFn.{length-map-range_with_len, get_or-map-range_with_len, fill_by_all}
use Rattle.kh_types.specs.Complex.{Complex, Degree, IsComplex, alive_count, degree_of, empty_degree, entry_of, is_zero}
use Rattle.kh_types.specs.Generators.{Generator, generator_of}
use Rattle.sparse_block.specs.Entries.{Entry, entries_of, value_at}
use Rattle.sparse_block.specs.Complexes.{NamedComplex, column_in, column_of, row_of, high_of, place_count, name_of, complex_from, degrees_from, degree_from_lists}
use Rattle.std.proofs.lemmas.List.Folds.{list_all-map}
use Rattle.sparse_block.specs.Held.{no_entries}
use Rattle.sparse_block.specs.Inside.{IsKept, column_entries, row_entries}
use Rattle.sparse_block.proofs.EntryLemmas.{value_at-entries_of, length-entries_of}
use Rattle.sparse_block.proofs.FilledLines.{line-none}
use Rattle.sparse_block.proofs.MatrixLemmas.{length-matrix_from}
use Rattle.sparse_block.proofs.DegreeLemmas.{length-degrees_from, degree-within, degree_of-at, length-at, length-same}

-- the columns of degree number k, and its rows

module _ {p : ℕ} {low : ℤ} {names : List (List Generator)} {alive : List (List Bool)} {columns rows : List (List (List Entry))}
    (kept : IsKept p low names alive columns rows) where
  pub degree-count : length (degrees_from alive columns) ≡ length names
  degree-count = length-degrees_from alive columns ∙ length-same alive names kept.sizes

  pub within-alive : (k : ℕ) → k < length names → k < length alive
  within-alive k within = omega (arith, within, length-same alive names kept.sizes)

  pub length-columns : length columns ≡ length names
  length-columns = ap length kept.are_columns ∙ length-map (degrees_from alive columns) column_entries ∙ degree-count

  columns-at : (k : ℕ) → k < length names → slice_index_or columns k [] ≡ column_entries (degree_from_lists alive columns k)
  columns-at k within =
      ap (λ (lists : List (List (List Entry))). slice_index_or lists k []) kept.are_columns
      ∙ get_or-map column_entries (degrees_from alive columns) k empty_degree [] (omega (arith, within, degree-count))
      ∙ ap column_entries (degree-within alive columns k empty_degree (within-alive k within))

  pub length-rows : length rows ≡ length names
  length-rows = ap length kept.are_rows ∙ length-map (degrees_from alive columns) row_entries ∙ degree-count

  rows-at : (k : ℕ) → k < length names → slice_index_or rows k [] ≡ row_entries (degree_from_lists alive columns k)
  rows-at k within =
      ap (λ (lists : List (List (List Entry))). slice_index_or lists k []) kept.are_rows
      ∙ get_or-map row_entries (degrees_from alive columns) k empty_degree [] (omega (arith, within, degree-count))
      ∙ ap row_entries (degree-within alive columns k empty_degree (within-alive k within))

-- the counts of places are those of names
pub alive-counts : {p : ℕ} {low : ℤ} {names : List (List Generator)} {alive : List (List Bool)}
    {columns rows : List (List (List Entry))} (limit : ℕ) → IsKept p low names alive columns rows
    → All (λ degree. length degree < limit) names → All (λ degree. length degree < limit) alive
alive-counts {p} {low} {names} {alive} limit kept few k d within =
    let k_within : k < length names = omega (arith, within, length-same alive names kept.sizes) in
    omega (
      arith,
      few k [] k_within,
      length-at alive names k kept.sizes,
      ap length (get_or_default alive k d [] within),
    )

-- a degree that is passed as a signed number, and how far it is above the least one
pub distance-from : (low i : ℤ) (k : ℕ) → FitsSigned w16 low → FitsSigned w16 i
    → to_z w16 (of_z w16 i) ≡ to_z w16 (of_z w16 low) +ℤ pos k → i ≡ low +ℤ pos k
distance-from low i k low_fits i_fits is_distance = omega (arith, ints)

-- what contracts see of a complex in memory
abbrev pub IsSeen : ℤ → List (List Generator) → List (List Bool) → List (List (List Entry)) → NamedComplex → Type 0
IsSeen low names alive columns named =
    let seen : NamedComplex = record { complex = complex_from low alive columns; names = names } in seen ≡ named

module _ {p : ℕ} {low : ℤ} {names : List (List Generator)} {alive : List (List Bool)} {columns rows : List (List (List Entry))}
    {named : NamedComplex} (kept : IsKept p low names alive columns rows) (seen : IsSeen low names alive columns named) where
  pub degree-at : (i : ℤ) (k : ℕ) → i ≡ low +ℤ pos k → degree_from_lists alive columns k ≡ degree_of named.complex i
  degree-at i k is_distance = grind (arith, nat_tests, degree_of-at)

  pub high-seen : high_of named.complex ≡ low +ℤ pos (length names) -ℤ pos 1
  high-seen =
      sym (ap (λ (named : NamedComplex). high_of named.complex) seen)
      ∙ ap (λ (count : ℕ). low +ℤ pos count -ℤ pos 1) (degree-count kept)

  pub places-at : (i : ℤ) (k : ℕ) → i ≡ low +ℤ pos k → length (slice_index_or names k []) ≡ place_count named.complex i
  places-at i k is_distance =
      sym (length-at alive names k kept.sizes) ∙ ap (λ (degree : Degree). length degree.alive) (degree-at i k is_distance)

  pub alive-at : (i : ℤ) (k : ℕ) → i ≡ low +ℤ pos k
      → count_by (λ is_alive. is_alive) (slice_index_or alive k []) ≡ alive_count named.complex i
  alive-at i k is_distance = ap (λ (degree : Degree). count_by (λ is_alive. is_alive) degree.alive) (degree-at i k is_distance)

  pub places-below : (i : ℤ) → i <ℤ low → 0 ≡ place_count named.complex i
  places-below i below = grind (arith, nat_tests)

  pub alive-below : (i : ℤ) → i <ℤ low → 0 ≡ alive_count named.complex i
  alive-below i below = grind (arith, nat_tests)

  -- a degree from low to high has a number, and so have its columns and rows

  pub within-degrees : (i : ℤ) (k : ℕ) → i ≡ low +ℤ pos k → i ≤ℤ high_of named.complex → k < length names
  within-degrees i k is_distance high = omega (arith, ints, high-seen)

  pub length-column : (i : ℤ) (k : ℕ) → i ≡ low +ℤ pos k → k < length names
      → length (slice_index_or columns k []) ≡ place_count named.complex i
  length-column i k is_distance within =
      let degree = degree_from_lists alive columns k in
      ap length (columns-at kept k within)
      ∙ length-map-range_with_len (λ (column : ℕ). entries_of (column_in degree.matrix column)) 0 (length degree.alive)
      ∙ ap (λ (degree : Degree). length degree.alive) (degree-at i k is_distance)

  pub column-at : (i : ℤ) (k place : ℕ) → i ≡ low +ℤ pos k → k < length names → place < place_count named.complex i
      → slice_index_or (slice_index_or columns k []) place [] ≡ entries_of (column_of named.complex i place)
  column-at i k place is_distance within place_within =
      let degree = degree_from_lists alive columns k in
      let is_degree = degree-at i k is_distance in
      ap (λ (lists : List (List Entry)). slice_index_or lists place []) (columns-at kept k within)
      ∙ get_or-map-range_with_len (λ (column : ℕ). entries_of (column_in degree.matrix column)) 0 (length degree.alive) place place []
      (subst (λ (degree : Degree). place < length degree.alive) (sym is_degree) place_within) (omega arith)
      ∙ ap (λ (degree : Degree). entries_of (column_in degree.matrix place)) is_degree

  -- a degree without entries has empty columns
  pub columns-none : (i : ℤ) (k column : ℕ) → i ≡ low +ℤ pos k → no_entries (slice_index_or columns k []) ≡ true
      → column < place_count named.complex i → entries_of (column_of named.complex i column) ≡ []
  columns-none i k column is_distance none column_within =
      elim (leb_tells (length names) k) [
        | inl past ↦
            absurd (omega (arith, column_within, places-at i k is_distance, ap length (get_or_past names k [] past.1)))
        | inr within ↦
            sym (column-at i k column is_distance within.1 column_within)
            ∙ line-none (slice_index_or columns k []) column none
      ]

  pub length-row : (i : ℤ) (k : ℕ) → i ≡ low +ℤ pos k → k < length names
      → length (slice_index_or rows k []) ≡ place_count named.complex (i +ℤ pos 1)
  length-row i k is_distance within =
      let next : i +ℤ pos 1 ≡ low +ℤ pos (k + 1) = omega (arith, ints) in
      ap length (rows-at kept k within) ∙ length-map (degree_from_lists alive columns k).matrix entries_of
      ∙ length-matrix_from (length (slice_index_or alive (k + 1) [])) (slice_index_or columns k [])
      ∙ ap (λ (degree : Degree). length degree.alive) (degree-at (i +ℤ pos 1) (k + 1) next)

  pub row-at : (i : ℤ) (k place : ℕ) → i ≡ low +ℤ pos k → k < length names
      → slice_index_or (slice_index_or rows k []) place [] ≡ entries_of (row_of named.complex i place)
  row-at i k place is_distance within =
      ap (λ (lists : List (List Entry)). slice_index_or lists place []) (rows-at kept k within)
      ∙ plain.get_or-map entries_of (degree_from_lists alive columns k).matrix place []
      ∙ ap (λ (degree : Degree). entries_of (slice_index_or degree.matrix place [])) (degree-at i k is_distance)

  pub name-at : (i : ℤ) (k place : ℕ) → i ≡ low +ℤ pos k
      → slice_index_or (slice_index_or names k []) place (generator_of 0 0) ≡ name_of named i place
  name-at i k place is_distance = grind (arith, nat_tests)

-- all rows are empty where all entries are 0

list_all-agree : {X : Type 0} (f g : X → Bool) (xs : List X) → ((x : X) → f x ≡ g x) → list_all f xs ≡ list_all g xs
list_all-agree f g [] same = refl
list_all-agree f g (x ∷ xs) same = grind (arith, nat_tests, list_all-agree f g xs same)

zero-rows : (degree : Degree) → no_entries (row_entries degree) ≡ list_all (λ row. list_all (nat_eq 0) row) degree.matrix
zero-rows degree = grind (arith, nat_tests, list_all-map, list_all-agree, length-entries_of)

pub zero-from_rows : {p : ℕ} {low : ℤ} {names : List (List Generator)} {alive : List (List Bool)}
    {columns rows : List (List (List Entry))} {named : NamedComplex} → IsKept p low names alive columns rows
    → IsSeen low names alive columns named → list_all no_entries rows ≡ is_zero named.complex
zero-from_rows {p} {low} {names} {alive} {columns} {rows} kept seen = grind (arith, nat_tests, list_all-map, list_all-agree, zero-rows)

-- the laws of a complex

module _ {p : ℕ} {low : ℤ} {names : List (List Generator)} {alive : List (List Bool)} {columns rows : List (List (List Entry))}
    {named : NamedComplex} (kept : IsKept p low names alive columns rows) (seen : IsSeen low names alive columns named) where
  pub complex-seen : IsComplex p named.complex
  complex-seen = subst (λ (named : NamedComplex). IsComplex p named.complex) seen kept.is_complex

  pub some-seen : 0 < length named.complex.degrees
  some-seen = grind (arith, nat_tests, degree-count)

  pub end-seen : (named.complex.low +ℤ pos (length named.complex.degrees)) ≤ℤ pos 32767
  end-seen =
      subst (λ (named : NamedComplex). (named.complex.low +ℤ pos (length named.complex.degrees)) ≤ℤ pos 32767) seen
      (subst (λ (count : ℕ). (low +ℤ pos count) ≤ℤ pos 32767) (sym (degree-count kept)) kept.end)

  pub counts-seen : All (λ degree. length degree.alive < 2 ^ 29) named.complex.degrees
  counts-seen =
      subst (λ (named : NamedComplex). All (λ (degree : Degree). length degree.alive < 2 ^ 29) named.complex.degrees) seen
      (λ k d within.
      let k_within : k < length alive = omega (arith, within, length-degrees_from alive columns) in
      subst (λ (degree : Degree). length degree.alive < 2 ^ 29) (sym (degree-within alive columns k d k_within))
      (alive-counts (2 ^ 29) kept kept.counts k [] k_within))

  pub names-seen : map length named.names ≡ map (λ degree. length degree.alive) named.complex.degrees
  names-seen =
      let size : Degree → ℕ = λ degree. length degree.alive in
      subst (λ (named : NamedComplex). map length named.names ≡ map (λ (degree : Degree). length degree.alive) named.complex.degrees)
      seen
      (sym kept.sizes
      ∙ fill_by_all (λ (k : ℕ). length (slice_index_or alive k [])) (map length alive) (length alive) 0 (length-map alive length)
      (λ k within. plain.get_or-map length alive k [])
      ∙ sym (map-map size (degree_from_lists alive columns) (range_with_len 0 (length alive))))

-- an entry is the value at its row of its column
pub entry-column_of : (complex : Complex) (i : ℤ) (row column value : ℕ) (entries : List Entry)
    → entries ≡ entries_of (column_of complex i column) → value ≡ value_at entries row → value ≡ entry_of complex i row column
entry-column_of complex i row column value entries are is_value =
    is_value ∙ ap (λ (entries : List Entry). value_at entries row) are
    ∙ value_at-entries_of (column_of complex i column) row
    ∙ plain.get_or-map (λ (row : List ℕ). slice_index row column) (degree_of complex i).matrix row []
