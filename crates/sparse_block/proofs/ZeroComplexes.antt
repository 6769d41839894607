-- The complex all of whose entries are 0.
use Rattle.std.proofs.lemmas.Bool.Decides.{nat_tests}
use Rattle.std.proofs.Common.{◌≡◌, ℕ, suc, zero, ◌+◌, ◌<◌, ◌^◌, ◌∙◌, inl, inr, List, [], ◌∷◌, ◌++◌, ℤ, pos, negsuc, ◌+ℤ◌, ◌-ℤ◌, ◌≤ℤ◌, length, map, get_or, take, replicate, ap, sym, subst, arith, refl, Bool}
use Rattle.std.specs.Prelude.{slice_index_or, All}
use Rattle.std.proofs.Math.ListN as plain
use Rattle.std.proofs.Math.Nat.{zero-mod}
use Rattle.std.proofs.lemmas.Bool.Decides.{leb_tells}
use Rattle.std.proofs.lemmas.List.{get_or-replicate, get_or_default, length-map, length-replicate, map_more}
use Rattle.kh_types.specs.Complex.{Degree, IsComplex, degree_from, entry_in, entry_of}
use Rattle.kh_types.specs.Generators.{Generator}
use Rattle.kh_types.proofs.ListSums.{sum_by-zeros}
use Rattle.kh_types.proofs.MatrixTests.{entry-past_rows}
use Rattle.sparse_block.specs.Entries.{Entry, AreEntries, entries_from, entries_of, value_at}
use Rattle.sparse_block.specs.Complexes.{complex_from, degree_from_lists, degrees_from, matrix_from, no_columns}
use Rattle.sparse_block.specs.Inside.{IsKept, row_entries}
use Rattle.sparse_block.proofs.BuildLemmas.{columns-built, complex-built}
use Rattle.sparse_block.proofs.ClearedLists.{no-entries}
use Rattle.sparse_block.proofs.DegreeLemmas.{degree_number-from}
use Rattle.sparse_block.proofs.MatrixLemmas.{entry-matrix_from, length-matrix_from, row_at, rows_of-filled}

abbrev no_column : List Bool → List (List Entry)
no_column degree = map (λ place. []) degree

replicate-no_column : (degree : List Bool) → replicate (length degree) [] ≡ no_column degree
replicate-no_column [] = refl
replicate-no_column (place ∷ degree) = ap (λ (columns : List (List Entry)). [] ∷ columns) (replicate-no_column degree)

none-at : (degree : List Bool) (column : ℕ) → slice_index_or (no_column degree) column [] ≡ []
none-at [] column = refl
none-at (place ∷ degree) zero = refl
none-at (place ∷ degree) (suc column) = none-at degree column

no_columns-at : (alive : List (List Bool)) (k : ℕ) → slice_index_or (no_columns alive) k [] ≡ no_column (slice_index_or alive k [])
no_columns-at alive k = plain.get_or-map no_column alive k []

sizes-no_columns : (alive : List (List Bool)) → map length (no_columns alive) ≡ map length alive
sizes-no_columns [] = refl
sizes-no_columns (degree ∷ alive) = grind (arith, nat_tests, length-map, sizes-no_columns alive)

module _ (p : ℕ) (low : ℤ) (alive : List (List Bool)) where
  have-none : (k : ℕ) → All (AreEntries p (length (slice_index_or alive (k + 1) []))) (slice_index_or (no_columns alive) k [])
  have-none k place d within =
      let lists = slice_index_or (no_columns alive) k [] in
      subst (AreEntries p (length (slice_index_or alive (k + 1) [])))
      (sym (
      get_or_default lists place d [] within ∙ ap (λ (lists : List (List Entry)). slice_index_or lists place []) (no_columns-at alive k)
      ∙ none-at (slice_index_or alive k []) place
      )) (no-entries p (length (slice_index_or alive (k + 1) [])))

  entry-none : (k row column : ℕ) → entry_in (degree_from_lists alive (no_columns alive) k).matrix row column ≡ 0
  entry-none k row column =
      let height = length (slice_index_or alive (k + 1) []) in
      let columns = slice_index_or (no_columns alive) k [] in
      elim (leb_tells height row) [
        | inl past ↦
            entry-past_rows (matrix_from height columns) row column (omega (arith, past.1, length-matrix_from height columns))
        | inr within ↦
            entry-matrix_from height row column columns within.1
            ∙ ap (λ (entries : List Entry). value_at entries row)
            (ap (λ (columns : List (List Entry)). slice_index_or columns column []) (no_columns-at alive k)
            ∙ none-at (slice_index_or alive k []) column)
      ]

  entry-from : (distance : ℤ) (row column : ℕ) → entry_in (degree_from (complex_from low alive (no_columns alive)) distance).matrix row column ≡ 0
  entry-from (pos k) row column =
      ap (λ (degree : Degree). entry_in degree.matrix row column) (degree_number-from low alive (no_columns alive) k)
      ∙ entry-none k row column
  entry-from (negsuc k) row column = refl

  pub entry-zero : (i : ℤ) (row column : ℕ) → entry_of (complex_from low alive (no_columns alive)) i row column ≡ 0
  entry-zero i row column = entry-from (i -ℤ low) row column

  pub complex-zero : 0 < p → IsComplex p (complex_from low alive (no_columns alive))
  complex-zero positive =
      complex-built p alive (no_columns alive) (sizes-no_columns alive) have-none low positive
      (λ i row column dead. entry-zero i row column) (λ i row column dead. entry-zero i row column)
      (λ i row column. grind (arith, nat_tests, sum_by-zeros, zero-mod, entry-zero))

  pub kept-zero : (names : List (List Generator)) (columns rows : List (List (List Entry))) → 0 < p → 0 < length names
      → (low +ℤ pos (length names)) ≤ℤ pos 32767 → All (λ degree. length degree < 2 ^ 29) names
      → map length alive ≡ map length names → columns ≡ no_columns alive
      → rows ≡ map row_entries (degrees_from alive (no_columns alive)) → IsKept p low names alive columns rows
  kept-zero names columns rows positive some end counts sizes are_columns are_rows =
      subst (λ (columns : List (List (List Entry))). IsKept p low names alive columns rows) (sym are_columns)
      (record {
        some = some;
        end = end;
        counts = counts;
        sizes = sizes;
        is_complex = complex-zero positive;
        are_columns = columns-built p alive (no_columns alive) (sizes-no_columns alive) have-none;
        are_rows = are_rows;
      })

-- one degree more of the columns, and of the rows

pub no_columns-more : (alive : List (List Bool)) (k : ℕ) (degree : List Bool) (columns : List (List Entry))
    (made : List (List (List Entry))) → k < length alive → degree ≡ get_or alive k [] → columns ≡ replicate (length degree) []
    → made ≡ no_columns (take k alive) → made ++ columns ∷ [] ≡ no_columns (take (k + 1) alive)
no_columns-more alive k degree columns made within is_degree are so_far =
    ap (λ (made : List (List (List Entry))). made ++ columns ∷ []) so_far
    ∙ ap (λ (columns : List (List Entry)). no_columns (take k alive) ++ columns ∷ [])
    (are ∙ replicate-no_column degree ∙ ap no_column is_degree)
    ∙ sym (map_more no_column alive k [] within)

numbers-none : (degree : List Bool) (row place : ℕ) → entries_from place (row_at (no_column degree) row) ≡ []
numbers-none [] row place = refl
numbers-none (first ∷ degree) row place = grind (arith, nat_tests, numbers-none degree row (place + 1))

row-none : (alive : List (List Bool)) (k row : ℕ) → entries_of (row_at (slice_index_or (no_columns alive) k []) row) ≡ []
row-none alive k row =
    ap (λ (columns : List (List Entry)). entries_of (row_at columns row)) (no_columns-at alive k)
    ∙ numbers-none (slice_index_or alive k []) row 0

pub rows-none : (alive : List (List Bool)) (k height : ℕ) (rows : List (List Entry))
    → height ≡ length (slice_index_or alive (k + 1) []) → rows ≡ replicate height []
    → rows ≡ row_entries (degree_from_lists alive (no_columns alive) k)
rows-none alive k height rows is_height are =
    are
    ∙ ap (λ (height : ℕ). replicate height []) is_height
    ∙ rows_of-filled (length (slice_index_or alive (k + 1) [])) (slice_index_or (no_columns alive) k [])
    (replicate (length (slice_index_or alive (k + 1) [])) []) (length-replicate (length (slice_index_or alive (k + 1) [])) [])
    (λ row within. get_or-replicate (length (slice_index_or alive (k + 1) [])) row [] [] within ∙ sym (row-none alive k row))
