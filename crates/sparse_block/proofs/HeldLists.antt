-- The lists in memory that a complex has, and the complex that they denote.
use Rattle.std.proofs.Common.{◌≡◌, ℕ, ◌+◌, ◌<◌, ◌∙◌, List, [], ℤ, length, map, ap, ap₂, sym, subst, arith, Bool}
use Rattle.std.specs.Prelude.{slice_index, slice_index_or}
use Rattle.std.specs.List.{range_with_len}
use Rattle.std.proofs.Math.ListN as plain
use Rattle.std.proofs.lemmas.Simd.{map-map}
use Rattle.std.proofs.lemmas.List.{get_or-map, length-map}
use Rattle.std.proofs.lemmas.List.FromFn.{fill_by_all}
use Rattle.kh_types.specs.Complex.{Complex, Degree, IsComplex, degree_number, empty_degree}
use Rattle.kh_types.specs.Generators.{Generator}
use Rattle.sparse_block.specs.Complexes.{column_in, complex_from, degrees_from, matrix_from}
use Rattle.sparse_block.specs.Entries.{Entry, entries_of, value_at}
use Rattle.sparse_block.specs.Inside.{IsKept, column_entries, row_entries}
use Rattle.sparse_block.proofs.ClearedLists.{line_at, lines_at}
use Rattle.sparse_block.proofs.ClearingLemmas.{list-same}
use Rattle.sparse_block.proofs.DegreeLemmas.{degree-within, length-degrees_from}
use Rattle.sparse_block.proofs.EntryLemmas.{value_at-entries_of}
use Rattle.sparse_block.proofs.MatrixLemmas.{row_at}

abbrev places_of_degree : Degree → List Bool
places_of_degree degree = degree.alive

-- what is held of a complex: the places alive, the columns and the rows of each degree
pub record AreHeld (complex : Complex) (alive : List (List Bool)) (columns rows : List (List (List Entry))) : Type 0 where
  pub are_alive : alive ≡ map (λ degree. degree.alive) complex.degrees
  pub are_columns : columns ≡ map column_entries complex.degrees
  pub are_rows : rows ≡ map row_entries complex.degrees

-- degree by degree, and line by line

pub alive-held : (complex : Complex) (alive : List (List Bool)) → length alive ≡ length complex.degrees
    → ((k : ℕ) → k < length complex.degrees → slice_index_or alive k [] ≡ (degree_number complex k).alive)
    → alive ≡ map (λ degree. degree.alive) complex.degrees
alive-held complex alive size each =
    let count = length-map complex.degrees places_of_degree in
    list-same alive (map places_of_degree complex.degrees) [] (size ∙ sym count)
    (λ k within.
    let k_within : k < length complex.degrees = omega (arith, within, count) in
    each k k_within ∙ sym (get_or-map places_of_degree complex.degrees k empty_degree [] k_within))

pub columns-held : (complex : Complex) (columns : List (List (List Entry))) → length columns ≡ length complex.degrees
    → ((k : ℕ) → k < length complex.degrees → length (lines_at columns k) ≡ length (degree_number complex k).alive)
    → ((k place : ℕ) → k < length complex.degrees → place < length (degree_number complex k).alive
    → line_at columns k place ≡ entries_of (column_in (degree_number complex k).matrix place))
    → columns ≡ map column_entries complex.degrees
columns-held complex columns size sizes each =
    let count = length-map complex.degrees column_entries in
    list-same columns (map column_entries complex.degrees) [] (size ∙ sym count)
    (λ k within.
    let k_within : k < length complex.degrees = omega (arith, within, count) in
    let degree : Degree = degree_number complex k in
    fill_by_all (λ (column : ℕ). entries_of (column_in degree.matrix column)) (lines_at columns k) (length degree.alive) []
    (sizes k k_within) (λ place place_within. each k place k_within place_within)
    ∙ sym (get_or-map column_entries complex.degrees k empty_degree [] k_within))

pub rows-held : (complex : Complex) (rows : List (List (List Entry))) → length rows ≡ length complex.degrees
    → ((k : ℕ) → k < length complex.degrees → length (lines_at rows k) ≡ length (degree_number complex k).matrix)
    → ((k place : ℕ) → k < length complex.degrees → place < length (degree_number complex k).matrix
    → line_at rows k place ≡ entries_of (slice_index_or (degree_number complex k).matrix place []))
    → rows ≡ map row_entries complex.degrees
rows-held complex rows size sizes each =
    let count = length-map complex.degrees row_entries in
    list-same rows (map row_entries complex.degrees) [] (size ∙ sym count)
    (λ k within.
    let k_within : k < length complex.degrees = omega (arith, within, count) in
    let matrix : List (List ℕ) = (degree_number complex k).matrix in
    list-same (lines_at rows k) (map entries_of matrix) [] (sizes k k_within ∙ sym (length-map matrix entries_of))
    (λ place place_within.
    each k place k_within (omega (arith, place_within, length-map matrix entries_of))
    ∙ sym (plain.get_or-map entries_of matrix place []))
    ∙ sym (get_or-map row_entries complex.degrees k empty_degree [] k_within))

-- a matrix comes back from the entries of its columns

matrix-restored : (height : ℕ) (degree : Degree) → length degree.matrix ≡ height
    → ((row : ℕ) → row < length degree.matrix → length (slice_index_or degree.matrix row []) ≡ length degree.alive)
    → matrix_from height (column_entries degree) ≡ degree.matrix
matrix-restored height degree size width =
    let matrix = degree.matrix in
    let n = length degree.alive in
    sym (fill_by_all (row_at (column_entries degree)) matrix height [] size
    (λ row within.
    fill_by_all (λ (column : ℕ). value_at (entries_of (column_in matrix column)) row) (slice_index_or matrix row []) n 0
    (width row (omega (arith, within, size)))
    (λ column column_within.
    sym (
    value_at-entries_of (column_in matrix column) row
    ∙ plain.get_or-map (λ (line : List ℕ). slice_index line column) matrix row []
    ))
    ∙ sym (map-map (λ (entries : List Entry). value_at entries row) (λ (column : ℕ). entries_of (column_in matrix column))
    (range_with_len 0 n))))

degrees-restored : (p : ℕ) (complex : Complex) → IsComplex p complex
    → degrees_from (map (λ degree. degree.alive) complex.degrees) (map column_entries complex.degrees) ≡ complex.degrees
degrees-restored p complex is =
    let alive : List (List Bool) = map places_of_degree complex.degrees in
    let columns : List (List (List Entry)) = map column_entries complex.degrees in
    let count = length-map complex.degrees places_of_degree in
    list-same (degrees_from alive columns) complex.degrees empty_degree (length-degrees_from alive columns ∙ count)
    (λ k within.
    let degree : Degree = degree_number complex k in
    let next : Degree = degree_number complex (k + 1) in
    degree-within alive columns k empty_degree (omega (arith, within, count))
    ∙ ap₂
    (λ (places : List Bool) (matrix : List (List ℕ)). let made : Degree = record { alive = places; matrix = matrix } in made)
    (plain.get_or-map places_of_degree complex.degrees k empty_degree)
    (ap₂ (λ (places : List Bool) (lists : List (List Entry)). matrix_from (length places) lists)
    (plain.get_or-map places_of_degree complex.degrees (k + 1) empty_degree)
    (plain.get_or-map column_entries complex.degrees k empty_degree)
    ∙ matrix-restored (length next.alive) degree (is.rows k within) (is.columns k)))

-- what is held of a complex denotes it, and is kept
pub record IsHeldAs (p : ℕ) (low : ℤ) (names : List (List Generator)) (alive : List (List Bool))
    (columns rows : List (List (List Entry))) (complex : Complex) : Type 0 where
  pub is_kept : IsKept p low names alive columns rows
  pub is_seen : complex_from low alive columns ≡ complex

pub held-as : (p : ℕ) (low : ℤ) (names : List (List Generator)) (before_alive alive : List (List Bool))
    (before_columns before_rows columns rows : List (List (List Entry))) (complex : Complex)
    → IsKept p low names before_alive before_columns before_rows → IsComplex p complex → complex.low ≡ low
    → map (λ degree. length degree.alive) complex.degrees ≡ map length names → AreHeld complex alive columns rows
    → IsHeldAs p low names alive columns rows complex
held-as p low names before_alive alive before_columns before_rows columns rows complex kept is same_low sizes held =
    let degrees : degrees_from alive columns ≡ complex.degrees =
    ap₂ degrees_from held.are_alive held.are_columns ∙ degrees-restored p complex is in
    let seen : complex_from low alive columns ≡ complex =
    ap₂ (λ (low : ℤ) (degrees : List Degree). let made : Complex = record { low = low; degrees = degrees } in made) (sym same_low)
    degrees in
    record {
      is_kept = record {
        some = kept.some;
        end = kept.end;
        counts = kept.counts;
        sizes =
            ap (λ (alive : List (List Bool)). map length alive) held.are_alive ∙ map-map length places_of_degree complex.degrees
            ∙ sizes;
        is_complex = subst (IsComplex p) (sym seen) is;
        are_columns = held.are_columns ∙ ap (λ (degrees : List Degree). map column_entries degrees) (sym degrees);
        are_rows = held.are_rows ∙ ap (λ (degrees : List Degree). map row_entries degrees) (sym degrees);
      };
      is_seen = seen;
    }
