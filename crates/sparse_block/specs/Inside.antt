-- What the program holds of a complex: the entries of its columns, and those of its rows beside them.
use Rattle.std.specs.Prelude.{◌≡◌, ℕ, ◌<◌, ◌^◌, ℤ, pos, ◌+ℤ◌, ◌≤ℤ◌, List, [], ◌∷◌, ◌++◌, length, map, slice_index_or, Bool, All}
use Rattle.std.specs.Global.{Vec}
use Rattle.std.specs.List.{range_with_len}
use Rattle.smallvec.specs.SmallVec.{SmallVec}
use Rattle.kh_types.specs.Complex.{Degree, IsComplex}
use Rattle.kh_types.specs.Generators.{Generator}
use Rattle.sparse_block.specs.Entries.{Entry, entries_of, entries_from, value_at}
use Rattle.sparse_block.specs.Complexes.{NamedComplex, column_in, complex_from, degrees_from}

-- vectors in memory, as lists
abbrev pub lists_in : {X : Type 0} → List (Vec X) → List (List X)
lists_in vectors = map (λ vector. vector.items) vectors

-- columns in memory, or rows, as lists of entries
abbrev pub entries_in : List (SmallVec Entry) → List (List Entry)
entries_in lines = map (λ line. line.items) lines

-- the columns of each degree, or the rows
abbrev pub lines_in : List (Vec (SmallVec Entry)) → List (List (List Entry))
lines_in degrees = map (λ degree. entries_in degree.items) degrees

-- the complex that names, places alive and columns in memory are
abbrev pub named_complex : ℤ → List (Vec Generator) → List (Vec Bool) → List (List (List Entry)) → NamedComplex
named_complex low names alive columns =
    record { complex = complex_from low (lists_in alive) columns; names = lists_in names }

-- the entries of each column of a degree
abbrev pub column_entries : Degree → List (List Entry)
column_entries degree = map (λ column. entries_of (column_in degree.matrix column)) (range_with_len 0 (length degree.alive))

-- the entries of each row
abbrev pub row_entries : Degree → List (List Entry)
row_entries degree = map entries_of degree.matrix

-- there is a degree, one more than the greatest is at most 32,767, and a degree has fewer places than an entry can name; each has a
-- name; it is a complex; and the columns and the rows in memory are both the entries of its matrices
pub record IsKept (p : ℕ) (low : ℤ) (names : List (List Generator)) (alive : List (List Bool))
    (columns rows : List (List (List Entry))) : Type 0 where
  pub some : 0 < length names
  pub end : (low +ℤ pos (length names)) ≤ℤ pos 32767
  pub counts : All (λ degree. length degree < 2 ^ 29) names
  pub sizes : map length alive ≡ map length names
  pub is_complex : IsComplex p (complex_from low alive columns)
  pub are_columns : columns ≡ map column_entries (degrees_from alive columns)
  pub are_rows : rows ≡ map row_entries (degrees_from alive columns)

-- the rows have got one more column: each has the entry of that column at its end, where it is not 0
pub record HaveColumn (column : ℕ) (entries : List Entry) (before after : List (List Entry)) : Type 0 where
  pub height : length after ≡ length before
  pub longer : (row : ℕ) → row < length before
      → slice_index_or after row [] ≡ slice_index_or before row [] ++ entries_from column (value_at entries row ∷ [])
