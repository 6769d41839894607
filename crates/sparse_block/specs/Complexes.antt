-- Complexes whose places have names, and what lists of entries for columns denote.
use Rattle.std.specs.Prelude.{◌≡◌, ℕ, ◌+◌, ◌<◌, ◌^◌, ℤ, pos, negsuc, ◌+ℤ◌, ◌-ℤ◌, ◌≤ℤ◌, List, [], length, map, Bool, true, slice_index, slice_index_or, All}
use Rattle.std.specs.List.{count_by, range_with_len, sum_by}
use Rattle.kh_types.specs.Complex.{Complex, Degree, degree_of, product_entry}
use Rattle.kh_types.specs.Generators.{Generator, generator_of}
use Rattle.sparse_block.specs.Entries.{Entry, value_at, AreEntries}

-- a complex, and for each degree from the least one on the generators that its places stand for, in the order of places
pub record NamedComplex : Type 0 where
  pub complex : Complex
  pub names : List (List Generator)

-- the greatest degree
abbrev pub high_of : Complex → ℤ
high_of complex = complex.low +ℤ pos (length complex.degrees) -ℤ pos 1

-- how many places degree i has, alive and dead
abbrev pub place_count : Complex → ℤ → ℕ
place_count complex i = length (degree_of complex i).alive

-- the places alive of all degrees together
abbrev pub live_places : Complex → ℕ
live_places complex = sum_by (λ degree. count_by (λ is_alive. is_alive) degree.alive) complex.degrees

-- a column of a matrix: its entry of each row
abbrev pub column_in : List (List ℕ) → ℕ → List ℕ
column_in matrix column = map (λ row. slice_index row column) matrix

-- a column of the matrix from degree i to degree i + 1
abbrev pub column_of : Complex → ℤ → ℕ → List ℕ
column_of complex i column = column_in (degree_of complex i).matrix column

-- a row of that matrix
abbrev pub row_of : Complex → ℤ → ℕ → List ℕ
row_of complex i row = slice_index_or (degree_of complex i).matrix row []

-- the names at a distance from the least degree, none outside of the complex
abbrev pub names_from : List (List Generator) → ℤ → List Generator
names_from names (pos distance) = slice_index_or names distance []
names_from names (negsuc distance) = []

-- the generator that a place of degree i stands for
abbrev pub name_of : NamedComplex → ℤ → ℕ → Generator
name_of named i place = slice_index_or (names_from named.names (i -ℤ named.complex.low)) place (generator_of 0 0)

-- the matrix that the entries of its columns denote: the number at a row and a column is the one that the column has at the row
abbrev pub matrix_from : ℕ → List (List Entry) → List (List ℕ)
matrix_from rows columns = map (λ row. map (λ column. value_at column row) columns) (range_with_len 0 rows)

-- degree number k: the places that are alive, and the matrix of its columns, with a row for each place of the next degree
abbrev pub degree_from_lists : List (List Bool) → List (List (List Entry)) → ℕ → Degree
degree_from_lists alive columns k =
    record {
      alive = slice_index_or alive k [];
      matrix = matrix_from (length (slice_index_or alive (k + 1) [])) (slice_index_or columns k []);
    }

-- the degrees, from the places alive in each and the entries of the columns out of each
abbrev pub degrees_from : List (List Bool) → List (List (List Entry)) → List Degree
degrees_from alive columns = map (degree_from_lists alive columns) (range_with_len 0 (length alive))

-- the complex with this least degree and these degrees
abbrev pub complex_from : ℤ → List (List Bool) → List (List (List Entry)) → Complex
complex_from low alive columns = record { low = low; degrees = degrees_from alive columns }

-- each place that has a name is alive
abbrev pub all_alive : List (List Generator) → List (List Bool)
all_alive names = map (λ degree. map (λ name. true) degree) names

-- the complex with these names and these entries, all places alive
abbrev pub sparse_complex : ℤ → List (List Generator) → List (List (List Entry)) → NamedComplex
sparse_complex low names columns = record { complex = complex_from low (all_alive names) columns; names = names }

-- each column has entries at places of the next degree; so a column of the last degree has none
abbrev pub HaveEntries : ℕ → List (List Generator) → List (List (List Entry)) → Type 0
HaveEntries p names columns =
    (k : ℕ) → All (AreEntries p (length (slice_index_or names (k + 1) []))) (slice_index_or columns k [])

-- neighbouring matrices have the product 0, modulo p
abbrev pub SquaresToZero : ℕ → Complex → Type 0
SquaresToZero p complex = (i : ℤ) (row column : ℕ) → product_entry p complex i row column ≡ 0

-- names and columns that make a complex: there is a degree, one more than the greatest is at most 32,767, a degree has fewer places
-- than an entry can name, each has a column, the entries are at places of the next degree, and products are 0
pub record MakeComplex (p : ℕ) (low : ℤ) (names : List (List Generator)) (columns : List (List (List Entry))) : Type 0 where
  pub some : 0 < length names
  pub end : (low +ℤ pos (length names)) ≤ℤ pos 32767
  pub counts : All (λ degree. length degree < 2 ^ 29) names
  pub sizes : map length columns ≡ map length names
  pub entries : HaveEntries p names columns
  pub squares : SquaresToZero p (sparse_complex low names columns).complex

-- a column without entries for each place
abbrev pub no_columns : List (List Bool) → List (List (List Entry))
no_columns alive = map (λ degree. map (λ place. []) degree) alive

-- the complex with these names and these places alive, all of whose entries are 0
abbrev pub zero_complex : ℤ → List (List Generator) → List (List Bool) → NamedComplex
zero_complex low names alive = record { complex = complex_from low alive (no_columns alive); names = names }
