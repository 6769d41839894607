-- Complexes over a field of p elements as plain data, their homology dimensions, and the cancellation of a pivot.
use Rattle.std.specs.Prelude.{◌≡◌, ◌≢◌, ℕ, ◌+◌, ◌-◌, ◌*◌, ◌%◌, ◌<◌, ℤ, pos, negsuc, ◌+ℤ◌, ◌-ℤ◌, List, [], length, map, nat_eq, Bool, true, false, ◌||◌, if◌then◌else◌, slice_index, slice_index_or}
use Rattle.std.specs.List.{list_all, count_by, sum_by, range_with_len, enumerate_from}
use Rattle.std.specs.Ordering.{int_eq}
use Rattle.kh_types.specs.Rank.{inverse, minus_mod, rank}

-- one degree: its places, each alive or dead, and the matrix to the next degree, with a row for each place there
pub record Degree : Type 0 where
  pub alive : List Bool
  pub matrix : List (List ℕ)

-- the least degree, and the degrees from there on
pub record Complex : Type 0 where
  pub low : ℤ
  pub degrees : List Degree

-- a degree without places
abbrev pub empty_degree : Degree
empty_degree = record { alive = []; matrix = [] }

-- the degrees counted from the least one on, which is number 0
abbrev pub degree_number : Complex → ℕ → Degree
degree_number complex k = slice_index_or complex.degrees k empty_degree

-- the degree at a distance from the least one, empty outside of the complex
abbrev pub degree_from : Complex → ℤ → Degree
degree_from complex (pos distance) = degree_number complex distance
degree_from complex (negsuc distance) = empty_degree

-- the degree i
abbrev pub degree_of : Complex → ℤ → Degree
degree_of complex i = degree_from complex (i -ℤ complex.low)

-- the entry of a matrix at a row and a column
abbrev pub entry_in : List (List ℕ) → ℕ → ℕ → ℕ
entry_in matrix row column = slice_index (slice_index_or matrix row []) column

-- the entry of the matrix from degree i to degree i + 1
abbrev pub entry_of : Complex → ℤ → ℕ → ℕ → ℕ
entry_of complex i row column = entry_in (degree_of complex i).matrix row column

-- an entry of the product of the matrices out of two neighbouring degrees, modulo p
abbrev pub product_of : ℕ → Degree → Degree → ℕ → ℕ → ℕ
product_of p degree next row column =
    sum_by (λ middle. entry_in next.matrix row middle * entry_in degree.matrix middle column)
    (range_with_len 0 (length next.alive)) % p

-- an entry of the product of the matrix out of degree i + 1 with the matrix into it, modulo p
abbrev pub product_entry : ℕ → Complex → ℤ → ℕ → ℕ → ℕ
product_entry p complex i row column = product_of p (degree_of complex i) (degree_of complex (i +ℤ pos 1)) row column

-- what makes plain data a complex: the matrices have the sizes of their degrees and entries below p, dead places have only
-- entries 0, and neighbouring matrices have the product 0
pub record IsComplex (p : ℕ) (complex : Complex) : Type 0 where
  pub rows : (k : ℕ) → k < length complex.degrees
      → length (degree_number complex k).matrix ≡ length (degree_number complex (k + 1)).alive
  pub columns : (k row : ℕ) → row < length (degree_number complex k).matrix
      → length (slice_index_or (degree_number complex k).matrix row []) ≡ length (degree_number complex k).alive
  pub below : (i : ℤ) (row column : ℕ) → entry_of complex i row column < p
  pub dead_column : (i : ℤ) (row column : ℕ) → slice_index_or (degree_of complex i).alive column true ≡ false → entry_of complex i row column ≡ 0
  pub dead_row : (i : ℤ) (row column : ℕ) → slice_index_or (degree_of complex (i +ℤ pos 1)).alive row true ≡ false → entry_of complex i row column ≡ 0
  pub product : (i : ℤ) (row column : ℕ) → product_entry p complex i row column ≡ 0

-- the products of all neighbouring matrices are 0
abbrev pub squares_to_zero : ℕ → Complex → Bool
squares_to_zero p complex =
    list_all
    (λ k.
    list_all
    (λ row.
    list_all (λ column. nat_eq (product_entry p complex (complex.low +ℤ pos k) row column) 0)
    (range_with_len 0 (length (degree_number complex k).alive)))
    (range_with_len 0 (length (degree_number complex (k + 2)).alive)))
    (range_with_len 0 (length complex.degrees))

-- how many places of degree i are alive
abbrev pub alive_count : Complex → ℤ → ℕ
alive_count complex i = count_by (λ is_alive. is_alive) (degree_of complex i).alive

-- the homology dimension at degree i: the places alive, less the ranks of the matrices out of it and into it
abbrev pub dimension_of : ℕ → Complex → ℤ → ℕ
dimension_of p complex i =
    alive_count complex i - rank p (degree_of complex i).matrix - rank p (degree_of complex (i -ℤ pos 1)).matrix

-- every entry of every matrix is 0
abbrev pub is_zero : Complex → Bool
is_zero complex = list_all (λ degree. list_all (λ row. list_all (nat_eq 0) row) degree.matrix) complex.degrees

-- a pivot: an entry by its degree, its column, a place of that degree, and its row, a place of the next
pub record Pivot : Type 0 where
  pub degree : ℤ
  pub column : ℕ
  pub row : ℕ

-- the pivot at a degree, a column and a row
abbrev pub pivot_at : ℤ → ℕ → ℕ → Pivot
pivot_at degree column row = record { degree = degree; column = column; row = row }

-- an entry that may be cancelled: one other than 0
abbrev pub IsPivot : Complex → Pivot → Type 0
IsPivot complex pivot = entry_of complex pivot.degree pivot.row pivot.column ≢ 0

-- the places, after one of them has died
abbrev pub without_place : ℕ → List Bool → List Bool
without_place place alive = map (λ at. if nat_eq at.0 place then false else at.1) (enumerate_from 0 alive)

-- the matrix of the same size with another entry at each row and column
abbrev pub with_entries : (ℕ → ℕ → ℕ) → List (List ℕ) → List (List ℕ)
with_entries entry matrix =
    map (λ row. map (λ column. entry row.0 column.0) (enumerate_from 0 row.1)) (enumerate_from 0 matrix)

-- the pivot's row and column become 0, and every other entry d(b', a') becomes d(b', a') - d(b', a) c^-1 d(b, a'), where the
-- pivot is c at row b and column a: the path from a' to b' that goes back through the pivot
abbrev pub cancelled_matrix : ℕ → Pivot → List (List ℕ) → List (List ℕ)
cancelled_matrix p pivot matrix =
    with_entries
    (λ row column.
    if nat_eq row pivot.row || nat_eq column pivot.column then 0
    else minus_mod p (entry_in matrix row column)
    (entry_in matrix row pivot.column * (inverse p (entry_in matrix pivot.row pivot.column) * entry_in matrix pivot.row column)))
    matrix

-- the matrix with entries 0 in the row of a dead place: so the matrix into the pivot's degree
abbrev pub without_row : ℕ → List (List ℕ) → List (List ℕ)
without_row dead matrix = with_entries (λ row column. if nat_eq row dead then 0 else entry_in matrix row column) matrix

-- the matrix with entries 0 in the column of a dead place: so the matrix out of the degree after the pivot's
abbrev pub without_column : ℕ → List (List ℕ) → List (List ℕ)
without_column dead matrix = with_entries (λ row column. if nat_eq column dead then 0 else entry_in matrix row column) matrix

-- degree i after the cancellation of a pivot
abbrev pub cancelled_degree : ℕ → Pivot → ℤ → Degree → Degree
cancelled_degree p pivot i degree =
    if int_eq i pivot.degree
    then record { alive = without_place pivot.column degree.alive; matrix = cancelled_matrix p pivot degree.matrix }
    else if int_eq i (pivot.degree +ℤ pos 1)
    then record { alive = without_place pivot.row degree.alive; matrix = without_column pivot.row degree.matrix }
    else if int_eq (i +ℤ pos 1) pivot.degree
    then record { alive = degree.alive; matrix = without_row pivot.column degree.matrix }
    else degree

-- the cancellation of a pivot: it kills its column's place in its degree and its row's place in the next; places keep their
-- numbers, and all other entries stay
abbrev pub cancel : ℕ → Complex → Pivot → Complex
cancel p complex pivot =
    record {
      low = complex.low;
      degrees = map (λ at. cancelled_degree p pivot (complex.low +ℤ pos at.0) at.1) (enumerate_from 0 complex.degrees);
    }
