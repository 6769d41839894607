-- Whether plain data is a complex, as a test over the degrees, rows and columns that there are.
use Rattle.std.specs.Prelude.{ℕ, ◌+◌, length, nat_eq, nat_lt, Bool, true, ◌&&◌, ◌||◌, slice_index_or}
use Rattle.std.specs.List.{list_all, range_with_len}
use Rattle.kh_types.specs.Complex.{Complex, Degree, degree_number, entry_in, squares_to_zero}

-- all numbers below n pass
abbrev pub all_below : ℕ → (ℕ → Bool) → Bool
all_below n test = list_all test (range_with_len 0 n)

-- the matrix of a degree has a row for each place of the next degree and a column for each place of its own
abbrev pub has_size : Degree → Degree → Bool
has_size degree next =
    nat_eq (length degree.matrix) (length next.alive)
    && list_all (λ row. nat_eq (length row) (length degree.alive)) degree.matrix

-- an entry is below p, and it is 0 where its column, a place of the degree, or its row, a place of the next, is dead
abbrev pub entry_fits : ℕ → Degree → Degree → ℕ → ℕ → Bool
entry_fits p degree next row column =
    nat_lt (entry_in degree.matrix row column) p
    && (nat_eq (entry_in degree.matrix row column) 0
    || (slice_index_or degree.alive column true && slice_index_or next.alive row true))

-- all entries of the matrix do so
abbrev pub entries_fit : ℕ → Degree → Degree → Bool
entries_fit p degree next =
    all_below (length next.alive) (λ row. all_below (length degree.alive) (entry_fits p degree next row))

-- the matrix out of degree number k has the size and the entries that it has to have
abbrev pub matrix_fits : ℕ → Complex → ℕ → Bool
matrix_fits p complex k =
    has_size (degree_number complex k) (degree_number complex (k + 1))
    && entries_fit p (degree_number complex k) (degree_number complex (k + 1))

-- plain data is a complex: each matrix fits, and neighbouring ones have the product 0. A law says that this is `IsComplex`
abbrev pub is_complex : ℕ → Complex → Bool
is_complex p complex = all_below (length complex.degrees) (matrix_fits p complex) && squares_to_zero p complex
