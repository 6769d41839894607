-- Homology dimensions, the table of them and its text.
use Rattle.std.specs.Prelude.{ℕ, ◌+◌, ◌-◌, ◌*◌, ℤ, pos, ◌-ℤ◌, List, ◌++◌, length, map, nat_lt, Bool, codes}
use Rattle.std.specs.List.{Contains, filter, flat_map, range_with_len}
use Rattle.std.specs.Fmt.{decimal, signed_decimal}
use Rattle.kh_types.specs.Code.{Code}
use Rattle.kh_types.specs.Generators.{generators_at}
use Rattle.kh_types.specs.Differential.{differential}
use Rattle.kh_types.specs.Rank.{rank}
use Rattle.kh_types.specs.declared.limits.TheConstants.{EXPONENT}

-- the homology dimension at (i, j) over the field of p elements: the number of generators less the rank of the differential
-- out of them and the rank of the one into them
abbrev pub dimension : ℕ → Code → ℤ → ℤ → ℕ
dimension p code i j =
    length (generators_at code i j) - rank p (differential p code i j) - rank p (differential p code (i -ℤ pos 1) j)

-- the numbers from -n to n, ascending
abbrev pub from_minus : ℕ → List ℤ
from_minus n = map (λ k. pos k -ℤ pos n) (range_with_len 0 (2 * n + 1))

-- an integer from -n to n: it is one of the numbers `from_minus n`
abbrev pub IsWithin : ℕ → ℤ → Type 0
IsWithin n i = Contains (from_minus n) i

-- a row of a table: the quantum degree, the homological degree and the dimension
pub record Row : Type 0 where
  pub j : ℤ
  pub i : ℤ
  pub dim : ℕ

-- the number of elements of the field, and rows
pub record Table : Type 0 where
  pub field : ℕ
  pub rows : List Row

-- the row of a quantum degree and a homological degree
abbrev pub row_at : ℕ → Code → ℤ → ℤ → Row
row_at p code j i = record { j = j; i = i; dim = dimension p code i j }

-- whether a table shows a row: its dimension is above 0
abbrev pub is_shown : Row → Bool
is_shown row = nat_lt 0 row.dim

-- the rows that a table shows of one quantum degree, ascending by i; with n crossings i lies from -n to n
abbrev pub rows_at : ℕ → Code → ℤ → List Row
rows_at p code j = filter is_shown (map (row_at p code j) (from_minus (length code.crossings)))

-- the rows that a table shows with quantum degrees up to a size, ascending by j, then by i
abbrev pub rows_within : ℕ → ℕ → Code → List Row
rows_within most p code = flat_map (rows_at p code) (from_minus most)

-- the homology table: the rows with a dimension above 0; in an accepted code within the limits j is at most EXPONENT in size,
-- which is a law
abbrev pub table : ℕ → Code → Table
table p code = record { field = p; rows = rows_within EXPONENT p code }

-- the line of a row
abbrev pub row_text : Row → List ℕ
row_text row =
    codes "j " ++ (signed_decimal row.j ++ (codes " i " ++ (signed_decimal row.i ++ (codes " dim " ++ (decimal row.dim ++ codes "\n")))))

-- the text of a table: the line of its version, that of its field, then the lines of its rows
abbrev pub table_text : Table → List ℕ
table_text homology = codes "table 2\nfield " ++ (decimal homology.field ++ (codes "\n" ++ flat_map row_text homology.rows))
