-- What makes rows a table, and what is read off a table.
use Rattle.std.specs.Prelude.{◌≡◌, ℕ, ◌≤◌, ◌⊎◌, ℤ, ◌<ℤ◌, Bool, ◌&&◌}
use Rattle.std.specs.List.{All, AllPairs, find, sum_by}
use Rattle.std.specs.Option.{option_map_or}
use Rattle.std.specs.Ordering.{int_eq}
use Rattle.prime_field.specs.Residues.{IsSmallPrime}
use Rattle.kh_types.specs.declared.limits.TheConstants.{CROSSINGS, EXPONENT}
use Rattle.kh_types.specs.Table.{IsWithin, Row, Table}
use Rattle.circle_smoothing.specs.declared.limits.TheConstants.{GENERATORS}

-- a row is within the limits: its quantum degree, its homological degree, and its dimension, which is above 0
pub record IsRow (row : Row) : Type 0 where
  pub j : IsWithin EXPONENT row.j
  pub i : IsWithin CROSSINGS row.i
  pub some : 1 ≤ row.dim
  pub few : row.dim ≤ GENERATORS

-- a row comes before another: its quantum degree is less, or it is the same and the homological degree is less
abbrev pub IsBefore : Row → Row → Type 0
IsBefore row other = (row.j <ℤ other.j) ⊎ ((row.j ≡ other.j) × (row.i <ℤ other.i))

-- a table: its field has 2, 3, 5 or 7 elements, its rows are within the limits, and each comes before all later ones
pub record IsTable (table : Table) : Type 0 where
  pub field : IsSmallPrime table.field
  pub rows : All IsRow table.rows
  pub ascending : AllPairs IsBefore table.rows

-- a row is that of the homological degree i and the quantum degree j
abbrev pub is_at : ℤ → ℤ → Row → Bool
is_at i j row = int_eq row.i i && int_eq row.j j

-- the dimension that a table has at (i, j): that of the row of these degrees, and 0 where there is none
abbrev pub dim_at : Table → ℤ → ℤ → ℕ
dim_at table i j = option_map_or (λ row. row.dim) (find (is_at i j) table.rows) 0

-- the sum of all dimensions of a table
abbrev pub total_of : Table → ℕ
total_of table = sum_by (λ row. row.dim) table.rows
