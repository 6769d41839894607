-- Tables beside circles.
use Rattle.std.specs.Prelude.{ℕ, ◌+◌, ℤ, pos, ◌+ℤ◌, ◌-ℤ◌, List}
use Rattle.std.specs.List.{filter, find, flat_map}
use Rattle.std.specs.Option.{option_map_or}
use Rattle.std.specs.Ordering.{int_eq}
use Rattle.kh_types.specs.Code.{Code}
use Rattle.kh_types.specs.Table.{Row, Table, from_minus, table}
use Rattle.kh_types.specs.declared.limits.TheConstants.{EXPONENT}
use Rattle.homology_tables.specs.DegreeRows.{rows_with}
use Rattle.homology_tables.specs.Tables.{dim_at}
use Rattle.union_laws.specs.Loops.{with_loops}

-- the rows of a quantum degree
abbrev pub rows_of : List Row → ℤ → List Row
rows_of rows j = filter (λ row. int_eq row.j j) rows

-- the dimension that rows of one quantum degree have at i, which is 0 where none is there
abbrev pub dim_of : List Row → ℤ → ℕ
dim_of rows i = option_map_or (λ row. row.dim) (find (λ row. int_eq row.i i) rows) 0

-- the dimensions of two quantum degrees together, the one lower by 1 and the other higher by 1
abbrev pub dims_of : List Row → List Row → ℤ → ℕ
dims_of lower upper i = dim_of lower i + dim_of upper i

-- the dimensions of a table beside a circle, at a quantum degree: times q + 1/q
abbrev pub dims_beside : Table → ℤ → ℤ → ℕ
dims_beside homology j i = dim_at homology i (j -ℤ pos 1) + dim_at homology i (j +ℤ pos 1)

-- a table beside a circle: the rows of these dimensions, with homological degrees from -n to n
unfoldable pub beside_circle : ℕ → Table → Table
beside_circle n homology =
    record { field = homology.field; rows = flat_map (λ j. rows_with n j (dims_beside homology j)) (from_minus EXPONENT) }

-- the table of a code's crossings and k loops
unfoldable pub table_with : ℕ → Code → ℕ → Table
table_with p code k = table p (with_loops code k)
