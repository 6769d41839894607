-- The rows of two tables, multiplied.
use Rattle.std.specs.Prelude.{ℕ, ◌*◌, ℤ, ◌+ℤ◌, List, cond, ◌&&◌}
use Rattle.std.specs.List.{sum_by}
use Rattle.std.specs.Ordering.{int_eq}
use Rattle.kh_types.specs.Table.{Row}

-- what two rows give at (i, j): the product of their dimensions, where their degrees add up to i and j, and else 0
abbrev pub row_product : ℤ → ℤ → Row → Row → ℕ
row_product i j row other = cond (int_eq (row.i +ℤ other.i) i && int_eq (row.j +ℤ other.j) j) (row.dim * other.dim) 0

-- what two lists of rows give there: the sum over all pairs of a row of either
abbrev pub rows_product : List Row → List Row → ℤ → ℤ → ℕ
rows_product first second i j = sum_by (λ row. sum_by (row_product i j row) second) first
