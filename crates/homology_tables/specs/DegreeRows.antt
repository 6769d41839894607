-- The rows of one quantum degree, by dimensions.
use Rattle.std.specs.Prelude.{◌≡◌, ℕ, ℤ, List, ◌++◌, map, Result, Ok, Err}
use Rattle.std.specs.List.{filter}
use Rattle.kh_types.specs.Table.{Row, from_minus, is_shown}

-- the row of the homological degree i, which has this dimension
abbrev pub row_with : ℤ → (ℤ → ℕ) → ℤ → Row
row_with j dims i = record { j = j; i = i; dim = dims i }

-- the rows that a table shows of these dimensions, ascending by i from -n to n
abbrev pub rows_with : ℕ → ℤ → (ℤ → ℕ) → List Row
rows_with n j dims = filter is_shown (map (row_with j dims) (from_minus n))

-- all of these have gone to the end of a list, in their order, or, where memory ran out, none
abbrev pub AddsAllOrNone : {A E R : Type 0} → Result A E → List R → List R → List R → Type 0
AddsAllOrNone (Ok done) before after more = after ≡ before ++ more
AddsAllOrNone (Err stop) before after more = after ≡ before
