-- The rows of what some objects count.
use Rattle.std.specs.Prelude.{◌≡◌, ℕ, ℤ, List, length, map}
use Rattle.std.specs.List.{filter, flat_map}
use Rattle.kh_types.specs.Code.{Code}
use Rattle.kh_types.specs.Directions.{minus_count, plus_count}
use Rattle.kh_types.specs.Table.{Row, from_minus, is_shown}
use Rattle.kh_types.specs.declared.limits.TheConstants.{EXPONENT}
use Rattle.tangle_scan.specs.Tallies.{AreTallies, count_at, tallied}
use Rattle.tangle_scan.specs.declared.finished.counting.Counted.{Counted}
use Rattle.tangle_scan.specs.declared.complex.Object.{Object}

-- what they count at (i, j)
abbrev pub dims_of : Counted → ℤ → ℤ → ℕ
dims_of counted i j = tallied (count_at counted.loops counted.plus counted.minus i j) counted.tallies.items

-- the row of some numbers at j and i
abbrev pub row_by : (ℤ → ℤ → ℕ) → ℤ → ℤ → Row
row_by dims j i = record { j = j; i = i; dim = dims i j }

-- those that a table shows of a quantum degree, with n crossings
abbrev pub rows_by : (ℤ → ℤ → ℕ) → ℕ → ℤ → List Row
rows_by dims n j = filter is_shown (map (row_by dims j) (from_minus n))

-- and of all quantum degrees
abbrev pub all_rows_by : (ℤ → ℤ → ℕ) → ℕ → List Row
all_rows_by dims n = flat_map (rows_by dims n) (from_minus EXPONENT)

-- objects counted for the table of a code
pub record IsCountedFor (code : Code) (objects : List Object) (counted : Counted) : Type 0 where
  pub tallies : AreTallies objects counted.tallies.items
  pub loops : counted.loops ≡ code.loops
  pub crossings : counted.crossings ≡ length code.crossings
  pub plus : counted.plus ≡ plus_count code.crossings
  pub minus : counted.minus ≡ minus_count code.crossings

-- rows are all that objects have, counted for the table of a code
pub record AreCountedRows (code : Code) (objects : List Object) (rows : List Row) : Type 0 where
  pub counted : Counted
  pub of_objects : IsCountedFor code objects counted
  pub all : rows ≡ all_rows_by (dims_of counted) counted.crossings
