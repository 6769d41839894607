-- The two sides of a matrix of a complex: its columns and its rows.
use Rattle.std.specs.Prelude.{ℕ, ℤ, List, map}
use Rattle.kh_types.specs.Complex.{Complex, Pivot}
use Rattle.sparse_block.specs.Changes.{PlacedLine}
use Rattle.sparse_block.specs.Complexes.{column_of, row_of}
use Rattle.sparse_block.specs.Entries.{entries_of}
use Rattle.cancel_step.specs.declared.side.Side.{Side}
use Rattle.cancel_step.specs.Copies.{line_across}
use Rattle.cancel_step.specs.Foreign.{IsOtherColumn, IsOtherRowAt}

-- the side across
abbrev pub other_side : Side → Side
other_side Side.Columns = Side.Rows
other_side Side.Rows = Side.Columns

-- the line at a place of a side, a column or a row of the matrix from degree i to degree i + 1
abbrev pub line_on : Side → Complex → ℤ → ℕ → List ℕ
line_on Side.Columns complex i place = column_of complex i place
line_on Side.Rows complex i place = row_of complex i place

-- the place of a pivot on a side
abbrev pub place_on : Side → Pivot → ℕ
place_on Side.Columns pivot = pivot.column
place_on Side.Rows pivot = pivot.row

-- the lines of a side that have an entry in the pivot's line across, ascending, as they are in this complex or after it
abbrev pub lines_across : Side → Complex → Pivot → Complex → List PlacedLine
lines_across side complex pivot after =
    map (line_across (line_on side after pivot.degree))
    (entries_of (line_on (other_side side) complex pivot.degree (place_on (other_side side) pivot)))

-- a line is not that of the complex at its place, and a column tells: a column itself, of a row one with another value
abbrev pub IsOtherOn : Side → Complex → ℤ → PlacedLine → ℕ → Type 0
IsOtherOn Side.Columns complex i line column = IsOtherColumn complex i line column
IsOtherOn Side.Rows complex i line column = IsOtherRowAt complex i line column
