-- Copied parts that a complex does not have, and the least column where this shows.
use Rattle.std.specs.Prelude.{◌≡◌, ◌≢◌, ℕ, ◌⊎◌, ℤ, List, slice_index, min, Option, Some, None}
use Rattle.std.specs.List.{Any}
use Rattle.kh_types.specs.Complex.{Complex}
use Rattle.sparse_block.specs.Changes.{PlacedLine}
use Rattle.sparse_block.specs.Complexes.{column_of, row_of}
use Rattle.sparse_block.specs.Entries.{entries_of, value_at}
use Rattle.cancel_step.specs.Copies.{Copied}

-- it shows in one of some lines
abbrev pub ShowsIn : (PlacedLine → ℕ → Type 0) → List PlacedLine → ℕ → Type 0
ShowsIn Shows lines column = Any (λ line. Shows line column) lines

-- a line is that of a column, and has other entries than the complex's column
abbrev pub IsOtherColumn : Complex → ℤ → PlacedLine → ℕ → Type 0
IsOtherColumn complex i line column = (line.place ≡ column) × (line.entries ≢ entries_of (column_of complex i column))

-- a line has another value at a column than the complex's row of its place
abbrev pub IsOtherRowAt : Complex → ℤ → PlacedLine → ℕ → Type 0
IsOtherRowAt complex i line column = value_at line.entries column ≢ slice_index (row_of complex i line.place) column

-- it shows in one of some columns, or in one of some rows
abbrev pub ShowsBetween : Complex → ℤ → List PlacedLine → List PlacedLine → ℕ → Type 0
ShowsBetween complex i columns rows column =
    ShowsIn (IsOtherColumn complex i) columns column ⊎ ShowsIn (IsOtherRowAt complex i) rows column

-- a difference shows at a column: a copy of this column has other entries than the complex's column, or a copied row has
-- another value at this column than the complex's row
abbrev pub ShowsAt : Copied → Complex → ℕ → Type 0
ShowsAt parts complex column = ShowsBetween complex parts.pivot.degree parts.columns parts.rows column

-- a difference shows at some column
abbrev pub IsForeign : Copied → Complex → Type 0
IsForeign parts complex = (column : ℕ) × ShowsAt parts complex column

-- the lesser of two numbers that were found, or the only one
abbrev pub lesser_of : Option ℕ → Option ℕ → Option ℕ
lesser_of None found = found
lesser_of (Some m) None = Some m
lesser_of (Some m) (Some n) = Some (min m n)
