-- The columns and rows that a cancellation changes, as they are copied out of a complex.
use Rattle.std.specs.Prelude.{◌≡◌, ℕ, List, drop, map, take}
use Rattle.kh_types.specs.Complex.{Complex, IsComplex, IsPivot, Pivot, cancel}
use Rattle.sparse_block.specs.Changes.{PlacedLine}
use Rattle.sparse_block.specs.Complexes.{column_of, row_of}
use Rattle.sparse_block.specs.Entries.{Entry, entries_of}

-- the line that has the place of an entry, with its entries
abbrev pub line_across : (ℕ → List ℕ) → Entry → PlacedLine
line_across line entry = record { place = entry.place; entries = entries_of (line entry.place) }

-- the columns that have an entry in the pivot's row, ascending, as they are in this complex or after it
abbrev pub columns_across : Complex → Pivot → Complex → List PlacedLine
columns_across complex pivot after =
    map (line_across (column_of after pivot.degree)) (entries_of (row_of complex pivot.degree pivot.row))

-- the rows that have an entry in the pivot's column, ascending, as they are in this complex or after it
abbrev pub rows_across : Complex → Pivot → Complex → List PlacedLine
rows_across complex pivot after =
    map (line_across (row_of after pivot.degree)) (entries_of (column_of complex pivot.degree pivot.column))

-- a pivot, with copies of columns and of rows of its matrix
pub record Copied : Type 0 where
  pub pivot : Pivot
  pub columns : List PlacedLine
  pub rows : List PlacedLine

-- these parts
abbrev pub copied_parts : Pivot → List PlacedLine → List PlacedLine → Copied
copied_parts pivot columns rows = record { pivot = pivot; columns = columns; rows = rows }

-- the parts whose columns are the first of some lines, so many, and whose rows are the others
abbrev pub split_parts : Pivot → ℕ → List PlacedLine → Copied
split_parts pivot count lines = copied_parts pivot (take count lines) (drop count lines)

-- the columns that have an entry in the pivot's row, and the rows that have one in its column
abbrev pub copied : Complex → Pivot → Copied
copied complex pivot = copied_parts pivot (columns_across complex pivot complex) (rows_across complex pivot complex)

-- there is a complex of which these are the copied parts, at a pivot of it
pub record WasCopied (p : ℕ) (parts : Copied) : Type 0 where
  pub complex : Complex
  pub is_complex : IsComplex p complex
  pub is_pivot : IsPivot complex parts.pivot
  pub are_copied : parts ≡ copied complex parts.pivot

-- and these columns and rows are those parts, as they are after the pivot's cancellation
pub record WasPatched (p : ℕ) (parts : Copied) (columns rows : List PlacedLine) : Type 0 where
  pub from : WasCopied p parts
  pub are_columns : columns ≡ columns_across from.complex parts.pivot (cancel p from.complex parts.pivot)
  pub are_rows : rows ≡ rows_across from.complex parts.pivot (cancel p from.complex parts.pivot)
