-- What a cancellation changes in the pivot's own matrix, as whole new columns and rows.
use Rattle.std.specs.Prelude.{◌≡◌, ◌≢◌, ℕ, ◌<◌, List, map, All}
use Rattle.std.specs.List.{Contains}
use Rattle.kh_types.specs.Complex.{Pivot}
use Rattle.sparse_block.specs.Entries.{Entry, entries_of}

-- a column or a row of a matrix: its place, and its entries
pub record PlacedLine : Type 0 where
  pub place : ℕ
  pub entries : List Entry

-- the line with this place and these entries
abbrev pub placed : ℕ → List Entry → PlacedLine
placed place entries = record { place = place; entries = entries }

-- a pivot, and columns and rows of its matrix
pub record Exchange : Type 0 where
  pub pivot : Pivot
  pub columns : List PlacedLine
  pub rows : List PlacedLine

-- the places that lines name
abbrev pub places_of : List PlacedLine → List ℕ
places_of lines = map (λ line. line.place) lines

-- every place whose line is not the same before and after is named, and each line that is named has the entries after; so a line
-- that stays may be named too, and a line may be named twice
pub record AreChanged (size : ℕ) (before after : ℕ → List ℕ) (lines : List PlacedLine) : Type 0 where
  pub within : All (λ line. line.place < size) lines
  pub entries : All (λ line. line.entries ≡ entries_of (after line.place)) lines
  pub all : (place : ℕ) → before place ≢ after place → Contains (places_of lines) place
