-- Lines by their places, less multiples of a pivot's line.
use Rattle.std.specs.Prelude.{ℕ, List, [], nat_eq, All}
use Rattle.std.specs.List.{find}
use Rattle.std.specs.Option.{option_map_or}
use Rattle.sparse_block.specs.Changes.{PlacedLine}
use Rattle.sparse_block.specs.Entries.{Entry, AreEntries, entries_of}
use Rattle.sparse_block.specs.LinePairs.{factor_at, line_less}

-- a line less the multiple of the pivot's line that clears the place where the pivot is
abbrev pub line_cleared : ℕ → ℕ → List Entry → ℕ → PlacedLine → PlacedLine
line_cleared p size pivot_line across line =
    record {
      place = line.place;
      entries = entries_of (line_less p size line.entries (factor_at p pivot_line line.entries across) pivot_line);
    }

-- the entries of the first of some lines that has a place, none where no line has it
abbrev pub entries_with : List PlacedLine → ℕ → List Entry
entries_with lines place = option_map_or (λ line. line.entries) (find (λ line. nat_eq line.place place) lines) []

-- the entries of each line ascend, at places below the size
abbrev pub AreLines : ℕ → ℕ → List PlacedLine → Type 0
AreLines p size lines = All (λ line. AreEntries p size line.entries) lines
