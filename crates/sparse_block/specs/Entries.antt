-- Lists of entries, and the lines of numbers, columns and rows of a matrix, that they denote.
use Rattle.std.specs.Prelude.{ℕ, ◌<◌, Bool, ◌&&◌, List, map, nat_eq, not, All}
use Rattle.std.specs.List.{filter, find, enumerate_from, range_with_len}
use Rattle.std.specs.List.Sorted.{IsStrictlyIncreasing}
use Rattle.std.specs.Option.{option_map_or}

-- an entry other than zero of a line: its place there, and its value
pub record Entry : Type 0 where
  pub place : ℕ
  pub value : ℕ

-- an entry, by its place and its value
abbrev pub entry_at : ℕ × ℕ → Entry
entry_at at = record { place = at.0; value = at.1 }

-- whether two entries have the same place and the same value
abbrev pub are_alike : Entry → Entry → Bool
are_alike x y = nat_eq x.place y.place && nat_eq x.value y.value

-- the entries of a line of numbers whose first place has this number: those other than 0, each with its place, in order
abbrev pub entries_from : ℕ → List ℕ → List Entry
entries_from first line = map entry_at (filter (λ at. not (nat_eq at.1 0)) (enumerate_from first line))

-- the entries of a line of numbers, whose first place is 0
abbrev pub entries_of : List ℕ → List Entry
entries_of line = entries_from 0 line

-- the number at a place: the value of the entry that has this place, and 0 where there is none
abbrev pub value_at : List Entry → ℕ → ℕ
value_at entries place = option_map_or (λ entry. entry.value) (find (λ entry. nat_eq entry.place place) entries) 0

-- the line of numbers that entries denote, with as many places as its size
abbrev pub line_of : ℕ → List Entry → List ℕ
line_of size entries = map (value_at entries) (range_with_len 0 size)

-- the entries ascend by place, with no place twice; each place is below the size of the line, and each value from 1 to p - 1
pub record AreEntries (p size : ℕ) (entries : List Entry) : Type 0 where
  pub ascending : IsStrictlyIncreasing (map (λ entry. entry.place) entries)
  pub places : All (λ entry. entry.place < size) entries
  pub values : All (λ entry. (0 < entry.value) × (entry.value < p)) entries
