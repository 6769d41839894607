-- The circles of a state as a list, which has the circle of each arc and each loop, and their numbers as a list.
use Rattle.std.specs.Prelude.{◌-◌, ◌<◌, ◌≤◌, ℕ, List, ◌∷◌, length, map, nat_eq, slice_index}
use Rattle.std.specs.List.{position_or_len, range_with_len}
use Rattle.kh_types.specs.Classes.{IsNamed}
use Rattle.kh_types.specs.CircleNumbers.{names_to}

-- each circle is named by its least number, and the number 0 stands alone
pub record AreCircles (circles : List ℕ) : Type 0 where
  pub named : IsNamed (length circles) circles
  pub some : 0 < length circles
  pub positive : (name : ℕ) → 1 ≤ name → name < length circles → 1 ≤ slice_index circles name

-- the number of the circle of a name: its place among the names of circles
abbrev pub circle_number_at : List ℕ → ℕ → ℕ
circle_number_at circles name = position_or_len (nat_eq (slice_index circles name)) (names_to circles (length circles - 1))

-- the numbers of the circles of the names up to one, after an entry for the number 0
abbrev pub numbers_to : List ℕ → ℕ → List ℕ
numbers_to circles last = 0 ∷ map (circle_number_at circles) (range_with_len 1 last)
