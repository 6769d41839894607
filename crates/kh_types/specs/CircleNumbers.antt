-- The numbers of the circles of a state.
use Rattle.std.specs.Prelude.{ℕ, ◌+◌, ◌≤◌, List, nat_eq}
use Rattle.std.specs.List.{filter, position_or_len, range_with_len}
use Rattle.kh_types.specs.Code.{Code, arc_count}
use Rattle.kh_types.specs.Classes.{is_least}
use Rattle.kh_types.specs.Circles.{circles_of, circle_of, circle_names}

-- a number is one of an arc or of a loop
pub record IsName (code : Code) (name : ℕ) : Type 0 where
  pub positive : 1 ≤ name
  pub within : name ≤ arc_count code.crossings + code.loops

-- the number of a circle, which is given by its least arc, or by the loop: its place among the circles, which stand in the order
-- of their least arcs, and the loops after them
abbrev pub number_of : Code → ℕ → ℕ → ℕ
number_of code state circle = position_or_len (nat_eq circle) (circle_names code state)

-- the number of the circle that an arc is on, or that a loop is
abbrev pub circle_number : Code → ℕ → ℕ → ℕ
circle_number code state arc = number_of code state (circle_of (circles_of code state) arc)

-- the names of circles from 1 to a number
abbrev pub names_to : List ℕ → ℕ → List ℕ
names_to circles last = filter (is_least circles) (range_with_len 1 last)
