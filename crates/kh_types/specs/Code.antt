-- Codes of diagrams as plain data, and how their parts are numbered.
use Rattle.std.specs.Prelude.{ℕ, ◌+◌, ◌-◌, ◌*◌, ◌≤◌, List, [], length, slice_index, slice_index_or}
use Rattle.std.specs.List.{range_with_len}

-- a code: its crossings, each the list of the arcs at its slots 0 to 3, counterclockwise from the incoming under arc, and a
-- number of crossingless loops (Knot Atlas, "Planar Diagrams"; the loops are this project's rule). Definitions read the slots
-- 0 to 3 of a crossing and nothing behind them
pub record Code : Type 0 where
  pub crossings : List (List ℕ)
  pub loops : ℕ

-- the arc at a slot of a crossing, whose slots are given
abbrev pub arc_in : List ℕ → ℕ → ℕ
arc_in slots slot = slice_index slots slot

-- crossings are numbered from 1: this is the place in the list where a crossing stands
abbrev pub place_of : ℕ → ℕ
place_of crossing = crossing - 1

-- the slots of a crossing, each by its arc
abbrev pub slots_of : List (List ℕ) → ℕ → List ℕ
slots_of crossings crossing = slice_index_or crossings (place_of crossing) []

-- the numbers of the crossings, 1 to n
abbrev pub crossing_numbers : List (List ℕ) → List ℕ
crossing_numbers crossings = range_with_len 1 (length crossings)

-- a number is one of a crossing
pub record IsCrossing (crossings : List (List ℕ)) (crossing : ℕ) : Type 0 where
  pub positive : 1 ≤ crossing
  pub within : crossing ≤ length crossings

-- n crossings have 2n arcs, since each has four ends of arcs, and an arc has two
abbrev pub arc_count : List (List ℕ) → ℕ
arc_count crossings = 2 * length crossings

-- the arcs, 1 to 2n
abbrev pub arcs : List (List ℕ) → List ℕ
arcs crossings = range_with_len 1 (arc_count crossings)

-- a number is one of an arc
pub record IsArc (crossings : List (List ℕ)) (arc : ℕ) : Type 0 where
  pub positive : 1 ≤ arc
  pub within : arc ≤ arc_count crossings

-- the names of arcs and loops: the arcs are 1 to 2n, and the loops have the numbers that follow
abbrev pub arcs_and_loops : Code → List ℕ
arcs_and_loops code = range_with_len 1 (arc_count code.crossings + code.loops)
