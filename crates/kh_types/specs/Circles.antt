-- The circles of a state.
use Rattle.std.specs.Prelude.{ℕ, ◌+◌, List, [], ◌∷◌, length, if◌then◌else◌, nat_eq, slice_index}
use Rattle.std.specs.List.{filter, flat_map, enumerate_from}
use Rattle.kh_types.specs.Code.{Code, arc_in, arc_count, arcs_and_loops}
use Rattle.kh_types.specs.Classes.{classes_of, is_least}
use Rattle.kh_types.specs.Bits.{bit}

-- a state is a number below 2 ^ n: its bit at a crossing's place is 1 where the crossing has its 1-smoothing

-- what a smoothing of a crossing joins: the 0-smoothing joins slot 0 with 1 and 2 with 3, the 1-smoothing 0 with 3 and 1 with 2
-- (Bar-Natan 2002, section 2; Knot Atlas, "Planar Diagrams")
abbrev pub smoothing_of : ℕ → List ℕ → List (ℕ × ℕ)
smoothing_of smoothing slots =
    if nat_eq smoothing 0 then (arc_in slots 0, arc_in slots 1) ∷ (arc_in slots 2, arc_in slots 3) ∷ []
    else (arc_in slots 0, arc_in slots 3) ∷ (arc_in slots 1, arc_in slots 2) ∷ []

-- what all smoothings of a state join
abbrev pub smoothings_of : List (List ℕ) → ℕ → List (ℕ × ℕ)
smoothings_of crossings state = flat_map (λ at. smoothing_of (bit state at.0) at.1) (enumerate_from 0 crossings)

-- the circle of each arc and each loop in a state, by the least of them on it: a circle is a class of arcs joined by smoothings,
-- and each loop is one more; the number 0 is no arc and stands alone
abbrev pub circles_of : Code → ℕ → List ℕ
circles_of code state = classes_of (arc_count code.crossings + code.loops + 1) (smoothings_of code.crossings state)

-- the circle of an arc or a loop
abbrev pub circle_of : List ℕ → ℕ → ℕ
circle_of circles arc = slice_index circles arc

-- the circles by their least arcs, ascending, and the loops after them
abbrev pub circle_names : Code → ℕ → List ℕ
circle_names code state = filter (is_least (circles_of code state)) (arcs_and_loops code)

-- the number of circles
abbrev pub circle_count : Code → ℕ → ℕ
circle_count code state = length (circle_names code state)
