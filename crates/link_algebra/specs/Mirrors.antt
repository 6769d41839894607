-- The mirror and the reversal of a code (any textbook of knots; which numbers the arcs get is this project's rule).
use Rattle.std.specs.Prelude.{◌≡◌, ℕ, ◌+◌, ◌-◌, ◌%◌, ◌^◌, ◌<◌, List, [], ◌∷◌, length, map, Bool, not, if◌then◌else◌}
use Rattle.kh_types.specs.Code.{Code, IsArc, arc_in, crossing_numbers, slots_of}
use Rattle.kh_types.specs.Components.{arcs_in, component_of, components_of}
use Rattle.kh_types.specs.Directions.{head_of, is_positive}
use Rattle.code_passes.specs.Parts.{Parts}
use Rattle.orient_arcs.specs.Renumbered.{renumber}

-- the arcs at a crossing, counterclockwise, from a slot on
abbrev pub slots_from : ℕ → List ℕ → List ℕ
slots_from first slots =
    arc_in slots first ∷ arc_in slots ((first + 1) % 4) ∷ arc_in slots ((first + 2) % 4) ∷ arc_in slots ((first + 3) % 4) ∷ []

-- the slot where the over pass of a crossing comes in
abbrev pub over_slot : Bool → ℕ
over_slot positive = if positive then 3 else 1

-- a crossing of the mirror: the pass that was over is under, so the slots begin where it comes in
abbrev pub mirror_slots : List (List ℕ) → ℕ → List ℕ
mirror_slots crossings crossing = slots_from (over_slot (is_positive crossings crossing)) (slots_of crossings crossing)

-- all crossings of the mirror, each with the opposite sign, over the arcs of the code; the loops stay
abbrev pub mirror_parts : Code → Parts
mirror_parts code = record {
  crossings = map (mirror_slots code.crossings) (crossing_numbers code.crossings);
  positive = map not (map (is_positive code.crossings) (crossing_numbers code.crossings));
  loops = code.loops;
}

-- the mirror of a code: every under pass has become the over pass, and the arcs are renumbered
abbrev pub mirror_of : Code → Code
mirror_of code = renumber (mirror_parts code)

-- a circle of two arcs, given by its least arc, that is under at both its crossings
pub record IsUnderCircle (crossings : List (List ℕ)) (first : ℕ) : Type 0 where
  pub two : arcs_in (components_of crossings) first ≡ 2
  pub first_under : (head_of crossings first).slot ≡ 0
  pub second_under : (head_of crossings (first + 1)).slot ≡ 0

-- each such circle enters the first listed of its crossings on its first arc
abbrev pub EntersInOrder : List (List ℕ) → Type 0
EntersInOrder crossings =
    (first : ℕ) → IsArc crossings first → component_of (components_of crossings) first ≡ first → IsUnderCircle crossings first
    → (head_of crossings first).crossing < (head_of crossings (first + 1)).crossing

-- the state with the other smoothing at each crossing: the bits of both add up to 2 ^ n - 1
abbrev pub opposite_state : Code → ℕ → ℕ
opposite_state code state = 2 ^ length code.crossings - 1 - state

-- a crossing of the reversal: both passes go the other way, so the slots begin where the under pass went out
abbrev pub reversal_slots : List (List ℕ) → ℕ → List ℕ
reversal_slots crossings crossing = slots_from 2 (slots_of crossings crossing)

-- all crossings of the reversal, each with its sign, over the arcs of the code; the loops stay
abbrev pub reversal_parts : Code → Parts
reversal_parts code = record {
  crossings = map (reversal_slots code.crossings) (crossing_numbers code.crossings);
  positive = map (is_positive code.crossings) (crossing_numbers code.crossings);
  loops = code.loops;
}

-- the reversal of a code: every component goes the other way, and the arcs are renumbered
abbrev pub reversal_of : Code → Code
reversal_of code = renumber (reversal_parts code)
