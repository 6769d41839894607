-- Codes to which a kink is added.
use Rattle.std.specs.Prelude.{ℕ, ◌+◌, List, [], ◌∷◌, ◌++◌, length, map, nat_eq, nat_lt, Bool, ◌&&◌, if◌then◌else◌}
use Rattle.std.specs.List.{range_with_len}
use Rattle.kh_types.specs.Directions.{positive_at}
use Rattle.kh_types.specs.Code.{Code, arc_in}
use Rattle.code_passes.specs.Parts.{slots_in}
use Rattle.gluing_laws.specs.Arcs.{enters}

-- the number of an arc after a kink has been added to arc a: numbers above a have risen by 2
abbrev pub raised : ℕ → ℕ → ℕ
raised a arc = if nat_lt a arc then arc + 2 else arc

-- the number at a slot after a kink has been added to arc a: the head of a stands on a + 2
abbrev pub kinked_name : ℕ → Bool → ℕ → ℕ
kinked_name a is_head arc = if nat_eq arc a && is_head then a + 2 else raised a arc

-- the numbers at all slots of an old crossing after that
abbrev pub kinked_slots : ℕ → Bool → List ℕ → List ℕ
kinked_slots a is_positive slots =
    kinked_name a (enters is_positive 0) (arc_in slots 0) ∷ kinked_name a (enters is_positive 1) (arc_in slots 1)
    ∷ kinked_name a (enters is_positive 2) (arc_in slots 2) ∷ kinked_name a (enters is_positive 3) (arc_in slots 3) ∷ []

-- the crossing of a kink on arc a, whose first pass is over or under, and which is positive or negative
abbrev pub kink_crossing : Bool → Bool → ℕ → List ℕ
kink_crossing is_over is_positive a =
    if is_over then
    if is_positive then (a + 1) ∷ (a + 1) ∷ (a + 2) ∷ a ∷ [] else (a + 1) ∷ a ∷ (a + 2) ∷ (a + 1) ∷ []
    else if is_positive then a ∷ (a + 2) ∷ (a + 1) ∷ (a + 1) ∷ []
    else a ∷ (a + 1) ∷ (a + 1) ∷ (a + 2) ∷ []

-- the old crossings, on the new arcs
abbrev pub raised_crossings : ℕ → List (List ℕ) → List (List ℕ)
raised_crossings a crossings =
    map (λ place. kinked_slots a (positive_at crossings place) (slots_in crossings place)) (range_with_len 0 (length crossings))

-- the code with a kink on arc a
abbrev pub with_kink : Bool → Bool → ℕ → Code → Code
with_kink is_over is_positive a code = record {
  crossings = raised_crossings a code.crossings ++ kink_crossing is_over is_positive a ∷ [];
  loops = code.loops;
}
