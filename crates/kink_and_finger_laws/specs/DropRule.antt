-- The rule by which crossings are dropped, as a relation between a code and what is left.
use Rattle.std.specs.Prelude.{◌≡◌, ◌≤◌, ◌<◌, ℕ, ◌+◌, List, [], ◌∷◌, length, map, nat_eq, Bool, true, not, ◌&&◌}
use Rattle.std.specs.List.{count_by}
use Rattle.kh_types.specs.Code.{Code, IsArc, arc_in, arcs}
use Rattle.kh_types.specs.Directions.{positive_at}
use Rattle.code_passes.specs.Parts.{Parts, slots_in}
use Rattle.gluing_laws.specs.Arcs.{arc_by_place}
use Rattle.kink_and_finger_laws.specs.Drops.{kept_places, stands_in}

-- a value of arcs that does not change straight through the crossings that are gone: from slot 0 to slot 2, and from slot 1 to slot 3
pub record StaysThrough (crossings : List (List ℕ)) (gone : ℕ → Bool) (value : ℕ → ℕ) : Type 0 where
  pub under : (place : ℕ) → place < length crossings → gone place ≡ true
      → value (arc_by_place crossings place 0) ≡ value (arc_by_place crossings place 2)
  pub over : (place : ℕ) → place < length crossings → gone place ≡ true
      → value (arc_by_place crossings place 1) ≡ value (arc_by_place crossings place 3)

-- arcs are named so that those that are joined straight through, by one crossing or by several, have one name, and no others have: the
-- least of them
pub record AreJoinedNames (crossings : List (List ℕ)) (gone : ℕ → Bool) (name : ℕ → ℕ) : Type 0 where
  pub joined : StaysThrough crossings gone name
  pub no_others : (value : ℕ → ℕ) → StaysThrough crossings gone value → (arc other : ℕ) → IsArc crossings arc → IsArc crossings other
      → name arc ≡ name other → value arc ≡ value other
  pub is_arc : (arc : ℕ) → IsArc crossings arc → IsArc crossings (name arc)
  pub own : (arc : ℕ) → IsArc crossings arc → name (name arc) ≡ name arc
  pub least : (arc : ℕ) → IsArc crossings arc → name arc ≤ arc

-- a crossing with its arcs under their names
abbrev pub named_slots : (ℕ → ℕ) → List ℕ → List ℕ
named_slots name slots = name (arc_in slots 0) ∷ name (arc_in slots 1) ∷ name (arc_in slots 2) ∷ name (arc_in slots 3) ∷ []

-- an arc gives its name to a ring: no crossing that stays has this name
abbrev pub names_ring : (ℕ → ℕ) → List (List ℕ) → ℕ → Bool
names_ring name kept arc = nat_eq (name arc) arc && not (stands_in kept arc)

-- what is left where crossings are dropped: the others in their order, with their signs, and their arcs under such names; and each ring
-- is a loop more
pub record IsLeft (code : Code) (gone : ℕ → Bool) (parts : Parts) : Type 0 where
  pub name : ℕ → ℕ
  pub names : AreJoinedNames code.crossings gone name
  pub crossings : parts.crossings ≡ map (λ place. named_slots name (slots_in code.crossings place)) (kept_places code.crossings gone)
  pub signs : parts.positive ≡ map (positive_at code.crossings) (kept_places code.crossings gone)
  pub loops : parts.loops ≡ code.loops + count_by (names_ring name parts.crossings) (arcs code.crossings)
