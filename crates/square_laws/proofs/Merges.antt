-- Two circles become one: which arcs come together, and which stay apart.
use Rattle.std.proofs.lemmas.Bool.Decides.{nat_tests}
use Rattle.std.proofs.Common.{◌≡◌, ℕ, inl, inr, arith, Bool, true, false, IsTrue}
use Rattle.std.specs.Prelude.{min, max, slice_index}
use Rattle.std.proofs.lemmas.Bool.{cases_eq}
use Rattle.kh_types.specs.Acceptance.{accepted}
use Rattle.kh_types.specs.Bits.{bit}
use Rattle.kh_types.specs.Classes.{merged}
use Rattle.kh_types.specs.Code.{Code, IsCrossing, place_of}
use Rattle.kh_types.specs.Circles.{circles_of}
use Rattle.kh_types.specs.CircleNumbers.{IsName}
use Rattle.kh_types.specs.Edges.{TwoBecomeOne, arc_at_slot, state_behind}
use Rattle.kh_types.proofs.EdgeNames.{IsArc-slot, IsJoin, IsJoin-edge}
use Rattle.kh_types.proofs.CircleNumbers.{IsName-arc}
use Rattle.kh_types.proofs.ClassLemmas.{merged-greatest, merged-kept}
use Rattle.square_laws.specs.Squares.{Merges, circle_at_slot}

-- the circle of an arc or a loop in a state
abbrev pub circle_in : Code → ℕ → ℕ → ℕ
circle_in code state arc = slice_index (circles_of code state) arc

-- what is used of a merge: the arcs at slots 0 and 2 are arcs, their circles become one, and what this means for all arcs and names
pub record IsMerge (code : Code) (before after crossing : ℕ) : Type 0 where
  pub first : IsName code (arc_at_slot code crossing 0)
  pub third : IsName code (arc_at_slot code crossing 2)
  pub join : Merges code before after crossing
  pub one : (arc : ℕ) → circle_in code after arc
      ≡ merged (circle_at_slot code before crossing 0) (circle_at_slot code before crossing 2) (circle_in code before arc)
  pub circles : TwoBecomeOne code before after crossing
      (min (circle_at_slot code before crossing 0) (circle_at_slot code before crossing 2))
      (max (circle_at_slot code before crossing 0) (circle_at_slot code before crossing 2))

-- an edge that merges, or splits
abbrev pub IsSwitch : Bool → Code → ℕ → ℕ → ℕ → Type 0
IsSwitch true code before after crossing = IsMerge code before after crossing
IsSwitch false code before after crossing = IsMerge code after before crossing

IsMerge-join : (code : Code) (before after crossing : ℕ) → IsTrue (accepted code) → IsCrossing code.crossings crossing
    → IsJoin code before after crossing → IsMerge code before after crossing
IsMerge-join code before after crossing is is_crossing join =
    grind (arith, nat_tests, IsName-arc, IsArc-slot, cases_eq, merged-greatest, merged-kept)

-- each edge of an accepted code merges or splits
pub switch-edge : (code : Code) (state crossing : ℕ) → IsTrue (accepted code) → IsCrossing code.crossings crossing
    → bit state (place_of crossing) ≡ 0 → (merges : Bool) × IsSwitch merges code state (state_behind state crossing) crossing
switch-edge code state crossing is is_crossing zero =
    elim (IsJoin-edge code state crossing is is_crossing zero) [
      | inl join ↦ (true, IsMerge-join code state (state_behind state crossing) crossing is is_crossing join)
      | inr join ↦ (false, IsMerge-join code (state_behind state crossing) state crossing is is_crossing join)
    ]
