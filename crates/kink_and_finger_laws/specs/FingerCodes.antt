-- Codes to which a finger was added.
use Rattle.std.specs.Prelude.{◌≡◌, ℕ, ◌+◌, ◌*◌, ◌<◌, List, [], ◌∷◌, ◌++◌, length, slice_index_or, Bool}
use Rattle.kh_types.specs.Code.{Code}
use Rattle.kh_types.specs.Directions.{plus_count, minus_count}
use Rattle.gluing_laws.specs.Arcs.{arc_by_place}
use Rattle.gluing_laws.specs.Codes.{name_count, arc_of_dart, HoldsArcs}
use Rattle.gluing_laws.specs.Slides.{IsPlacedTriangle, IsNoSide}
use Rattle.kink_and_finger_laws.specs.Fingers.{finger, HasFinger}
use Rattle.gluing_laws.specs.SlidCodes.{Shows}

-- a code after a finger was added: the old crossings stand on the new arcs, which low takes back to the old, and touch no middle arc
-- of the finger; its two crossings are the last; there are a positive and a negative crossing more
pub record IsWithFinger (is_positive in_order : Bool) (old new : Code) (arcs low : ℕ → ℕ) : Type 0 where
  pub moved : List (List ℕ)
  pub first : List ℕ
  pub second : List ℕ
  pub size : length moved ≡ length old.crossings
  pub crossings : new.crossings ≡ (moved ++ first ∷ []) ++ second ∷ []
  pub shows_first : Shows arcs first (slice_index_or (finger is_positive in_order) 0 [])
  pub shows_second : Shows arcs second (slice_index_or (finger is_positive in_order) 1 [])
  pub placed : IsPlacedTriangle (name_count old + 5) arcs
  pub holds : HoldsArcs old
  pub new_holds : HoldsArcs new
  pub moved_holds : (place slot : ℕ) → place < length old.crossings → slot < 4 → arc_by_place moved place slot < name_count old + 5
  pub sides : (place slot : ℕ) → place < length old.crossings → slot < 4 → IsNoSide arcs (arc_by_place moved place slot)
  pub arcs_lowered : HasFinger (4 * length old.crossings) arcs low (arc_of_dart old.crossings) (arc_of_dart moved)
  pub loops : new.loops ≡ old.loops
  pub plus : plus_count new.crossings ≡ plus_count old.crossings + 1
  pub minus : minus_count new.crossings ≡ minus_count old.crossings + 1
