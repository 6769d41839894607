-- Kinks and fingers that are added, crossing by crossing.
use Rattle.std.specs.Prelude.{◌≢◌, ◌≤◌, ℕ, ◌+◌, List, length}
use Rattle.kh_types.specs.Code.{Code, IsArc}
use Rattle.kh_types.specs.declared.limits.TheConstants.{CROSSINGS}
use Rattle.kh_types.specs.Directions.{is_positive}
use Rattle.kink_and_finger_laws.specs.KinkAdds.{kinked_slots}
use Rattle.code_passes.specs.Parts.{slots_in}

-- the crossing at a place, on the arcs after a kink
abbrev pub kinked_there : List (List ℕ) → ℕ → ℕ → List ℕ
kinked_there crossings a place = kinked_slots a (is_positive crossings (place + 1)) (slots_in crossings place)

-- a finger can be put on two arcs: they are different ones, and there is room for two crossings more
pub record AreTakenArcs (code : Code) (over under : ℕ) : Type 0 where
  pub over_arc : IsArc code.crossings over
  pub under_arc : IsArc code.crossings under
  pub apart : over ≢ under
  pub room : length code.crossings + 2 ≤ CROSSINGS

-- a kink can be put on an arc: it is one, and there is room for a crossing more
pub record IsTakenArc (code : Code) (arc : ℕ) : Type 0 where
  pub is_arc : IsArc code.crossings arc
  pub room : length code.crossings + 1 ≤ CROSSINGS
