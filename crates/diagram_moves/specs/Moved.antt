-- The Reidemeister moves of codes: the code that a move leaves, or the least numbered fault.
use Rattle.std.specs.Prelude.{◌≡◌, ◌≢◌, ℕ, Bool, true, false, not, Option, Some, None, Result, Ok, Err, unwrap_or}
use Rattle.kh_types.specs.Code.{Code, place_of}
use Rattle.kh_types.specs.Faces.{face_count, planar_face_count}
use Rattle.kink_and_finger_laws.specs.Drops.{without_kink, without_finger}
use Rattle.kink_and_finger_laws.specs.FingerAdd.{with_finger, AreOfTwoPieces}
use Rattle.kink_and_finger_laws.specs.KinkAdds.{with_kink}
use Rattle.slide_laws.specs.Triangles.{slide_slot}
use Rattle.orient_arcs.specs.Renumbered.{renumber}
use Rattle.diagram_moves.specs.SlideSteps.{slid_parts_at}
use Rattle.diagram_moves.specs.MoveFaults.{kink_add_fault, kink_drop_fault, finger_add_fault, finger_place_fault, finger_drop_fault, slide_fault}
use Rattle.diagram_moves.specs.declared.change.Side.{Side}
use Rattle.diagram_moves.specs.declared.change.Side.TheVariants.{Left, Right}
use Rattle.diagram_moves.specs.declared.change.Move.{Move}
use Rattle.diagram_moves.specs.declared.change.Move.TheVariants.{KinkAdd, KinkDrop, FingerAdd, FingerDrop, Slide}
use Rattle.diagram_moves.specs.declared.fault.MoveFault.{MoveFault}

abbrev pub is_left : Side → Bool
is_left Left = true
is_left Right = false

-- a fault, or the code
abbrev pub answered : Option MoveFault → Code → Result Code MoveFault
answered (Some fault) code = Err fault
answered None code = Ok code

-- the code after a slide at the triangle of a slot of a crossing
abbrev pub slid_from : Code → ℕ → ℕ → Code
slid_from code crossing slot = renumber (slid_parts_at code crossing slot)

-- among the triangles whose slots do not have one parity the one with the least slot at the first crossing is taken
abbrev pub slid_at : Code → ℕ → ℕ → ℕ → Code
slid_at code first second third = slid_from code first (unwrap_or (slide_slot code.crossings first second third) 0)

-- the code that a move leaves, or the first fault
unfoldable pub moved : Code → Move → Result Code MoveFault
moved code (KinkAdd arc under_first positive) = answered (kink_add_fault code arc) (with_kink (not under_first) positive arc code)
moved code (KinkDrop crossing) = answered (kink_drop_fault code crossing) (renumber (without_kink code (place_of crossing)))
moved code (FingerAdd over over_side under under_side) =
    answered (finger_add_fault code over (is_left over_side) under (is_left under_side))
    (with_finger code over (is_left over_side) under (is_left under_side))
moved code (FingerDrop first second) =
    answered (finger_drop_fault code first second) (renumber (without_finger code (place_of first) (place_of second)))
moved code (Slide first second third) = answered (slide_fault code first second third) (slid_at code first second third)

-- a finger whose arcs can be taken leaves a code that has other than as many faces as a drawing on the sphere, n + 2k
pub record HasWrongFaces (code : Code) (over : ℕ) (over_left : Bool) (under : ℕ) (under_left : Bool) (faces wanted : ℕ) : Type 0 where
  pub places : finger_place_fault code over under ≡ None
  pub faces_are : faces ≡ face_count (with_finger code over over_left under under_left).crossings
  pub wanted_are : wanted ≡ planar_face_count (with_finger code over over_left under under_left).crossings
  pub differ : faces ≢ wanted

-- a move that adds a finger which leaves the sphere, with the faces of the code that results and of a drawing on the sphere
abbrev pub LeavesSphere : Code → Move → ℕ → ℕ → Type 0
LeavesSphere code (FingerAdd over over_side under under_side) faces wanted =
    HasWrongFaces code over (is_left over_side) under (is_left under_side) faces wanted
LeavesSphere code (KinkAdd arc under_first positive) faces wanted = ⊥
LeavesSphere code (KinkDrop crossing) faces wanted = ⊥
LeavesSphere code (FingerDrop first second) faces wanted = ⊥
LeavesSphere code (Slide first second third) faces wanted = ⊥

-- a move that adds a finger between arcs of two pieces
abbrev pub JoinsPieces : Code → Move → Type 0
JoinsPieces code (FingerAdd over over_side under under_side) = AreOfTwoPieces code.crossings over under
JoinsPieces code (KinkAdd arc under_first positive) = ⊥
JoinsPieces code (KinkDrop crossing) = ⊥
JoinsPieces code (FingerDrop first second) = ⊥
JoinsPieces code (Slide first second third) = ⊥
