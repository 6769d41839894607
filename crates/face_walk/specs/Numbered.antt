-- What the faces of a diagram keep.
use Rattle.std.specs.Prelude.{◌≡◌, ◌≤◌, ℕ, List, length, map, IsTrue}
use Rattle.kh_types.specs.Acceptance.{accepted}
use Rattle.kh_types.specs.Code.{Code}
use Rattle.kh_types.specs.Darts.{darts}
use Rattle.kh_types.specs.Faces.{face_count}
use Rattle.kh_types.specs.declared.limits.TheConstants.{CROSSINGS}
use Rattle.face_walk.specs.FaceNumbers.{face_number}
use Rattle.face_walk.specs.declared.numbered.Faces.TheInside.{Inside}

-- the numbers of the faces of all darts, in order
abbrev pub face_numbers : List (List ℕ) → List ℕ
face_numbers crossings = map (face_number crossings) (darts crossings)

-- contracts see the code of the diagram
abbrev pub code_of_faces : Inside → Code
code_of_faces faces = faces.diagram

-- the diagram's code is accepted and within the limits; for each dart the number of its face is kept, and how many faces there are
pub record AreNumberedFaces (faces : Inside) : Type 0 where
  pub code : IsTrue (accepted faces.diagram)
  pub few : length faces.diagram.crossings ≤ CROSSINGS
  pub numbers : faces.numbers.items ≡ face_numbers faces.diagram.crossings
  pub count : faces.count ≡ face_count faces.diagram.crossings
