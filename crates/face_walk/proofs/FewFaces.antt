-- How many faces codes have.
use Rattle.std.proofs.lemmas.Bool.Decides.{nat_tests}
use Rattle.std.proofs.Common.{◌≡◌, ◌≢◌, ℕ, ◌<◌, ◌≤◌, List, length, arith, eqb-true}
use Rattle.std.specs.Prelude.{◌↔◌, IsTrue, None}
use Rattle.std.proofs.lemmas.Bool.{cases_eq}
use Rattle.kh_types.specs.Acceptance.{accepted, genus_fault}
use Rattle.kh_types.specs.Code.{Code}
use Rattle.kh_types.specs.Darts.{HasArcsTwice, partner_at}
use Rattle.kh_types.specs.Faces.{face_count, piece_count, planar_face_count}
use Rattle.kh_types.proofs.AcceptedLemmas.{HasArcsTwice-accepted, IsAccepted-is, genus_fault-none}
use Rattle.kh_types.proofs.DartPairs.{IsOtherPlace-partner_at, IsPairing-partner_at}
use Rattle.kh_types.proofs.RangeCounts.{found-counted}
use Rattle.face_walk.specs.AddedArcs.{IsPlanar, open_dart_count}
use Rattle.face_walk.proofs.PartArcs.{planar-bound}

-- where each arc stands twice no dart is open
pub open_dart_count-twice : (crossings : List (List ℕ)) → HasArcsTwice crossings
    → open_dart_count (length crossings) (partner_at crossings) ≡ 0
open_dart_count-twice crossings twice = grind (arith, nat_tests, cases_eq, found-counted, IsOtherPlace-partner_at, eqb-true)

-- so the faces are at most as many as on the sphere
pub face_count-le : (crossings : List (List ℕ)) → HasArcsTwice crossings → face_count crossings ≤ planar_face_count crossings
face_count-le crossings twice = grind (arith, nat_tests, planar-bound, IsPairing-partner_at, open_dart_count-twice)

-- and as many exactly where the partner function is planar
pub IsPlanar-twice : (crossings : List (List ℕ)) → HasArcsTwice crossings
    → IsPlanar (length crossings) (partner_at crossings) ↔ (face_count crossings ≡ planar_face_count crossings)
IsPlanar-twice crossings twice = grind (arith, nat_tests, open_dart_count-twice)

-- the rule of faces is broken exactly where they are fewer
pub genus_fault-fewer : (crossings : List (List ℕ)) → HasArcsTwice crossings
    → (genus_fault crossings ≢ None) ↔ (face_count crossings < planar_face_count crossings)
genus_fault-fewer crossings twice = grind (arith, nat_tests, genus_fault-none, face_count-le, cases_eq)

-- an accepted code

pub sphere_faces : (code : Code) → IsTrue (accepted code) → face_count code.crossings ≡ planar_face_count code.crossings
sphere_faces code is = ((IsAccepted-is code).0 is).faces

pub IsPlanar-accepted : (code : Code) → IsTrue (accepted code) → IsPlanar (length code.crossings) (partner_at code.crossings)
IsPlanar-accepted code is = (IsPlanar-twice code.crossings (HasArcsTwice-accepted code is)).1 (sphere_faces code is)

-- has as many faces as any code of as many crossings in as many pieces
pub face_count-most : (code : Code) (others : List (List ℕ)) → IsTrue (accepted code) → HasArcsTwice others
    → length others ≡ length code.crossings → piece_count others ≡ piece_count code.crossings
    → face_count others ≤ face_count code.crossings
face_count-most code others is twice crossings pieces = grind (arith, nat_tests, face_count-le, sphere_faces)
