-- Crossings over arc names that may be any numbers, on the sphere: what moves leave before the arcs are numbered anew.
use Rattle.std.specs.Prelude.{◌≡◌, ◌≢◌, ℕ, ◌+◌, ◌*◌, ◌/◌, ◌%◌, ◌<◌, List, length}
use Rattle.kh_types.specs.Darts.{IsPairing}
use Rattle.face_walk.specs.AddedArcs.{IsPlanar}
use Rattle.gluing_laws.specs.Codes.{arc_of_dart}

-- a choice of one bit for each place colours the darts so that two darts of one name, if they are two, have different colours
abbrev pub HasColours : List (List ℕ) → (ℕ → ℕ) → Type 0
HasColours crossings choice = (x y : ℕ) → x < 4 * length crossings → y < 4 * length crossings → x ≢ y
    → arc_of_dart crossings x ≡ arc_of_dart crossings y → (choice (x / 4) + x % 4 + (choice (y / 4) + y % 4)) % 2 ≡ 1

-- a partner function joins darts of one name, none with itself, and is planar: as many faces as on the sphere
pub record IsPlanarBy (crossings : List (List ℕ)) (partner : ℕ → ℕ) : Type 0 where
  pub pairing : IsPairing (4 * length crossings) partner
  pub other : (x : ℕ) → x < 4 * length crossings → partner x ≢ x
  pub name : (x : ℕ) → x < 4 * length crossings → arc_of_dart crossings (partner x) ≡ arc_of_dart crossings x
  pub planar : IsPlanar (length crossings) partner
