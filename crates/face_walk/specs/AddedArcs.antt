-- Crossings with some of their arcs, given by a partner function of the places of their darts, in which a dart without an arc is
-- its own partner; and arcs that are added.
use Rattle.std.specs.Prelude.{◌≡◌, ◌≢◌, ℕ, ◌⊎◌, ◌+◌, ◌*◌, ◌/◌, ◌<◌, nat_eq, Bool, if◌then◌else◌}
use Rattle.std.specs.List.{count_by, range_with_len}
use Rattle.kh_types.specs.Classes.{class_count}
use Rattle.kh_types.specs.Faces.{open_faces, open_pieces}
use Rattle.kh_types.specs.Permutations.{AreJoined}

-- whether the dart at a place is open: it has no arc
abbrev pub is_open : (ℕ → ℕ) → ℕ → Bool
is_open partner place = nat_eq (partner place) place

-- the number of open darts of n crossings
abbrev pub open_dart_count : ℕ → (ℕ → ℕ) → ℕ
open_dart_count n partner = count_by (is_open partner) (range_with_len 0 (4 * n))

-- the number of faces
abbrev pub open_face_count : ℕ → (ℕ → ℕ) → ℕ
open_face_count n partner = class_count (open_faces n partner)

-- the number of pieces
abbrev pub open_piece_count : ℕ → (ℕ → ℕ) → ℕ
open_piece_count n partner = class_count (open_pieces n partner)

-- n crossings in k pieces with a arcs are planar where they have a + 2k - n faces, as on the sphere (Euler's formula); the open
-- darts are 4n - 2a, and say the number of arcs
abbrev pub IsPlanar : ℕ → (ℕ → ℕ) → Type 0
IsPlanar n partner = 2 * open_face_count n partner + open_dart_count n partner ≡ 2 * n + 4 * open_piece_count n partner

-- bare crossings have no arcs: each dart is its own partner
abbrev pub bare : ℕ → ℕ
bare place = place

-- a partner function with an arc more, between two darts
abbrev pub with_arc : (ℕ → ℕ) → ℕ → ℕ → ℕ → ℕ
with_arc partner dart other place = if nat_eq place dart then other else (if nat_eq place other then dart else partner place)

-- of the darts at the places below m, two that were open have become partners, and all others have kept theirs
pub record HasArcMore (m : ℕ) (before after : ℕ → ℕ) (dart other : ℕ) : Type 0 where
  pub dart_below : dart < m
  pub other_below : other < m
  pub apart : dart ≢ other
  pub dart_open : before dart ≡ dart
  pub other_open : before other ≡ other
  pub dart_after : after dart ≡ other
  pub other_after : after other ≡ dart
  pub others : (place : ℕ) → place < m → place ≢ dart → place ≢ other → after place ≡ before place

-- an arc between two pieces makes one piece of the two, and one face of two
pub record UnitesPieces (n : ℕ) (before after : ℕ → ℕ) (dart other : ℕ) : Type 0 where
  pub pieces : AreJoined (open_pieces n before) (open_pieces n after) (dart / 4) (other / 4)
  pub faces : AreJoined (open_faces n before) (open_faces n after) dart other

-- an arc inside a piece leaves the pieces, and makes one face of two, or two of one
pub record StaysInPiece (n : ℕ) (before after : ℕ → ℕ) (dart other : ℕ) : Type 0 where
  pub pieces : open_pieces n after ≡ open_pieces n before
  pub faces : AreJoined (open_faces n before) (open_faces n after) dart other
      ⊎ AreJoined (open_faces n after) (open_faces n before) dart other

-- a part has some of the arcs of a whole: each dart below m has its partner there, or is open
abbrev pub IsPart : ℕ → (ℕ → ℕ) → (ℕ → ℕ) → Type 0
IsPart m part whole = (place : ℕ) → place < m → (part place ≡ whole place) ⊎ (part place ≡ place)
