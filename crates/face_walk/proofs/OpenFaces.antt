-- The faces and pieces of crossings with some of their arcs, given by a partner function.
use Rattle.std.proofs.lemmas.Bool.Decides.{nat_tests}
use Rattle.std.proofs.Common.{◌≡◌, ℕ, ◌+◌, ◌*◌, ◌/◌, ◌%◌, ◌<◌, ◌∙◌, sym, ap, map, arith}
use Rattle.std.specs.Prelude.{slice_index}
use Rattle.std.specs.List.{range_with_len}
use Rattle.kh_types.specs.Classes.{AreBelow, IsNamed}
use Rattle.kh_types.specs.Darts.{IsPairing, face_step, turned}
use Rattle.kh_types.specs.Faces.{open_faces, open_pieces, piece_pair}
use Rattle.kh_types.proofs.ClassLemmas.{classes-together}
use Rattle.kh_types.proofs.JoinedClasses.{IsNamed-classes_of}
use Rattle.kh_types.proofs.WalkLemmas.{AreCycles}
use Rattle.kh_types.specs.Permutations.{IsPermutation}
use Rattle.kh_types.proofs.Cycles.{AreCycles-cycles_of}
use Rattle.kh_types.proofs.RangeImages.{all-map_range, map_range-at}
use Rattle.kh_types.proofs.DartLemmas.{turned-crossing}

-- the place of the dart at the slot behind, and the way back from a face step
abbrev pub turned_back : ℕ → ℕ
turned_back place = 4 * (place / 4) + (place % 4 + 1) % 4

abbrev pub face_back : (ℕ → ℕ) → ℕ → ℕ
face_back partner place = partner (turned_back place)

pub turned-turned_back : (place : ℕ) → turned (turned_back place) ≡ place
turned-turned_back place = omega arith

pub turned-below : (n place : ℕ) → place < 4 * n → turned place < 4 * n
turned-below n place below = omega (arith, below)

pub crossing-below : (n place : ℕ) → place < 4 * n → place / 4 < n
crossing-below n place below = omega (arith, below)

-- the face step is a permutation, and the faces are its cycles
pub IsPermutation-face_step : (n : ℕ) (partner : ℕ → ℕ) → IsPairing (4 * n) partner
    → IsPermutation (4 * n) (face_step partner) (face_back partner)
IsPermutation-face_step n partner pairing = grind (arith, nat_tests)

pub AreCycles-open_faces : (n : ℕ) (partner : ℕ → ℕ) → IsPairing (4 * n) partner
    → AreCycles (4 * n) (face_step partner) (face_back partner) (open_faces n partner)
AreCycles-open_faces n partner pairing =
    AreCycles-cycles_of (4 * n) (face_step partner) (face_back partner) (IsPermutation-face_step n partner pairing)

-- the ends of arcs are at crossings
pub piece_pairs-below : (n : ℕ) (partner : ℕ → ℕ) → IsPairing (4 * n) partner
    → AreBelow n (map (piece_pair partner) (range_with_len 0 (4 * n)))
piece_pairs-below n partner pairing =
    all-map_range (λ (pair : ℕ × ℕ). (pair.0 < n) × (pair.1 < n)) (piece_pair partner) 0 (4 * n)
    (λ x below.
    let small : x < 4 * n = omega (arith, below) in
    (crossing-below n x small, crossing-below n (partner x) (pairing.below x small)))

-- pieces are named by their least crossings
pub IsNamed-open_pieces : (n : ℕ) (partner : ℕ → ℕ) → IsPairing (4 * n) partner → IsNamed n (open_pieces n partner)
IsNamed-open_pieces n partner pairing =
    IsNamed-classes_of n (map (piece_pair partner) (range_with_len 0 (4 * n))) (piece_pairs-below n partner pairing)

-- the two ends of an arc are in one piece
pub open_pieces-ends : (n : ℕ) (partner : ℕ → ℕ) (x : ℕ) → IsPairing (4 * n) partner → x < 4 * n
    → slice_index (open_pieces n partner) (x / 4) ≡ slice_index (open_pieces n partner) (partner x / 4)
open_pieces-ends n partner x pairing below =
    let pieces = open_pieces n partner in
    map_range-at (λ (pair : ℕ × ℕ). slice_index pieces pair.0 ≡ slice_index pieces pair.1) (piece_pair partner) 0 (4 * n) x
    (classes-together n (map (piece_pair partner) (range_with_len 0 (4 * n))) (piece_pairs-below n partner pairing))
    (omega arith) (omega (arith, below))

-- and so are the darts of one face
pub open_faces-in_pieces : (n : ℕ) (partner : ℕ → ℕ) (x y : ℕ) → IsPairing (4 * n) partner → x < 4 * n → y < 4 * n
    → slice_index (open_faces n partner) x ≡ slice_index (open_faces n partner) y
    → slice_index (open_pieces n partner) (x / 4) ≡ slice_index (open_pieces n partner) (y / 4)
open_faces-in_pieces n partner x y pairing x_below y_below same =
    (AreCycles-open_faces n partner pairing).finest (λ z. slice_index (open_pieces n partner) (z / 4))
    (λ z below.
    open_pieces-ends n partner z pairing below
    ∙ ap (λ c. slice_index (open_pieces n partner) c) (sym (turned-crossing (partner z))))
    x y x_below y_below same
