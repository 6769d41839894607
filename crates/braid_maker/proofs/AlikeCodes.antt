-- Codes whose slots hold one name at the same darts have the same partners, and so the same faces and pieces.
use Rattle.std.proofs.Common.{◌≡◌, ℕ, ◌+◌, ◌*◌, ◌/◌, ◌%◌, ◌^◌, ◌<◌, ◌∙◌, List, length, sym, ap, subst, arith, Bool}
use Rattle.kh_types.specs.Classes.{class_count, classes_of}
use Rattle.kh_types.specs.Checkerboard.{IsCheckerboard}
use Rattle.kh_types.specs.Darts.{HasArcsTwice, partner_at, turned}
use Rattle.kh_types.specs.Faces.{face_count, face_pair, piece_pair, planar_face_count, open_faces, open_pieces, faces_of, pieces_of}
use Rattle.kh_types.proofs.DartPairs.{IsOtherPlace-partner_at, partner_at-only}
use Rattle.kh_types.proofs.RangeImages.{map_range-agree}
use Rattle.gluing_laws.specs.Alike.{AreAlike}
use Rattle.braid_maker.specs.Words.{closed_crossings}
use Rattle.braid_maker.proofs.ChoiceBits.{choice_of}
use Rattle.braid_maker.proofs.Choices.{IsCheckerboard-parity, choice-below, parity_at, parity-partner}
use Rattle.braid_maker.proofs.Corners.{length-crossings}
use Rattle.braid_maker.proofs.Faces.{face_count-braid}
use Rattle.braid_maker.proofs.Partners.{HasArcsTwice-braid}

pub partner_at-alike : (crossings others : List (List ℕ)) (place : ℕ) → AreAlike crossings others → HasArcsTwice crossings
    → HasArcsTwice others → place < 4 * length crossings → partner_at others place ≡ partner_at crossings place
partner_at-alike crossings others place alike twice others_twice below =
    let partner = IsOtherPlace-partner_at crossings place twice below in
    sym
    (partner_at-only others place (partner_at crossings place) others_twice (omega (arith, alike.size, below))
    (record {
      below = omega (arith, alike.size, partner.below);
      differs = partner.differs;
      same_arc = alike.onward (partner_at crossings place) place partner.below below partner.same_arc;
    }))

abbrev pair_to : ℕ → ℕ → ℕ × ℕ
pair_to place other = (place, other)

pub faces_of-alike : (crossings others : List (List ℕ)) → AreAlike crossings others → HasArcsTwice crossings
    → HasArcsTwice others → faces_of others ≡ faces_of crossings
faces_of-alike crossings others alike twice others_twice =
    let m = 4 * length crossings in
    ap (λ k. open_faces k (partner_at others)) alike.size
    ∙ ap (classes_of m)
    (map_range-agree (face_pair (partner_at others)) (face_pair (partner_at crossings)) 0 m
    (λ place below. ap (λ p. pair_to place (turned p)) (partner_at-alike crossings others place alike twice others_twice (omega (arith, below)))))

pub pieces_of-alike : (crossings others : List (List ℕ)) → AreAlike crossings others → HasArcsTwice crossings
    → HasArcsTwice others → pieces_of others ≡ pieces_of crossings
pieces_of-alike crossings others alike twice others_twice =
    let m = 4 * length crossings in
    ap (λ k. open_pieces k (partner_at others)) alike.size
    ∙ ap (classes_of (length crossings))
    (map_range-agree (piece_pair (partner_at others)) (piece_pair (partner_at crossings)) 0 m
    (λ place below. ap (λ p. pair_to (place / 4) (p / 4)) (partner_at-alike crossings others place alike twice others_twice (omega (arith, below)))))

-- what is alike to a closed braid has a checkerboard choice, the braid's own
pub IsCheckerboard-alike_braid : (n : ℕ) (left : ℕ → ℕ) (is_over : ℕ → Bool) (others : List (List ℕ))
    → AreAlike (closed_crossings n left is_over) others → HasArcsTwice others → IsCheckerboard others
IsCheckerboard-alike_braid n left is_over others alike twice =
    let crossings = closed_crossings n left is_over in
    let choice = choice_of n left is_over in
    let size = length-crossings n left is_over in
    let same_size : length others ≡ n = alike.size ∙ size in
    IsCheckerboard-parity others choice twice
    (subst (λ (k : ℕ). choice < 2 ^ k) (sym same_size) (choice-below n left is_over))
    (λ dart below.
    ap (λ p. (parity_at choice dart + parity_at choice p) % 2)
    (partner_at-alike crossings others dart alike (HasArcsTwice-braid n left is_over) twice (omega (arith, below, same_size, size)))
    ∙ parity-partner n left is_over dart (omega (arith, below, same_size)))

-- and as many faces as on the sphere
pub face_count-alike_braid : (n bound : ℕ) (left : ℕ → ℕ) (is_over : ℕ → Bool) (others : List (List ℕ))
    → AreAlike (closed_crossings n left is_over) others → HasArcsTwice others → ((x : ℕ) → x < n → left x + 1 < bound)
    → face_count others ≡ planar_face_count others
face_count-alike_braid n bound left is_over others alike twice within =
    let crossings = closed_crossings n left is_over in
    let braid_twice = HasArcsTwice-braid n left is_over in
    omega (
      arith,
      ap class_count (faces_of-alike crossings others alike braid_twice twice),
      ap class_count (pieces_of-alike crossings others alike braid_twice twice),
      alike.size,
      face_count-braid n bound left is_over within,
    )
