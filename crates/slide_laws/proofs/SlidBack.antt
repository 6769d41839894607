-- A slide of the triangle across leads back; so both numbers, of faces and of pieces, are kept.
--
-- A slide maps the darts so that faces and pieces of the first code meet all those of the second (SlidFaces): there are no more after than
-- before. The slid code has a triangle across, whose slide leads back, so there are no fewer either. Both numbers stay, and with them the
-- sphere.
use Rattle.std.proofs.lemmas.Bool.Decides.{nat_tests}
use Rattle.std.proofs.Common.{◌≡◌, ℕ, ◌*◌, ◌/◌, ◌<◌, ◌≤◌, ◌∙◌, List, length, map, refl, sym, ap, subst, arith}
use Rattle.std.specs.Prelude.{slice_index, IsTrue}
use Rattle.std.specs.List.{range_with_len}
use Rattle.std.proofs.Math.Path.{fun_ext}
use Rattle.kh_types.specs.Acceptance.{accepted}
use Rattle.kh_types.specs.Code.{Code}
use Rattle.kh_types.specs.Classes.{class_count}
use Rattle.kh_types.specs.Darts.{IsPairing, HasArcsTwice, partner_at}
use Rattle.kh_types.specs.Faces.{piece_pair, open_faces, open_pieces, face_count, piece_count, planar_face_count}
use Rattle.kh_types.proofs.ClassLemmas.{classes-together}
use Rattle.kh_types.proofs.DartPairs.{IsPairing-partner_at}
use Rattle.kh_types.proofs.AcceptedLemmas.{HasArcsTwice-accepted}
use Rattle.kh_types.proofs.RangeImages.{all-map_range, map_range-at, map_range-agree}
use Rattle.kh_types.proofs.Ranges.{below_four}
use Rattle.face_walk.proofs.OpenFaces.{piece_pairs-below}
use Rattle.face_walk.proofs.FewFaces.{sphere_faces}
use Rattle.slide_laws.specs.Slid.{on, source, slid}
use Rattle.slide_laws.proofs.Corners.{at_places, AreApart, AreApart-rotated, AreApart-on, on-crossing, on-on, on-zero, source-x, source-rotated, source-outside, source-source, source-below}
use Rattle.slide_laws.proofs.Sides.{HasSides, HasSides-slid, IsPairing-slid, slid_partner}
use Rattle.slide_laws.proofs.SlidArcs.{length-slid, partner_at-slid}
use Rattle.slide_laws.proofs.Onto.{class_count-onto}
use Rattle.slide_laws.proofs.SlidFaces.{open_faces-le}
use Rattle.slide_laws.proofs.Passes.{round}

source-across_x : (x y z : ℕ) → (j : ℕ) → j < 4 → source (on x 2) (on y 2) (on z 2) (on x j) ≡ source x y z (on x j)
source-across_x x y z =
    let across = source (on x 2) (on y 2) (on z 2) in
    below_four (λ j. across (on x j) ≡ source x y z (on x j))
    (ap across (sym (round x 4 0 (omega arith)) ∙ sym (on-on x 2 2)) ∙ source-x (on x 2) (on y 2) (on z 2) 2 (omega arith) ∙ on-on y 2 1
    ∙ sym (source-x x y z 0 (omega arith)))
    (ap across (sym (round x 5 1 (omega arith)) ∙ sym (on-on x 2 3)) ∙ source-x (on x 2) (on y 2) (on z 2) 3 (omega arith)
    ∙ sym (source-x x y z 1 (omega arith)))
    (ap across (sym (on-zero (on x 2))) ∙ source-x (on x 2) (on y 2) (on z 2) 0 (omega arith) ∙ on-on y 2 3 ∙ round y 5 1 (omega arith)
    ∙ sym (source-x x y z 2 (omega arith)))
    (ap across (sym (on-on x 2 1)) ∙ source-x (on x 2) (on y 2) (on z 2) 1 (omega arith) ∙ on-on z 2 2 ∙ round z 4 0 (omega arith)
    ∙ on-zero z ∙ sym (source-x x y z 3 (omega arith)))

pub source-across : (x y z : ℕ) → AreApart x y z → source (on x 2) (on y 2) (on z 2) ≡ source x y z
source-across x y z apart =
    let across_apart = AreApart-on x y z 2 2 2 apart in
    let second = AreApart-rotated x y z apart in
    let across_second = AreApart-rotated (on x 2) (on y 2) (on z 2) across_apart in
    let once = source-rotated x y z apart in
    let twice = once ∙ source-rotated y z x second in
    let across_once = source-rotated (on x 2) (on y 2) (on z 2) across_apart in
    let across_twice = across_once ∙ source-rotated (on y 2) (on z 2) (on x 2) across_second in
    fun_ext (at_places x y z (λ place. source (on x 2) (on y 2) (on z 2) place ≡ source x y z place)
    (source-across_x x y z)
    (λ j below. ap (λ f. f (on y j)) across_once ∙ source-across_x y z x j below ∙ sym (ap (λ f. f (on y j)) once))
    (λ j below. ap (λ f. f (on z j)) across_twice ∙ source-across_x z x y j below ∙ sym (ap (λ f. f (on z j)) twice))
    (λ place outside.
    source-outside (on x 2) (on y 2) (on z 2) place (record {
      not_x = λ is. outside.not_x (is ∙ on-crossing x 2);
      not_y = λ is. outside.not_y (is ∙ on-crossing y 2);
      not_z = λ is. outside.not_z (is ∙ on-crossing z 2);
    })
    ∙ sym (source-outside x y z place outside)))

-- the slide back gives each dart its old partner
pub slid_back : (n : ℕ) (partner : ℕ → ℕ) (x y z : ℕ) → HasSides n partner x y z → (place : ℕ)
    → slid_partner (slid_partner partner x y z) (on x 2) (on y 2) (on z 2) place ≡ partner place
slid_back n partner x y z sides place =
    let back = source-source x y z sides.apart in
    ap (λ f. f (slid_partner partner x y z (f place))) (source-across x y z sides.apart)
    ∙ back (partner (source x y z (source x y z place))) ∙ ap partner (back place)

-- faces

open_faces-agree : (n : ℕ) (partner other : ℕ → ℕ) → ((place : ℕ) → place < 4 * n → partner place ≡ other place)
    → open_faces n partner ≡ open_faces n other
open_faces-agree n partner other same = grind (arith, nat_tests, map_range-agree)

open_pieces-agree : (n : ℕ) (partner other : ℕ → ℕ) → ((place : ℕ) → place < 4 * n → partner place ≡ other place)
    → open_pieces n partner ≡ open_pieces n other
open_pieces-agree n partner other same = grind (arith, nat_tests, map_range-agree)

antisymmetric : (a b : ℕ) → a ≤ b → b ≤ a → a ≡ b
antisymmetric a b le ge = omega (arith, le, ge)

pub open_faces-same : (n : ℕ) (partner : ℕ → ℕ) (x y z : ℕ) → IsPairing (4 * n) partner → HasSides n partner x y z
    → class_count (open_faces n (slid_partner partner x y z)) ≡ class_count (open_faces n partner)
open_faces-same n partner x y z pairing sides =
    let after = slid_partner partner x y z in
    let ge = open_faces-le n after (on x 2) (on y 2) (on z 2) (IsPairing-slid n partner x y z pairing sides)
    (HasSides-slid n partner x y z sides) in
    let returned = ap class_count
    (open_faces-agree n (slid_partner after (on x 2) (on y 2) (on z 2)) partner (λ place below. slid_back n partner x y z sides place)) in
    antisymmetric (class_count (open_faces n after)) (class_count (open_faces n partner)) (subst (λ (k : ℕ). class_count (open_faces n after) ≤ k) returned ge)
    (open_faces-le n partner x y z pairing sides)

-- pieces

crossing-source : (value : ℕ → ℕ) (x y z : ℕ) → AreApart x y z → value (x / 4) ≡ value (y / 4) → value (y / 4) ≡ value (z / 4)
    → (place : ℕ) → value (source x y z place / 4) ≡ value (place / 4)
crossing-source value x y z apart x_y y_z place = grind (arith, nat_tests)

open_pieces-le : (n : ℕ) (partner : ℕ → ℕ) (x y z : ℕ) → IsPairing (4 * n) partner → HasSides n partner x y z
    → class_count (open_pieces n partner) ≤ class_count (open_pieces n (slid_partner partner x y z))
open_pieces-le n partner x y z pairing sides =
    let after = slid_partner partner x y z in
    let value = λ (crossing : ℕ). slice_index (open_pieces n partner) crossing in
    let from = source x y z in
    let below = source-below n x y z sides.apart sides.x_below sides.y_below sides.z_below in
    let ends : (place : ℕ) → place < 4 * n → value (place / 4) ≡ value (partner place / 4) = λ place within.
    map_range-at (λ (pair : ℕ × ℕ). value pair.0 ≡ value pair.1) (piece_pair partner) 0 (4 * n) place
    (classes-together n (map (piece_pair partner) (range_with_len 0 (4 * n))) (piece_pairs-below n partner pairing)) (omega arith)
    (omega (arith, within)) in
    let x_y = ends x sides.x_below ∙ ap (λ k. value (k / 4)) sides.from_x ∙ ap value (on-crossing y 1) in
    let y_z = ends y sides.y_below ∙ ap (λ k. value (k / 4)) sides.from_y ∙ ap value (on-crossing z 1) in
    let keeps = crossing-source value x y z sides.apart x_y y_z in
    class_count-onto n n (map (piece_pair after) (range_with_len 0 (4 * n))) (map (piece_pair partner) (range_with_len 0 (4 * n)))
    (λ crossing. crossing)
    (record {
      below = piece_pairs-below n after (IsPairing-slid n partner x y z pairing sides);
      others_below = piece_pairs-below n partner pairing;
      places = λ crossing within. within;
      keeps = all-map_range (λ (pair : ℕ × ℕ). value pair.0 ≡ value pair.1) (piece_pair after) 0 (4 * n)
          (λ place within.
          let small : place < 4 * n = omega (arith, within) in
          sym (keeps place) ∙ ends (from place) (below place small) ∙ sym (keeps (partner (from place))));
      back = λ crossing. crossing;
      back_below = λ crossing within. within;
      meets = λ crossing within. refl;
    })

pub open_pieces-same : (n : ℕ) (partner : ℕ → ℕ) (x y z : ℕ) → IsPairing (4 * n) partner → HasSides n partner x y z
    → class_count (open_pieces n (slid_partner partner x y z)) ≡ class_count (open_pieces n partner)
open_pieces-same n partner x y z pairing sides =
    let after = slid_partner partner x y z in
    let ge = open_pieces-le n after (on x 2) (on y 2) (on z 2) (IsPairing-slid n partner x y z pairing sides)
    (HasSides-slid n partner x y z sides) in
    let returned = ap class_count
    (open_pieces-agree n (slid_partner after (on x 2) (on y 2) (on z 2)) partner (λ place below. slid_back n partner x y z sides place)) in
    antisymmetric (class_count (open_pieces n after)) (class_count (open_pieces n partner)) (subst (λ (k : ℕ). class_count (open_pieces n after) ≤ k) returned ge)
    (open_pieces-le n partner x y z pairing sides)

-- of a code

pub face_count-slid : (crossings : List (List ℕ)) (x y z : ℕ) → HasArcsTwice crossings
    → HasSides (length crossings) (partner_at crossings) x y z → face_count (slid crossings x y z) ≡ face_count crossings
face_count-slid crossings x y z twice sides =
    let n = length crossings in
    let new = slid crossings x y z in
    ap (λ k. class_count (open_faces k (partner_at new))) (length-slid crossings x y z)
    ∙ ap class_count
    (open_faces-agree n (partner_at new) (slid_partner (partner_at crossings) x y z)
    (λ place below. partner_at-slid crossings x y z place twice sides below))
    ∙ open_faces-same n (partner_at crossings) x y z (IsPairing-partner_at crossings twice) sides

pub piece_count-slid : (crossings : List (List ℕ)) (x y z : ℕ) → HasArcsTwice crossings
    → HasSides (length crossings) (partner_at crossings) x y z → piece_count (slid crossings x y z) ≡ piece_count crossings
piece_count-slid crossings x y z twice sides =
    let n = length crossings in
    let new = slid crossings x y z in
    ap (λ k. class_count (open_pieces k (partner_at new))) (length-slid crossings x y z)
    ∙ ap class_count
    (open_pieces-agree n (partner_at new) (slid_partner (partner_at crossings) x y z)
    (λ place below. partner_at-slid crossings x y z place twice sides below))
    ∙ open_pieces-same n (partner_at crossings) x y z (IsPairing-partner_at crossings twice) sides

pub planar-slid : (code : Code) (x y z : ℕ) → IsTrue (accepted code)
    → HasSides (length code.crossings) (partner_at code.crossings) x y z
    → face_count (slid code.crossings x y z) ≡ planar_face_count (slid code.crossings x y z)
planar-slid code x y z is sides =
    grind (arith, nat_tests, HasArcsTwice-accepted, face_count-slid, sphere_faces, length-slid, piece_count-slid)
