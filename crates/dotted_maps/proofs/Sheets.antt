-- The faces of sheets, and what sheets are closed: a sheet is the surface between two pairings and what is joined outside. Marked
-- faces lie at their places whatever the marks are, and the discs along circles at some places are such faces. So faces at the
-- least points of discs and circles are at points that are alive, and a sheet with them is placed. How many faces are on a
-- component depends on their places alone; so a sheet that is closed is so with all faces at the same places, in any order. The
-- faces of a term are at the discs of both pairings and at the circles of each.
use Rattle.std.proofs.Common.{◌≡◌, ℕ, ◌+◌, ◌-◌, ◌*◌, ◌∙◌, List, [], ◌∷◌, ◌++◌, map, refl, sym, ap, ap₂, arith}
use Rattle.std.specs.List.{enumerate_from, sum_by, AllByRecursion, Contains}
use Rattle.std.specs.List.Sorted.{IsPermutation}
use Rattle.std.proofs.lemmas.List.{map-append}
use Rattle.std.proofs.lemmas.List.Sorted.{sum_by-IsPermutation}
use Rattle.kh_types.specs.Bits.{bit}
use Rattle.kh_types.proofs.ListSums.{sum_by-map}
use Rattle.surface_laws.specs.Surfaces.{component_of, faces_on, lowers_on, IsClosed, IsPlaced}
use Rattle.surface_laws.specs.Cuts.{first_caps, second_caps}
use Rattle.surface_laws.specs.Overlays.{at_places}
use Rattle.surface_laws.proofs.JoinedCounts.{amount_at}
use Rattle.surface_laws.proofs.OneCut.{place_of_face, itself, one_place}
use Rattle.surface_laws.specs.Points.{Points, ArePlaced, AreAmong, least_points, discs, circles}
use Rattle.surface_laws.specs.Sheets.{marked, marked_else, sheet}
use Rattle.dotted_maps.specs.Terms.{term_faces}
use Rattle.dotted_maps.proofs.LeastPoints.{AreBelow-among, AreAmong-append, AreAmong-wider, least-contained}
use Rattle.surface_laws.proofs.Components.{AllByRecursion-weaker, AllByRecursion-at}

-- a face at a place, and a disc on either side of a circle

abbrev disc_at : ℕ → ℕ × ℕ → ℕ × ℕ
disc_at number at = (at.1, bit number at.0)

abbrev other_disc_at : ℕ → ℕ × ℕ → ℕ × ℕ
other_disc_at number at = (at.1, 2 * (1 - bit number at.0))

abbrev first_cap : ℕ → ℕ × (ℕ × ℕ) → ℕ × ℕ
first_cap number at = (at.1.0, bit number at.0)

abbrev second_cap : ℕ → ℕ × (ℕ × ℕ) → ℕ × ℕ
second_cap number at = (at.1.1, 2 * (1 - bit number at.0))

-- the places of marked faces

marked-from : (places : List ℕ) (number k : ℕ)
    → map place_of_face (map (disc_at number) (enumerate_from k places)) ≡ places
marked-from [] number k = refl
marked-from (x ∷ places) number k = ap (λ (xs : List ℕ). x ∷ xs) (marked-from places number (k + 1))

marked_else-from : (places : List ℕ) (number k : ℕ)
    → map place_of_face (map (other_disc_at number) (enumerate_from k places)) ≡ places
marked_else-from [] number k = refl
marked_else-from (x ∷ places) number k = ap (λ (xs : List ℕ). x ∷ xs) (marked_else-from places number (k + 1))

pub places-marked : (number : ℕ) (places : List ℕ) → map place_of_face (marked number places) ≡ places
places-marked number places = marked-from places number 0

pub places-marked_else : (number : ℕ) (places : List ℕ) → map place_of_face (marked_else number places) ≡ places
places-marked_else number places = marked_else-from places number 0

-- the discs along circles at places are such faces

first-from : (places : List ℕ) (number k : ℕ)
    → map (first_cap number) (enumerate_from k (at_places places))
    ≡ map (disc_at number) (enumerate_from k places)
first-from [] number k = refl
first-from (x ∷ places) number k =
    ap (λ (faces : List (ℕ × ℕ)). (x, bit number k) ∷ faces) (first-from places number (k + 1))

second-from : (places : List ℕ) (number k : ℕ)
    → map (second_cap number) (enumerate_from k (at_places places))
    ≡ map (other_disc_at number) (enumerate_from k places)
second-from [] number k = refl
second-from (x ∷ places) number k =
    ap (λ (faces : List (ℕ × ℕ)). (x, 2 * (1 - bit number k)) ∷ faces) (second-from places number (k + 1))

pub first_caps-marked : (number : ℕ) (places : List ℕ) → first_caps (at_places places) number ≡ marked number places
first_caps-marked number places = first-from places number 0

pub second_caps-marked : (number : ℕ) (places : List ℕ) → second_caps (at_places places) number ≡ marked_else number places
second_caps-marked number places = second-from places number 0

-- faces whose places are among others

pub placed-faces : (points : List ℕ) (faces : List (ℕ × ℕ)) → AllByRecursion (λ x. Contains points x) (map place_of_face faces)
    → AllByRecursion (λ face. Contains points face.0) faces
placed-faces points [] all = tt
placed-faces points (face ∷ faces) all = (all.0, placed-faces points faces all.1)

pub placed-marked : (number size : ℕ) (points : List ℕ) (joins : List (ℕ × ℕ))
    → AllByRecursion (λ face. Contains points face.0) (marked number (least_points size points joins))
placed-marked number size points joins =
    placed-faces points (marked number (least_points size points joins))
    (rw (places-marked number (least_points size points joins)) (least-contained size points joins))

pub placed-marked_else : (number size : ℕ) (points : List ℕ) (joins : List (ℕ × ℕ))
    → AllByRecursion (λ face. Contains points face.0) (marked_else number (least_points size points joins))
placed-marked_else number size points joins =
    placed-faces points (marked_else number (least_points size points joins))
    (rw (places-marked_else number (least_points size points joins)) (least-contained size points joins))

-- what holds of all of some lists holds of all of their faces
pub faces-alive : (points : Points) (faces : List (ℕ × ℕ)) → ArePlaced points → AllByRecursion (λ face. Contains points.opened face.0) faces
    → AllByRecursion (λ face. Contains points.alive face.0) faces
faces-alive points faces placed all =
    AllByRecursion-weaker (λ face. Contains points.opened face.0) (λ face. Contains points.alive face.0) faces
    (λ face has. opened-alive points face.0 placed has) all
  where
    opened-alive : (points : Points) (x : ℕ) → ArePlaced points → Contains points.opened x → Contains points.alive x
    opened-alive points x placed has = AllByRecursion-at (λ y. Contains points.alive y) points.opened x placed.opened has

pub opened-alive : (points : Points) (x : ℕ) → ArePlaced points → Contains points.opened x → Contains points.alive x
opened-alive points x placed has = AllByRecursion-at (λ y. Contains points.alive y) points.opened x placed.opened has

pub pairing-alive : (points : Points) (m : List (ℕ × ℕ)) → ArePlaced points → AreAmong points.opened m → AreAmong points.alive m
pairing-alive points m placed among = AreAmong-wider points.opened points.alive m (λ x has. opened-alive points x placed has) among

pub sheet-among : (points : Points) (m n w : List (ℕ × ℕ)) → ArePlaced points → AreAmong points.opened m → AreAmong points.opened n
    → AreAmong points.alive w → AreAmong points.alive (m ++ (n ++ w))
sheet-among points m n w placed first second outside =
    AreAmong-append points.alive m (n ++ w) (pairing-alive points m placed first)
    (AreAmong-append points.alive n w (pairing-alive points n placed second) outside)

pub IsPlaced-sheet : (points : Points) (m n w faces : List (ℕ × ℕ)) → ArePlaced points → AreAmong points.opened m
    → AreAmong points.opened n → AreAmong points.alive w → AllByRecursion (λ face. Contains points.alive face.0) faces
    → IsPlaced (sheet points m n w faces)
IsPlaced-sheet points m n w faces placed first second outside all = record {
  joins = AreBelow-among points.size points.alive (m ++ (n ++ w)) placed.alive (sheet-among points m n w placed first second outside);
  places = placed.alive;
  faces = all;
  lowers = placed.opened;
  raises = tt;
}

-- whether a sheet is closed depends on the places of its faces alone, in any order

pub faces-at : (points : Points) (m n w faces : List (ℕ × ℕ)) (k : ℕ)
    → faces_on (sheet points m n w faces) k
    ≡ sum_by (amount_at (sheet points m n w []) k itself one_place) (map place_of_face faces)
faces-at points m n w faces k = sym (sum_by-map (amount_at (sheet points m n w []) k itself one_place) place_of_face faces)

has-faces : (f g l genus : ℕ) → f ≡ g → 2 * f + 0 + 4 * genus ≡ l + 4 → 2 * g + 0 + 4 * genus ≡ l + 4
has-faces f g l genus same has = omega (arith, same, has)

pub IsClosed-sheet : (points : Points) (m n w faces others : List (ℕ × ℕ))
    → IsPermutation (map place_of_face faces) (map place_of_face others)
    → IsClosed (sheet points m n w faces) → IsClosed (sheet points m n w others)
IsClosed-sheet points m n w faces others moved closed = record {
  genus = λ place has.
      let surface = sheet points m n w [] in
      let k = component_of surface place in
      let here = closed.genus place has in
      let same : faces_on (sheet points m n w faces) k ≡ faces_on (sheet points m n w others) k =
      faces-at points m n w faces k
      ∙ sym (sum_by-IsPermutation (amount_at surface k itself one_place) (map place_of_face faces) (map place_of_face others) moved)
      ∙ sym (faces-at points m n w others k) in (
        here.0,
        has-faces (faces_on (sheet points m n w faces) k) (faces_on (sheet points m n w others) k) (lowers_on surface k) here.0 same here.1,
      );
}

pub places-three : (xs ys zs : List (ℕ × ℕ)) (a b c : List ℕ) → map place_of_face xs ≡ a → map place_of_face ys ≡ b
    → map place_of_face zs ≡ c → map place_of_face (xs ++ (ys ++ zs)) ≡ a ++ (b ++ c)
places-three xs ys zs a b c is_a is_b is_c =
    map-append place_of_face xs (ys ++ zs)
    ∙ ap₂ (λ (us vs : List ℕ). us ++ vs) is_a
    (map-append place_of_face ys zs ∙ ap₂ (λ (us vs : List ℕ). us ++ vs) is_b is_c)

pub places-term : (points : Points) (m n w : List (ℕ × ℕ)) (dots before after : ℕ)
    → map place_of_face (term_faces points m n w dots before after)
    ≡ discs points m n ++ (circles points m w ++ circles points n w)
places-term points m n w dots before after =
    places-three (marked dots (discs points m n)) (marked before (circles points m w)) (marked_else after (circles points n w))
    (discs points m n) (circles points m w) (circles points n w) (places-marked dots (discs points m n))
    (places-marked before (circles points m w)) (places-marked_else after (circles points n w))
