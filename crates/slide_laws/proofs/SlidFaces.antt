-- A slide keeps the numbers of faces and of pieces.
--
-- For each dart after the slide a dart before it is given whose face it has. An end of the triangle keeps its arc, and so its face; a side
-- has the triangle on the one side and the face of an end on the other. The map takes the next dart of a face to the same face, and meets
-- each face, so there are no fewer before than after (Onto); pieces likewise. The slide back gives the rest (SlidBack).
use Rattle.std.proofs.lemmas.Bool.Decides.{nat_tests}
use Rattle.std.proofs.Common.{◌≡◌, ◌≢◌, ℕ, ◌*◌, ◌<◌, ◌≤◌, ◌∙◌, List, [], ◌∷◌, map, refl, sym, ap, subst, arith}
use Rattle.std.specs.Prelude.{slice_index}
use Rattle.std.specs.List.{range_with_len}
use Rattle.kh_types.specs.Classes.{class_count, AreBelow}
use Rattle.kh_types.specs.Darts.{IsPairing, turned}
use Rattle.kh_types.specs.Faces.{face_pair, open_faces}
use Rattle.kh_types.proofs.ClassLemmas.{classes-together}
use Rattle.kh_types.proofs.RangeImages.{all-map_range, map_range-at}
use Rattle.kh_types.proofs.Ranges.{below_four}
use Rattle.face_walk.proofs.OpenFaces.{turned-below}
use Rattle.slide_laws.specs.Slid.{on, source}
use Rattle.slide_laws.proofs.Corners.{at_places, IsOutside, AreApart, AreApart-rotated, by_corner, by_corner-x, by_corner-y, by_corner-z, by_corner-outside, by_corner-rotated, on-crossing, on-zero, on-below, source-x, source-y, source-z, source-rotated, source-outside, source-source, source-below}
use Rattle.slide_laws.proofs.Sides.{HasSides, HasSides-rotated, IsPairing-slid, slid_partner}
use Rattle.slide_laws.proofs.Onto.{IsOnto, class_count-onto}

-- a dart of the face before the slide, for each dart after it. An end of the triangle keeps its arc, and so its face; the sides of
-- the triangle after the slide have the triangle on one side, and the face of an end on the other
abbrev pub around : ℕ → ℕ → ℕ → List ℕ
around own next last = on next 3 ∷ on last 2 ∷ own ∷ on next 2 ∷ []

abbrev pub face_of : ℕ → ℕ → ℕ → ℕ → ℕ
face_of x y z place = by_corner (around x y z) (around y z x) (around z x y) x y z place

face_of-x : (x y z j : ℕ) → j < 4 → face_of x y z (on x j) ≡ slice_index (around x y z) j
face_of-x x y z j below = by_corner-x (around x y z) (around y z x) (around z x y) x y z j below

face_of-y : (x y z j : ℕ) → AreApart x y z → j < 4 → face_of x y z (on y j) ≡ slice_index (around y z x) j
face_of-y x y z j apart below = by_corner-y (around x y z) (around y z x) (around z x y) x y z j apart below

face_of-z : (x y z j : ℕ) → AreApart x y z → j < 4 → face_of x y z (on z j) ≡ slice_index (around z x y) j
face_of-z x y z j apart below = by_corner-z (around x y z) (around y z x) (around z x y) x y z j apart below

face_of-outside : (x y z place : ℕ) → IsOutside x y z place → face_of x y z place ≡ place
face_of-outside x y z place outside = by_corner-outside (around x y z) (around y z x) (around z x y) x y z place outside

face_of-rotated : (x y z : ℕ) → AreApart x y z → face_of x y z ≡ face_of y z x
face_of-rotated x y z apart = by_corner-rotated (around x y z) (around y z x) (around z x y) x y z apart

-- it takes what comes to an end back to it

abbrev pub IsEnd : ℕ → ℕ → ℕ → ℕ → Type 0
IsEnd x y z place = face_of x y z (source x y z place) ≡ place

end_2 : (x y z : ℕ) → AreApart x y z → IsEnd x y z (on x 2)
end_2 x y z apart = ap (face_of x y z) (source-x x y z 2 (omega arith)) ∙ face_of-y x y z 1 apart (omega arith)

end_3 : (x y z : ℕ) → AreApart x y z → IsEnd x y z (on x 3)
end_3 x y z apart = grind (arith, nat_tests, source-x, on-zero, face_of-z)

-- a dart is no dart of a side
pub record IsNoSideDart (x y z place : ℕ) : Type 0 where
  pub not_x : place ≢ x
  pub not_x_1 : place ≢ on x 1
  pub not_y : place ≢ y
  pub not_y_1 : place ≢ on y 1
  pub not_z : place ≢ z
  pub not_z_1 : place ≢ on z 1

end_x : (x y z : ℕ) → AreApart x y z → (j : ℕ) → j < 4 → on x j ≢ x → on x j ≢ on x 1 → IsEnd x y z (on x j)
end_x x y z apart =
    below_four (λ j. on x j ≢ x → on x j ≢ on x 1 → IsEnd x y z (on x j))
    (λ not_0 not_1. absurd (not_0 (on-zero x)))
    (λ not_0 not_1. absurd (not_1 refl))
    (λ not_0 not_1. end_2 x y z apart)
    (λ not_0 not_1. end_3 x y z apart)

IsEnd-all : (x y z : ℕ) → AreApart x y z → (place : ℕ) → IsNoSideDart x y z place → IsEnd x y z place
IsEnd-all x y z apart =
    let second = AreApart-rotated x y z apart in
    let third = AreApart-rotated y z x second in
    let once = source-rotated x y z apart in
    let twice = once ∙ source-rotated y z x second in
    let face_once = face_of-rotated x y z apart in
    let face_twice = face_once ∙ face_of-rotated y z x second in
    at_places x y z (λ place. IsNoSideDart x y z place → IsEnd x y z place)
    (λ j below no_side. end_x x y z apart j below no_side.not_x no_side.not_x_1)
    (λ j below no_side.
    ap (λ f. face_of x y z (f (on y j))) once ∙ ap (λ f. f (source y z x (on y j))) face_once
    ∙ end_x y z x second j below no_side.not_y no_side.not_y_1)
    (λ j below no_side.
    ap (λ f. face_of x y z (f (on z j))) twice ∙ ap (λ f. f (source z x y (on z j))) face_twice
    ∙ end_x z x y third j below no_side.not_z no_side.not_z_1)
    (λ place outside no_side. ap (face_of x y z) (source-outside x y z place outside) ∙ face_of-outside x y z place outside)

-- a dart whose partner is of a side is itself of one
partner-no_side : (n : ℕ) (partner : ℕ → ℕ) (x y z place : ℕ) → IsPairing (4 * n) partner → HasSides n partner x y z → place < 4 * n
    → IsNoSideDart x y z place → IsNoSideDart x y z (partner place)
partner-no_side n partner x y z place pairing sides below no_side = grind (arith, nat_tests)

pub on-no_side : (x y z j : ℕ) → AreApart x y z → j < 4 → j ≢ 0 → j ≢ 1 → IsNoSideDart x y z (on x j)
on-no_side x y z j apart below not_0 not_1 = omega arith

pub outside-no_side : (x y z place : ℕ) → IsOutside x y z place → IsNoSideDart x y z place
outside-no_side x y z place outside = omega arith

-- what has one value at a dart and the next in its face
abbrev pub IsOnFaces : ℕ → (ℕ → ℕ) → (ℕ → ℕ) → Type 0
IsOnFaces n partner value = (place : ℕ) → place < 4 * n → value place ≡ value (turned (partner place))

-- has one value at the face of a dart after the slide and of the next
abbrev pub StepsAlike : (ℕ → ℕ) → (ℕ → ℕ) → ℕ → ℕ → ℕ → ℕ → Type 0
StepsAlike partner value x y z place =
    value (face_of x y z (source x y z (partner place))) ≡ value (face_of x y z (turned (source x y z place)))

pub turned-on_1 : (place : ℕ) → turned (on place 1) ≡ place
turned-on_1 place = omega arith

turned-on_2 : (place : ℕ) → turned (on place 2) ≡ on place 1
turned-on_2 place = omega arith

turned-on_3 : (place : ℕ) → turned (on place 3) ≡ on place 2
turned-on_3 place = omega arith

steps_x : (n : ℕ) (partner value : ℕ → ℕ) (x y z : ℕ) → IsPairing (4 * n) partner → HasSides n partner x y z
    → IsOnFaces n partner value → (j : ℕ) → j < 4 → StepsAlike partner value x y z (on x j)
steps_x n partner value x y z pairing sides faces =
    let apart = sides.apart in
    let face = face_of x y z in
    let from = source x y z in
    let end_at : (j : ℕ) → j < 4 → j ≢ 0 → j ≢ 1 → face (from (partner (on x j))) ≡ partner (on x j) = λ j below not_0 not_1.
    IsEnd-all x y z apart (partner (on x j))
    (partner-no_side n partner x y z (on x j) pairing sides (on-below n x j sides.x_below) (on-no_side x y z j apart below not_0 not_1)) in
    let step_at : (j : ℕ) → value (partner (on x j)) ≡ value (turned (on x j)) = λ j.
    faces (partner (on x j)) (pairing.below (on x j) (on-below n x j sides.x_below))
    ∙ ap (λ k. value (turned k)) (pairing.back (on x j) (on-below n x j sides.x_below)) in
    below_four (λ j. StepsAlike partner value x y z (on x j))
    (ap value
    (ap (λ k. face (from (partner k))) (on-zero x) ∙ ap (λ k. face (from k)) sides.from_x
    ∙ ap face (source-y x y z 1 apart (omega arith)) ∙ face_of-x x y z 2 (omega arith))
    ∙ faces x sides.x_below ∙ ap (λ k. value (turned k)) sides.from_x ∙ ap value (turned-on_1 y)
    ∙ sym
    (ap value
    (ap (λ k. face (turned k)) (source-x x y z 0 (omega arith)) ∙ ap face (turned-on_3 y) ∙ face_of-y x y z 2 apart (omega arith))))
    (ap value
    (ap (λ k. face (from k)) (sides.to_x ∙ sym (on-zero z)) ∙ ap face (source-z x y z 0 apart (omega arith))
    ∙ face_of-x x y z 3 (omega arith))
    ∙ sym
    (ap value
    (ap (λ k. face (turned k)) (source-x x y z 1 (omega arith)) ∙ ap face (turned-on_2 z) ∙ face_of-z x y z 1 apart (omega arith))))
    (ap value (end_at 2 (omega arith) (omega arith) (omega arith)) ∙ step_at 2 ∙ ap value (turned-on_2 x)
    ∙ faces (on x 1) (on-below n x 1 sides.x_below) ∙ ap (λ k. value (turned k)) sides.to_x
    ∙ sym
    (ap value
    (ap (λ k. face (turned k)) (source-x x y z 2 (omega arith)) ∙ ap face (turned-on_1 y ∙ sym (on-zero y))
    ∙ face_of-y x y z 0 apart (omega arith))))
    (ap value (end_at 3 (omega arith) (omega arith) (omega arith)) ∙ step_at 3 ∙ ap value (turned-on_3 x)
    ∙ sym
    (ap value
    (ap (λ k. face (turned k)) (source-x x y z 3 (omega arith)) ∙ face_of-z x y z 3 apart (omega arith))))

StepsAlike-all : (n : ℕ) (partner value : ℕ → ℕ) (x y z : ℕ) → IsPairing (4 * n) partner → HasSides n partner x y z
    → IsOnFaces n partner value → (place : ℕ) → place < 4 * n → StepsAlike partner value x y z place
StepsAlike-all n partner value x y z pairing sides faces =
    let second = HasSides-rotated n partner x y z sides in
    let third = HasSides-rotated n partner y z x second in
    let once = source-rotated x y z sides.apart in
    let twice = once ∙ source-rotated y z x second.apart in
    let face_once = face_of-rotated x y z sides.apart in
    let face_twice = face_once ∙ face_of-rotated y z x second.apart in
    let alike = λ (face from : ℕ → ℕ) (place : ℕ). value (face (from (partner place))) ≡ value (face (turned (from place))) in
    at_places x y z (λ place. place < 4 * n → StepsAlike partner value x y z place)
    (λ j below within. steps_x n partner value x y z pairing sides faces j below)
    (λ j below within.
    subst (λ (f : ℕ → ℕ). alike f (source x y z) (on y j)) (sym face_once)
    (subst (λ (f : ℕ → ℕ). alike (face_of y z x) f (on y j)) (sym once) (steps_x n partner value y z x pairing second faces j below)))
    (λ j below within.
    subst (λ (f : ℕ → ℕ). alike f (source x y z) (on z j)) (sym face_twice)
    (subst (λ (f : ℕ → ℕ). alike (face_of z x y) f (on z j)) (sym twice) (steps_x n partner value z x y pairing third faces j below)))
    (λ place outside within.
    let end = IsEnd-all x y z sides.apart (partner place)
    (partner-no_side n partner x y z place pairing sides within (outside-no_side x y z place outside)) in
    let turned_outside : IsOutside x y z (turned place) =
    record {
      not_x = λ is. outside.not_x (sym (on-crossing place 3) ∙ is);
      not_y = λ is. outside.not_y (sym (on-crossing place 3) ∙ is);
      not_z = λ is. outside.not_z (sym (on-crossing place 3) ∙ is);
    } in
    ap value end ∙ faces (partner place) (pairing.below place within) ∙ ap (λ k. value (turned k)) (pairing.back place within)
    ∙ sym
    (ap value
    (ap (λ k. face_of x y z (turned k)) (source-outside x y z place outside) ∙ face_of-outside x y z (turned place) turned_outside)))

-- faces

face_pairs-below : (n : ℕ) (partner : ℕ → ℕ) → IsPairing (4 * n) partner
    → AreBelow (4 * n) (map (face_pair partner) (range_with_len 0 (4 * n)))
face_pairs-below n partner pairing =
    all-map_range (λ (pair : ℕ × ℕ). (pair.0 < 4 * n) × (pair.1 < 4 * n)) (face_pair partner) 0 (4 * n)
    (λ place below.
    let small : place < 4 * n = omega (arith, below) in
    (small, turned-below n (partner place) (pairing.below place small)))

IsOnFaces-open_faces : (n : ℕ) (partner : ℕ → ℕ) → IsPairing (4 * n) partner
    → IsOnFaces n partner (λ place. slice_index (open_faces n partner) place)
IsOnFaces-open_faces n partner pairing place below =
    map_range-at (λ (pair : ℕ × ℕ). slice_index (open_faces n partner) pair.0 ≡ slice_index (open_faces n partner) pair.1)
    (face_pair partner) 0 (4 * n) place
    (classes-together (4 * n) (map (face_pair partner) (range_with_len 0 (4 * n))) (face_pairs-below n partner pairing))
    (omega arith) (omega (arith, below))

face_of-below : (n x y z : ℕ) → AreApart x y z → x < 4 * n → y < 4 * n → z < 4 * n → (place : ℕ) → place < 4 * n
    → face_of x y z place < 4 * n
face_of-below n x y z apart x_below y_below z_below place has9 = grind (arith, nat_tests)

-- a dart after the slide in the face of a dart before it
abbrev pub behind : ℕ → ℕ → ℕ → List ℕ
behind own next last = on own 2 ∷ next ∷ on next 1 ∷ last ∷ []

abbrev pub dart_in_face : ℕ → ℕ → ℕ → ℕ → ℕ
dart_in_face x y z place = by_corner (behind x y z) (behind y z x) (behind z x y) x y z place

dart_in_face-rotated : (x y z : ℕ) → AreApart x y z → dart_in_face x y z ≡ dart_in_face y z x
dart_in_face-rotated x y z apart = by_corner-rotated (behind x y z) (behind y z x) (behind z x y) x y z apart

dart_in_face-x : (x y z j : ℕ) → j < 4 → dart_in_face x y z (on x j) ≡ slice_index (behind x y z) j
dart_in_face-x x y z j below = by_corner-x (behind x y z) (behind y z x) (behind z x y) x y z j below

dart_in_face-outside : (x y z place : ℕ) → IsOutside x y z place → dart_in_face x y z place ≡ place
dart_in_face-outside x y z place outside = by_corner-outside (behind x y z) (behind y z x) (behind z x y) x y z place outside

abbrev IsMet : ℕ → (ℕ → ℕ) → (ℕ → ℕ) → (ℕ → ℕ) → ℕ → Type 0
IsMet n value face back place = (back place < 4 * n) × (value (face (back place)) ≡ value place)

met_x : (n : ℕ) (partner value : ℕ → ℕ) (x y z : ℕ) → HasSides n partner x y z → IsOnFaces n partner value → (j : ℕ) → j < 4
    → IsMet n value (face_of x y z) (dart_in_face x y z) (on x j)
met_x n partner value x y z sides faces =
    let apart = sides.apart in
    let face = face_of x y z in
    let met = λ (j back : ℕ) (below : j < 4) (is : slice_index (behind x y z) j ≡ back) (back_below : back < 4 * n)
    (same : value (face back) ≡ value (on x j)).
    let there : dart_in_face x y z (on x j) ≡ back = dart_in_face-x x y z j below ∙ is in
    let pair : IsMet n value face (dart_in_face x y z) (on x j) =
    (subst (λ (k : ℕ). k < 4 * n) (sym there) back_below, ap (λ k. value (face k)) there ∙ same) in
    pair in
    below_four (λ j. IsMet n value face (dart_in_face x y z) (on x j))
    (met 0 (on x 2) (omega arith) refl (on-below n x 2 sides.x_below)
    (ap value (face_of-x x y z 2 (omega arith)) ∙ sym (ap value (on-zero x))))
    (met 1 y (omega arith) refl sides.y_below
    (ap value (ap face (sym (on-zero y)) ∙ face_of-y x y z 0 apart (omega arith))
    ∙ sym (faces (on x 1) (on-below n x 1 sides.x_below) ∙ ap (λ k. value (turned k)) sides.to_x)))
    (met 2 (on y 1) (omega arith) refl (on-below n y 1 sides.y_below) (ap value (face_of-y x y z 1 apart (omega arith))))
    (met 3 z (omega arith) refl sides.z_below (ap value (ap face (sym (on-zero z)) ∙ face_of-z x y z 0 apart (omega arith))))

IsMet-all : (n : ℕ) (partner value : ℕ → ℕ) (x y z : ℕ) → HasSides n partner x y z → IsOnFaces n partner value → (place : ℕ)
    → place < 4 * n → IsMet n value (face_of x y z) (dart_in_face x y z) place
IsMet-all n partner value x y z sides faces =
    let second = HasSides-rotated n partner x y z sides in
    let third = HasSides-rotated n partner y z x second in
    let once = dart_in_face-rotated x y z sides.apart in
    let twice = once ∙ dart_in_face-rotated y z x second.apart in
    let face_once = face_of-rotated x y z sides.apart in
    let face_twice = face_once ∙ face_of-rotated y z x second.apart in
    at_places x y z (λ place. place < 4 * n → IsMet n value (face_of x y z) (dart_in_face x y z) place)
    (λ j below within. met_x n partner value x y z sides faces j below)
    (λ j below within.
    subst (λ (f : ℕ → ℕ). IsMet n value f (dart_in_face x y z) (on y j)) (sym face_once)
    (subst (λ (f : ℕ → ℕ). IsMet n value (face_of y z x) f (on y j)) (sym once) (met_x n partner value y z x second faces j below)))
    (λ j below within.
    subst (λ (f : ℕ → ℕ). IsMet n value f (dart_in_face x y z) (on z j)) (sym face_twice)
    (subst (λ (f : ℕ → ℕ). IsMet n value (face_of z x y) f (on z j)) (sym twice) (met_x n partner value z x y third faces j below)))
    (λ place outside within.
    let there = dart_in_face-outside x y z place outside in (
      subst (λ (k : ℕ). k < 4 * n) (sym there) within,
      ap (λ k. value (face_of x y z k)) there ∙ ap value (face_of-outside x y z place outside),
    ))

-- each face before the slide is that of a dart after it
IsOnto-faces : (n : ℕ) (partner : ℕ → ℕ) (x y z : ℕ) → IsPairing (4 * n) partner → HasSides n partner x y z
    → IsOnto (4 * n) (4 * n) (map (face_pair (slid_partner partner x y z)) (range_with_len 0 (4 * n)))
    (map (face_pair partner) (range_with_len 0 (4 * n))) (face_of x y z)
IsOnto-faces n partner x y z pairing sides =
    let after = slid_partner partner x y z in
    let after_pairing = IsPairing-slid n partner x y z pairing sides in
    let value = λ (place : ℕ). slice_index (open_faces n partner) place in
    let faces = IsOnFaces-open_faces n partner pairing in
    let from = source x y z in
    let back = source-source x y z sides.apart in
    let below = source-below n x y z sides.apart sides.x_below sides.y_below sides.z_below in
    let met = λ (place : ℕ) (within : place < 4 * n). IsMet-all n partner value x y z sides faces place within in
    record {
      below = face_pairs-below n after after_pairing;
      others_below = face_pairs-below n partner pairing;
      places = face_of-below n x y z sides.apart sides.x_below sides.y_below sides.z_below;
      keeps = all-map_range (λ (pair : ℕ × ℕ). value (face_of x y z pair.0) ≡ value (face_of x y z pair.1)) (face_pair after) 0 (4 * n)
          (λ place within.
          let small : place < 4 * n = omega (arith, within) in
          let dart = partner (from place) in
          let alike = StepsAlike-all n partner value x y z pairing sides faces dart (pairing.below (from place) (below place small)) in
          sym (ap (λ k. value (face_of x y z k)) (ap from (pairing.back (from place) (below place small)) ∙ back place)) ∙ alike);
      back = dart_in_face x y z;
      back_below = λ place within. (met place within).0;
      meets = λ place within. (met place within).1;
    }

pub open_faces-le : (n : ℕ) (partner : ℕ → ℕ) (x y z : ℕ) → IsPairing (4 * n) partner → HasSides n partner x y z
    → class_count (open_faces n partner) ≤ class_count (open_faces n (slid_partner partner x y z))
open_faces-le n partner x y z pairing sides =
    class_count-onto (4 * n) (4 * n) (map (face_pair (slid_partner partner x y z)) (range_with_len 0 (4 * n)))
    (map (face_pair partner) (range_with_len 0 (4 * n))) (face_of x y z) (IsOnto-faces n partner x y z pairing sides)
