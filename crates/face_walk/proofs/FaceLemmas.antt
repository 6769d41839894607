-- The faces and pieces of an accepted code.
use Rattle.std.proofs.lemmas.Bool.Decides.{nat_tests}
use Rattle.std.proofs.Common.{◌≡◌, ℕ, ◌*◌, ◌<◌, ◌∙◌, List, length, sym, ap, subst, arith}
use Rattle.std.specs.Prelude.{IsTrue, nat_eq, slice_index}
use Rattle.std.specs.List.{AllByRecursion, count_by, position_or_len, range_with_len}
use Rattle.std.proofs.lemmas.List.FromFn.{length-range_with_len, get_or-range_with_len}
use Rattle.std.proofs.lemmas.List.{get_or-map, length-map}
use Rattle.std.proofs.lemmas.Simd.{map-map}
use Rattle.std.proofs.Math.Path.{fun_ext}
use Rattle.kh_types.specs.declared.dart.Dart.{Dart}
use Rattle.kh_types.specs.Acceptance.{accepted}
use Rattle.kh_types.specs.Classes.{IsNamed}
use Rattle.kh_types.specs.Code.{Code}
use Rattle.kh_types.specs.Darts.{IsDart, IsPairing, dart_at, dart_place, darts, partner_at, face_step}
use Rattle.kh_types.specs.Faces.{faces_of, face_count, pieces_of}
use Rattle.kh_types.proofs.AcceptedLemmas.{HasArcsTwice-accepted}
use Rattle.kh_types.proofs.DartPairs.{IsPairing-partner_at, IsDart-at, dart_place-at, dart_at-place, dart_place-below}
use Rattle.kh_types.proofs.Lists.{count_by-map}
use Rattle.kh_types.proofs.WalkLemmas.{AreCycles}
use Rattle.face_walk.specs.ClassNumbers.{least_numbers, class_number, class_numbers}
use Rattle.face_walk.specs.FaceNumbers.{face_number, face_length}
use Rattle.face_walk.specs.Numbered.{face_numbers}
use Rattle.kh_types.proofs.RangeImages.{all-map_range}
use Rattle.face_walk.proofs.OpenFaces.{AreCycles-open_faces, IsNamed-open_pieces, face_back}
use Rattle.face_walk.proofs.NumberLemmas.{class_number-below}

-- the partner function of an accepted code
pub IsPairing-accepted : (code : Code) → IsTrue (accepted code) → IsPairing (4 * length code.crossings) (partner_at code.crossings)
IsPairing-accepted code is = IsPairing-partner_at code.crossings (HasArcsTwice-accepted code is)

-- the faces of an accepted code are the cycles of the face step
pub AreCycles-faces : (code : Code) → IsTrue (accepted code)
    → AreCycles (4 * length code.crossings) (face_step (partner_at code.crossings)) (face_back (partner_at code.crossings))
    (faces_of code.crossings)
AreCycles-faces code is = AreCycles-open_faces (length code.crossings) (partner_at code.crossings) (IsPairing-accepted code is)

-- they are named by their least darts
pub IsNamed-faces_of : (code : Code) → IsTrue (accepted code) → IsNamed (4 * length code.crossings) (faces_of code.crossings)
IsNamed-faces_of code is = (AreCycles-faces code is).named

-- the pieces of an accepted code are named by their least crossings
pub IsNamed-pieces_of : (code : Code) → IsTrue (accepted code) → IsNamed (length code.crossings) (pieces_of code.crossings)
IsNamed-pieces_of code is = IsNamed-open_pieces (length code.crossings) (partner_at code.crossings) (IsPairing-accepted code is)

-- the same of a list of classes that are these
pub IsNamed-faces : (code : Code) (classes : List ℕ) → IsTrue (accepted code) → classes ≡ faces_of code.crossings
    → IsNamed (length classes) classes
IsNamed-faces code classes is same = grind (arith, nat_tests, IsNamed-faces_of)

pub IsNamed-pieces : (code : Code) (classes : List ℕ) → IsTrue (accepted code) → classes ≡ pieces_of code.crossings
    → IsNamed (length classes) classes
IsNamed-pieces code classes is same = grind (arith, nat_tests, IsNamed-pieces_of)

-- the numbers of the faces of all darts are those of their places
pub face_numbers-classes : (crossings : List (List ℕ)) → length (faces_of crossings) ≡ 4 * length crossings
    → class_numbers (faces_of crossings) ≡ face_numbers crossings
face_numbers-classes crossings size = grind (arith, nat_tests, fun_ext, dart_place-at, map-map)

pub length-face_numbers : (crossings : List (List ℕ)) → length (face_numbers crossings) ≡ 4 * length crossings
length-face_numbers crossings = grind (arith, nat_tests, length-map, length-range_with_len)

-- the number that is kept at the place of a dart is that of its face
pub face_number-kept : (crossings : List (List ℕ)) (dart : Dart) → IsDart crossings dart
    → slice_index (face_numbers crossings) (dart_place dart) ≡ face_number crossings dart
face_number-kept crossings dart is =
    let place = dart_place dart in
    let count = 4 * length crossings in
    let below = dart_place-below crossings dart is in
    let size : length (range_with_len 0 count) ≡ count = length-range_with_len 0 count in
    let size_too : length (darts crossings) ≡ count = length-map (range_with_len 0 count) dart_at ∙ size in
    get_or-map (face_number crossings) (darts crossings) place dart 0 (omega (arith, below, size_too))
    ∙ ap (λ d. face_number crossings d)
    (get_or-map dart_at (range_with_len 0 count) place 0 dart (omega (arith, below, size))
    ∙ ap dart_at (get_or-range_with_len 0 count place 0 below ∙ omega arith) ∙ dart_at-place crossings dart is)

pub face_number-in : (crossings : List (List ℕ)) (dart : Dart) (numbers : List ℕ) (place : ℕ) → numbers ≡ face_numbers crossings
    → place ≡ dart_place dart → IsDart crossings dart → slice_index numbers place ≡ face_number crossings dart
face_number-in crossings dart numbers place kept is_place is = grind (arith, nat_tests, face_number-kept)

-- it is below the number of faces
pub face_number-below : (code : Code) (dart : Dart) → IsTrue (accepted code) → IsDart code.crossings dart
    → face_number code.crossings dart < face_count code.crossings
face_number-below code dart is is_dart = grind (arith, nat_tests, IsNamed-faces_of, class_number-below, IsNamed-faces, dart_place-below)

-- all the numbers that are kept are below it
pub face_numbers-below : (code : Code) → IsTrue (accepted code)
    → AllByRecursion (λ number. number < face_count code.crossings) (face_numbers code.crossings)
face_numbers-below code is =
    let crossings = code.crossings in
    let places = range_with_len 0 (4 * length crossings) in
    subst (λ (xs : List ℕ). AllByRecursion (λ number. number < face_count crossings) xs)
    (sym (map-map (face_number crossings) dart_at places))
    (all-map_range (λ (number : ℕ). number < face_count crossings) (λ k. face_number crossings (dart_at k)) 0
    (4 * length crossings)
    (λ k below. face_number-below code (dart_at k) is (IsDart-at crossings k (omega (arith, below)))))

-- the length of a face is how often its number is kept
pub face_length-counted : (crossings : List (List ℕ)) (face : ℕ)
    → count_by (λ number. nat_eq number face) (face_numbers crossings) ≡ face_length crossings face
face_length-counted crossings face = grind (arith, nat_tests, count_by-map)

-- the dart that follows a dart is of its face
pub face_number-step : (code : Code) (place : ℕ) → IsTrue (accepted code) → place < 4 * length code.crossings
    → face_number code.crossings (dart_at (face_step (partner_at code.crossings) place))
    ≡ face_number code.crossings (dart_at place)
face_number-step code place is below =
    let classes = faces_of code.crossings in
    let follower = face_step (partner_at code.crossings) place in
    ap (class_number classes) (dart_place-at follower)
    ∙ ap (λ least. position_or_len (nat_eq least) (least_numbers classes)) ((AreCycles-faces code is).step place below)
    ∙ ap (class_number classes) (sym (dart_place-at place))

pub ruleset numbers = (face_numbers-classes, face_number-kept, face_number-below, face_length-counted)

pub ruleset places = (IsDart-at, dart_place-below, length-face_numbers)
