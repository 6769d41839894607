-- What one more arc does to open darts, faces and pieces. The arc goes between two open darts; all darts are still partners in
-- pairs, and two fewer are open. Two images of the face step are exchanged: so where both darts are of one face, the arc splits
-- it, and where they are of two, it makes one face of these. Pieces are classes of crossings, tied by arcs, and the arc ties
-- those of its two ends. So an arc between two pieces makes one piece and one face of two, as a face lies in one piece; and an
-- arc inside a piece leaves the pieces, and joins two faces or splits one.
use Rattle.std.proofs.Common.{◌≡◌, ◌≢◌, ℕ, inl, inr, ◌+◌, ◌*◌, ◌/◌, ◌<◌, ◌∙◌, [], ◌∷◌, ◌++◌, sym, ap, map, arith, true, not, ◌&&◌, eq-eqb}
use Rattle.std.specs.Prelude.{slice_index, nat_eq}
use Rattle.std.specs.List.{range_with_len}
use Rattle.std.proofs.lemmas.Bool.{cases_eq}
use Rattle.std.proofs.lemmas.Bool.Decides.{nat_tests}
use Rattle.kh_types.specs.Classes.{joined}
use Rattle.kh_types.specs.Darts.{IsPairing, face_step}
use Rattle.kh_types.specs.Faces.{open_faces, open_pieces, piece_pair}
use Rattle.kh_types.proofs.JoinedClasses.{joined-together, classes_of-same, classes_of-more}
use Rattle.kh_types.proofs.Lists.{AllByRecursion-append, AllByRecursion-first, AllByRecursion-second}
use Rattle.kh_types.proofs.RangeCounts.{but, count_by-but, count_by-alike}
use Rattle.kh_types.specs.Permutations.{IsExchange, AreJoined}
use Rattle.face_walk.specs.AddedArcs.{is_open, open_dart_count, with_arc, HasArcMore, UnitesPieces, StaysInPiece}
use Rattle.kh_types.proofs.RangeImages.{all-map_range, map_range-at}
use Rattle.kh_types.proofs.ExchangedCycles.{AreJoined-apart, AreJoined-split}
use Rattle.face_walk.proofs.OpenFaces.{face_back, crossing-below, IsPermutation-face_step, piece_pairs-below, open_faces-in_pieces}

-- an arc can be added between two open darts

pub arc-first : (partner : ℕ → ℕ) (dart other : ℕ) → with_arc partner dart other dart ≡ other
arc-first partner dart other = grind (arith, nat_tests)

pub arc-second : (partner : ℕ → ℕ) (dart other : ℕ) → other ≢ dart → with_arc partner dart other other ≡ dart
arc-second partner dart other apart = grind (arith, nat_tests)

pub arc-other : (partner : ℕ → ℕ) (dart other x : ℕ) → x ≢ dart → x ≢ other → with_arc partner dart other x ≡ partner x
arc-other partner dart other x not_dart not_other = grind (arith, nat_tests)

pub HasArcMore-with_arc : (m : ℕ) (partner : ℕ → ℕ) (dart other : ℕ) → dart < m → other < m → dart ≢ other
    → partner dart ≡ dart → partner other ≡ other → HasArcMore m partner (with_arc partner dart other) dart other
HasArcMore-with_arc m partner dart other dart_below other_below apart dart_open other_open = grind (arith, nat_tests)

-- the darts are still partners in pairs
pub IsPairing-more : (m : ℕ) (before after : ℕ → ℕ) (dart other : ℕ) → IsPairing m before → HasArcMore m before after dart other
    → IsPairing m after
IsPairing-more m before after dart other pairing more = grind (arith, nat_tests)

-- one more arc leaves two fewer open darts

still_open : (x dart other old new : ℕ) → dart ≢ other → (x ≡ dart → new ≡ other) → (x ≡ other → new ≡ dart)
    → (x ≢ dart → x ≢ other → new ≡ old) → ((nat_eq old x && not (nat_eq x dart)) && not (nat_eq x other)) ≡ nat_eq new x
still_open x dart other old new apart at_dart at_other beside = grind (arith, nat_tests)

both_open : (x dart old : ℕ) → old ≡ x → x ≢ dart → (nat_eq old x && not (nat_eq x dart)) ≡ true
both_open x dart old is_open other = grind (arith, nat_tests)

pub open_dart_count-more : (n : ℕ) (before after : ℕ → ℕ) (dart other : ℕ) → HasArcMore (4 * n) before after dart other
    → open_dart_count n before ≡ open_dart_count n after + 2
open_dart_count-more n before after dart other more =
    let first = count_by-but (is_open before) 0 (4 * n) dart (omega arith) (omega (arith, more.dart_below))
    (eq-eqb (before dart) dart more.dart_open) in
    let second = count_by-but (but (is_open before) dart) 0 (4 * n) other (omega arith) (omega (arith, more.other_below))
    (both_open other dart (before other) more.other_open (λ same. more.apart (sym same))) in
    let rest = count_by-alike (but (but (is_open before) dart) other) (is_open after) 0 (4 * n)
    (λ x from below. still_open x dart other (before x) (after x) more.apart
    (λ is_dart. ap after is_dart ∙ more.dart_after)
    (λ is_other. ap after is_other ∙ more.other_after)
    (λ not_dart not_other. more.others x (omega (arith, below)) not_dart not_other)) in
    omega (arith, first, second, rest)

-- one more arc exchanges two images of the face step
pub IsExchange-face_step : (m : ℕ) (before after : ℕ → ℕ) (dart other : ℕ) → HasArcMore m before after dart other
    → IsExchange m (face_step before) (face_step after) dart other
IsExchange-face_step m before after dart other more = omega arith

-- two darts of one face: the new arc splits the face
pub open_faces-split : (n : ℕ) (before after : ℕ → ℕ) (dart other : ℕ) → IsPairing (4 * n) before
    → HasArcMore (4 * n) before after dart other
    → slice_index (open_faces n before) dart ≡ slice_index (open_faces n before) other
    → AreJoined (open_faces n after) (open_faces n before) dart other
open_faces-split n before after dart other pairing more together =
    AreJoined-split (4 * n) (face_step before) (face_back before) (face_step after) dart other
    (IsPermutation-face_step n before pairing) (IsExchange-face_step (4 * n) before after dart other more) together

-- two darts of different faces: the new arc makes one face of the two
pub open_faces-join : (n : ℕ) (before after : ℕ → ℕ) (dart other : ℕ) → IsPairing (4 * n) before
    → HasArcMore (4 * n) before after dart other
    → slice_index (open_faces n before) dart ≢ slice_index (open_faces n before) other
    → AreJoined (open_faces n before) (open_faces n after) dart other
open_faces-join n before after dart other pairing more apart =
    AreJoined-apart (4 * n) (face_step before) (face_back before) (face_step after) dart other
    (IsPermutation-face_step n before pairing) (IsExchange-face_step (4 * n) before after dart other more) apart

-- one more arc joins the pieces of its two ends

-- what has one value at the ends of each arc after it has so before, where a bare dart has one end, and at the ends of the new arc
ends-before : (h before after : ℕ → ℕ) (m dart other x : ℕ) → HasArcMore m before after dart other → x < m
    → h (x / 4) ≡ h (after x / 4) → h (x / 4) ≡ h (before x / 4)
ends-before h before after m dart other x more below same = grind (arith, nat_tests)

-- and the other way round
ends-after : (h before after : ℕ → ℕ) (m dart other x : ℕ) → HasArcMore m before after dart other → x < m
    → h (dart / 4) ≡ h (other / 4) → h (x / 4) ≡ h (before x / 4) → h (x / 4) ≡ h (after x / 4)
ends-after h before after m dart other x more below arc same = grind (arith, nat_tests)

open_pieces-more : (n : ℕ) (before after : ℕ → ℕ) (dart other : ℕ) → IsPairing (4 * n) before
    → HasArcMore (4 * n) before after dart other → open_pieces n after ≡ joined (open_pieces n before) (dart / 4, other / 4)
open_pieces-more n before after dart other pairing more =
    let old = map (piece_pair before) (range_with_len 0 (4 * n)) in
    let new = map (piece_pair after) (range_with_len 0 (4 * n)) in
    let arc : ℕ × ℕ = (dart / 4, other / 4) in
    classes_of-same n new (old ++ arc ∷ [])
    (piece_pairs-below n after (IsPairing-more (4 * n) before after dart other pairing more))
    (AllByRecursion-append (λ (pair : ℕ × ℕ). (pair.0 < n) × (pair.1 < n)) old (arc ∷ []) (piece_pairs-below n before pairing)
    ((crossing-below n dart more.dart_below, crossing-below n other more.other_below), tt))
    (λ h holds.
    let at : (x : ℕ) → x < 4 * n → h (x / 4) ≡ h (after x / 4) =
    λ x below. map_range-at (λ (pair : ℕ × ℕ). h pair.0 ≡ h pair.1) (piece_pair after) 0 (4 * n) x holds (omega arith)
    (omega (arith, below)) in
    AllByRecursion-append (λ (pair : ℕ × ℕ). h pair.0 ≡ h pair.1) old (arc ∷ [])
    (all-map_range (λ (pair : ℕ × ℕ). h pair.0 ≡ h pair.1) (piece_pair before) 0 (4 * n)
    (λ x below.
    let small : x < 4 * n = omega (arith, below) in
    ends-before h before after (4 * n) dart other x more small (at x small)))
    (at dart more.dart_below ∙ ap (λ z. h (z / 4)) more.dart_after, tt))
    (λ h holds.
    let of_old = AllByRecursion-first (λ (pair : ℕ × ℕ). h pair.0 ≡ h pair.1) old (arc ∷ []) holds in
    let of_arc = AllByRecursion-second (λ (pair : ℕ × ℕ). h pair.0 ≡ h pair.1) old (arc ∷ []) holds in
    all-map_range (λ (pair : ℕ × ℕ). h pair.0 ≡ h pair.1) (piece_pair after) 0 (4 * n)
    (λ x below.
    let small : x < 4 * n = omega (arith, below) in
    ends-after h before after (4 * n) dart other x more small of_arc.0
    (map_range-at (λ (pair : ℕ × ℕ). h pair.0 ≡ h pair.1) (piece_pair before) 0 (4 * n) x of_old (omega arith) (omega (arith, below)))))
    ∙ classes_of-more n old arc

-- an arc between two pieces
pub JoinsPieces-apart : (n : ℕ) (before after : ℕ → ℕ) (dart other : ℕ) → IsPairing (4 * n) before
    → HasArcMore (4 * n) before after dart other
    → slice_index (open_pieces n before) (dart / 4) ≢ slice_index (open_pieces n before) (other / 4)
    → UnitesPieces n before after dart other
JoinsPieces-apart n before after dart other pairing more apart =
    grind (arith, nat_tests, open_pieces-more, open_faces-join, open_faces-in_pieces)

-- an arc inside a piece
pub StaysInPiece-together : (n : ℕ) (before after : ℕ → ℕ) (dart other : ℕ) → IsPairing (4 * n) before
    → HasArcMore (4 * n) before after dart other
    → slice_index (open_pieces n before) (dart / 4) ≡ slice_index (open_pieces n before) (other / 4)
    → StaysInPiece n before after dart other
StaysInPiece-together n before after dart other pairing more together = record {
  pieces = open_pieces-more n before after dart other pairing more ∙ joined-together (open_pieces n before) (dart / 4, other / 4) together;
  faces = elim (cases_eq (slice_index (open_faces n before) dart) (slice_index (open_faces n before) other)) [
    | inl same ↦ inr (open_faces-split n before after dart other pairing more same)
    | inr apart ↦ inl (open_faces-join n before after dart other pairing more apart)
  ];
}
