-- Some of the arcs of a partner function, and all of them, added one after another. For each k there are, besides the arcs of the
-- part, those of the whole that have an end below k; from each k to the next either nothing changes or one arc is added. One more
-- arc never brings them nearer to the sphere in Euler's count; so, by induction on k, the whole is no nearer than the part. From
-- bare crossings on this says: there are at most as many faces as on the sphere; and what is planar is planar with some of its
-- arcs. So in a planar whole, an arc that a part has not and that stays inside a piece of it joins two darts of one face, and
-- splits that face.
use Rattle.std.proofs.Common.{◌≡◌, ◌≢◌, ℕ, zero, suc, ◌⊎◌, inl, inr, ◌+◌, ◌*◌, ◌/◌, ◌<◌, ◌≤◌, ◌∙◌, refl, sym, subst, arith, cond, ◌||◌}
use Rattle.std.specs.Prelude.{slice_index, nat_lt}
use Rattle.std.proofs.lemmas.Bool.{cases_eq}
use Rattle.std.proofs.lemmas.Bool.Decides.{nat_tests}
use Rattle.kh_types.specs.Darts.{IsPairing}
use Rattle.kh_types.specs.Faces.{open_faces, open_pieces}
use Rattle.kh_types.proofs.RangeCounts.{count_by-alike}
use Rattle.kh_types.specs.Permutations.{AreJoined}
use Rattle.face_walk.specs.AddedArcs.{bare, open_dart_count, open_face_count, open_piece_count, with_arc, HasArcMore, IsPart, IsPlanar}
use Rattle.kh_types.proofs.RangeImages.{map_range-agree}
use Rattle.face_walk.proofs.AddedArcs.{HasArcMore-with_arc, IsPairing-more, open_faces-split}
use Rattle.face_walk.proofs.BareCrossings.{IsPairing-bare, open_dart_count-bare, open_face_count-bare, open_piece_count-bare}
use Rattle.face_walk.proofs.PlanarArcs.{IsNoNearer, IsNoNearer-more, open_faces-together}

-- partner functions that agree on the darts have the same faces, pieces and open darts
IsNoNearer-same : (n : ℕ) (before after : ℕ → ℕ) → ((x : ℕ) → x < 4 * n → after x ≡ before x) → IsNoNearer n before after
IsNoNearer-same n before after same = grind (arith, nat_tests, map_range-agree, count_by-alike)

IsNoNearer-then : (n : ℕ) (first second third : ℕ → ℕ) → IsNoNearer n first second → IsNoNearer n second third → IsNoNearer n first third
IsNoNearer-then n first second third one two = omega (arith, one, two)

-- the arcs of the whole that have an end below k, and for other darts those of the part

abbrev grown : (ℕ → ℕ) → (ℕ → ℕ) → ℕ → ℕ → ℕ
grown part whole k x = cond (nat_lt x k || nat_lt (whole x) k) (whole x) (part x)

grown-taken : (part whole : ℕ → ℕ) (k x : ℕ) → (x < k) ⊎ (whole x < k) → grown part whole k x ≡ whole x
grown-taken part whole k x taken = grind (arith, nat_tests)

grown-left : (part whole : ℕ → ℕ) (k x : ℕ) → k ≤ x → k ≤ whole x → grown part whole k x ≡ part x
grown-left part whole k x from whole_from = grind (arith, nat_tests)

IsPairing-grown : (m : ℕ) (part whole : ℕ → ℕ) (k : ℕ) → IsPairing m part → IsPairing m whole → IsPart m part whole
    → IsPairing m (grown part whole k)
IsPairing-grown m part whole k pairing whole_pairing is_part = grind (arith, nat_tests)

-- no arc is added at k
grown-same : (m : ℕ) (part whole : ℕ → ℕ) (k : ℕ) → IsPairing m part → IsPairing m whole → k < m
    → grown part whole k k ≡ whole k → (x : ℕ) → x < m → grown part whole (k + 1) x ≡ grown part whole k x
grown-same m part whole k pairing whole_pairing k_below same x x_below = grind (arith, nat_tests)

-- a dart of an arc that the part has not is open in the part, and so is its partner in the whole
open-dart : (m : ℕ) (part whole : ℕ → ℕ) (x : ℕ) → IsPart m part whole → x < m → part x ≢ whole x → part x ≡ x
open-dart m part whole x is_part below differ = elim (is_part x below) [ inl same ↦ absurd (differ same) | inr is ↦ is ]

open-partner : (m : ℕ) (part whole : ℕ → ℕ) (x : ℕ) → IsPairing m part → IsPairing m whole → IsPart m part whole → x < m
    → part x ≢ whole x → part (whole x) ≡ whole x
open-partner m part whole x pairing whole_pairing is_part below differ = grind (arith, nat_tests)

-- an arc is added between k and its partner
HasArcMore-grown : (m : ℕ) (part whole : ℕ → ℕ) (k : ℕ) → IsPairing m part → IsPairing m whole → IsPart m part whole → k < m
    → grown part whole k k ≢ whole k → HasArcMore m (grown part whole k) (grown part whole (k + 1)) k (whole k)
HasArcMore-grown m part whole k pairing whole_pairing is_part k_below differ = grind (arith, nat_tests)

IsNoNearer-grown : (n : ℕ) (part whole : ℕ → ℕ) (k : ℕ) → IsPairing (4 * n) part → IsPairing (4 * n) whole
    → IsPart (4 * n) part whole → k ≤ 4 * n → IsNoNearer n part (grown part whole k)
IsNoNearer-grown n part whole zero pairing whole_pairing is_part within = grind (arith, nat_tests, IsNoNearer-same, grown-left)
IsNoNearer-grown n part whole (suc k) pairing whole_pairing is_part within =
    let e : k + 1 ≡ suc k = omega arith in
    let small : k < 4 * n = omega (arith, within) in
    let before = IsNoNearer-grown n part whole k pairing whole_pairing is_part (omega (arith, within)) in
    subst (λ (j : ℕ). IsNoNearer n part (grown part whole j)) e
    (IsNoNearer-then n part (grown part whole k) (grown part whole (k + 1)) before
    (elim (cases_eq (grown part whole k k) (whole k)) [
      | inl same ↦
          IsNoNearer-same n (grown part whole k) (grown part whole (k + 1))
          (grown-same (4 * n) part whole k pairing whole_pairing small same)
      | inr differ ↦
          IsNoNearer-more n (grown part whole k) (grown part whole (k + 1)) k (whole k)
          (IsPairing-grown (4 * n) part whole k pairing whole_pairing is_part)
          (HasArcMore-grown (4 * n) part whole k pairing whole_pairing is_part small differ)
    ]))

-- all arcs are no nearer to the sphere than some of them
IsNoNearer-whole : (n : ℕ) (part whole : ℕ → ℕ) → IsPairing (4 * n) part → IsPairing (4 * n) whole → IsPart (4 * n) part whole
    → IsNoNearer n part whole
IsNoNearer-whole n part whole pairing whole_pairing is_part =
    IsNoNearer-then n part (grown part whole (4 * n)) whole
    (IsNoNearer-grown n part whole (4 * n) pairing whole_pairing is_part (omega arith))
    (IsNoNearer-same n (grown part whole (4 * n)) whole (λ x below. sym (grown-taken part whole (4 * n) x (inl below))))

-- so there are at most as many faces as on the sphere
pub planar-bound : (n : ℕ) (partner : ℕ → ℕ) → IsPairing (4 * n) partner
    → 2 * open_face_count n partner + open_dart_count n partner ≤ 2 * n + 4 * open_piece_count n partner
planar-bound n partner pairing =
    let grows = IsNoNearer-whole n bare partner (IsPairing-bare (4 * n)) pairing (λ x below. inr refl) in
    omega (arith, grows, open_face_count-bare n, open_piece_count-bare n, open_dart_count-bare n)

-- what is planar is planar with some of its arcs
pub IsPlanar-part : (n : ℕ) (part whole : ℕ → ℕ) → IsPairing (4 * n) part → IsPairing (4 * n) whole → IsPart (4 * n) part whole
    → IsPlanar n whole → IsPlanar n part
IsPlanar-part n part whole pairing whole_pairing is_part planar = grind (arith, nat_tests, IsNoNearer-whole, planar-bound)

-- a part with one more arc of the whole is a part
pub IsPart-more : (m : ℕ) (part after whole : ℕ → ℕ) (dart other : ℕ) → IsPairing m whole → IsPart m part whole
    → HasArcMore m part after dart other → whole dart ≡ other → IsPart m after whole
IsPart-more m part after whole dart other whole_pairing is_part more is_arc = grind (arith, nat_tests)

-- of a planar whole, one more arc inside a piece of a part joins two darts of one face
more-together : (n : ℕ) (part after whole : ℕ → ℕ) (dart other : ℕ) → IsPairing (4 * n) part → IsPairing (4 * n) whole
    → IsPart (4 * n) part whole → IsPlanar n whole → HasArcMore (4 * n) part after dart other → whole dart ≡ other
    → slice_index (open_pieces n part) (dart / 4) ≡ slice_index (open_pieces n part) (other / 4)
    → slice_index (open_faces n part) dart ≡ slice_index (open_faces n part) other
more-together n part after whole dart other pairing whole_pairing is_part planar more is_arc together =
    let after_planar = IsPlanar-part n after whole (IsPairing-more (4 * n) part after dart other pairing more) whole_pairing
    (IsPart-more (4 * n) part after whole dart other whole_pairing is_part more is_arc) planar in
    let part_planar = IsPlanar-part n part whole pairing whole_pairing is_part planar in
    open_faces-together n part after dart other pairing more together (omega (arith, after_planar, part_planar))

pub planar-together : (n : ℕ) (part whole : ℕ → ℕ) (dart : ℕ) → IsPairing (4 * n) part → IsPairing (4 * n) whole
    → IsPart (4 * n) part whole → IsPlanar n whole → dart < 4 * n → part dart ≢ whole dart
    → slice_index (open_pieces n part) (dart / 4) ≡ slice_index (open_pieces n part) (whole dart / 4)
    → slice_index (open_faces n part) dart ≡ slice_index (open_faces n part) (whole dart)
planar-together n part whole dart pairing whole_pairing is_part planar below differ together =
    let dart_open = open-dart (4 * n) part whole dart is_part below differ in
    more-together n part (with_arc part dart (whole dart)) whole dart (whole dart) pairing whole_pairing is_part planar
    (HasArcMore-with_arc (4 * n) part dart (whole dart) below (whole_pairing.below dart below) (λ same. differ (dart_open ∙ same))
    dart_open (open-partner (4 * n) part whole dart pairing whole_pairing is_part below differ)) refl together

-- and splits that face
pub planar-split : (n : ℕ) (part after whole : ℕ → ℕ) (dart other : ℕ) → IsPairing (4 * n) part → IsPairing (4 * n) whole
    → IsPart (4 * n) part whole → IsPlanar n whole → HasArcMore (4 * n) part after dart other → whole dart ≡ other
    → slice_index (open_pieces n part) (dart / 4) ≡ slice_index (open_pieces n part) (other / 4)
    → AreJoined (open_faces n after) (open_faces n part) dart other
planar-split n part after whole dart other pairing whole_pairing is_part planar more is_arc together =
    open_faces-split n part after dart other pairing more
    (more-together n part after whole dart other pairing whole_pairing is_part planar more is_arc together)
