-- A kink on an arc leaves crossings on the sphere. A bare crossing is added, which keeps them planar and is a piece of its own; so
-- the arc can be hooked on two neighbours there. The last arc joins the other two darts of the new crossing, which are neighbours,
-- so one face step apart. Then no dart is open.
use Rattle.std.proofs.Common.{◌≡◌, ◌≢◌, ℕ, ◌⊎◌, inl, inr, ◌+◌, ◌*◌, ◌/◌, ◌<◌, ◌≤◌, ◌∙◌, List, sym, ap, arith, map}
use Rattle.std.specs.Prelude.{nat_lt, slice_index, if◌then◌else◌}
use Rattle.std.specs.List.{range_with_len}
use Rattle.std.proofs.lemmas.Bool.{cases_lt}
use Rattle.std.proofs.lemmas.Bool.Decides.{nat_tests}
use Rattle.kh_types.specs.Classes.{merged}
use Rattle.kh_types.specs.Darts.{IsPairing, turned}
use Rattle.kh_types.specs.Faces.{open_pieces, piece_pair}
use Rattle.kh_types.proofs.ClassLemmas.{classes-finest, merged-both, slice_index-joined}
use Rattle.face_walk.specs.AddedArcs.{HasArcMore, IsPlanar}
use Rattle.face_walk.proofs.AddedArcs.{IsPairing-more}
use Rattle.face_walk.proofs.OpenFaces.{IsNamed-open_pieces, crossing-below, piece_pairs-below, open_pieces-ends}
use Rattle.kink_and_finger_laws.specs.Pulls.{kinked, AreNew, IsClosedPlanar}
use Rattle.kink_and_finger_laws.proofs.Hooked.{hooked, IsHook, IsPairing-hooked, IsPlanar-beside, IsPlanar-hooked, merged-same, open_pieces-hooked}
use Rattle.kink_and_finger_laws.proofs.PulledDarts.{with_bare, AreKinked}
use Rattle.kink_and_finger_laws.proofs.MoreCrossings.{IsPlanar-bare}
use Rattle.kink_and_finger_laws.proofs.Steps.{all_of}

-- one more bare crossing

pub bare-low : (n : ℕ) (partner : ℕ → ℕ) (z : ℕ) → z < 4 * n → with_bare n partner z ≡ partner z
bare-low n partner z low = grind (arith, nat_tests)

pub bare-high : (n : ℕ) (partner : ℕ → ℕ) (z : ℕ) → 4 * n ≤ z → with_bare n partner z ≡ z
bare-high n partner z high = grind (arith, nat_tests)

pub IsPairing-bare : (n : ℕ) (partner : ℕ → ℕ) → IsPairing (4 * n) partner → IsPairing (4 * (n + 1)) (with_bare n partner)
IsPairing-bare n partner pairing = grind (arith, nat_tests)

abbrev is_last : ℕ → ℕ → ℕ
is_last n k = if nat_lt k n then 0 else 1

bare-alone : (n : ℕ) (partner : ℕ → ℕ) (z k : ℕ) → IsPairing (4 * n) partner → z < 4 * n → 4 * n ≤ k → k < 4 * (n + 1)
    → slice_index (open_pieces (n + 1) (with_bare n partner)) (z / 4) ≢ slice_index (open_pieces (n + 1) (with_bare n partner)) (k / 4)
bare-alone n partner z k pairing z_below k_from k_below same =
    differ n (z / 4) (k / 4) (crossing-below n z z_below) (omega (arith, k_from))
    (classes-finest (is_last n) (n + 1) (map (piece_pair (with_bare n partner)) (range_with_len 0 (4 * (n + 1))))
    (all_of (λ pair. is_last n pair.0 ≡ is_last n pair.1) (piece_pair (with_bare n partner)) 0 (4 * (n + 1))
    (λ x from below. kept n partner x pairing))
    (piece_pairs-below (n + 1) (with_bare n partner) (IsPairing-bare n partner pairing)) (z / 4) (k / 4) (omega (arith, z_below))
    (omega (arith, k_below)) same)
  where
    differ : (n a b : ℕ) → a < n → n ≤ b → is_last n a ≡ is_last n b → ⊥
    differ n a b below from same = grind (arith, nat_tests)

    kept : (n : ℕ) (partner : ℕ → ℕ) (x : ℕ) → IsPairing (4 * n) partner → is_last n (x / 4) ≡ is_last n (with_bare n partner x / 4)
    kept n partner x pairing = grind (arith, nat_tests, crossing-below)

-- and old crossings are in one piece with it only if they are so without it
pieces-bare : (n : ℕ) (partner : ℕ → ℕ) (x y : ℕ) → IsPairing (4 * n) partner → x < 4 * n → y < 4 * n
    → slice_index (open_pieces (n + 1) (with_bare n partner)) (y / 4) ≡ slice_index (open_pieces (n + 1) (with_bare n partner)) (x / 4)
    → slice_index (open_pieces n partner) (y / 4) ≡ slice_index (open_pieces n partner) (x / 4)
pieces-bare n partner x y pairing x_below y_below same =
    let bare = with_bare n partner in
    let class : ℕ → ℕ = λ k. slice_index (open_pieces n partner) k in
    classes-finest class (n + 1) (map (piece_pair bare) (range_with_len 0 (4 * (n + 1))))
    (all_of (λ pair. class pair.0 ≡ class pair.1) (piece_pair bare) 0 (4 * (n + 1))
    (λ z from below. elim (cases_lt z (4 * n)) [
      | inl low ↦ open_pieces-ends n partner z pairing low ∙ ap (λ w. class (w / 4)) (sym (bare-low n partner z low))
      | inr high ↦ ap (λ w. class (w / 4)) (sym (bare-high n partner z high))
    ]))
    (piece_pairs-below (n + 1) bare (IsPairing-bare n partner pairing)) (y / 4) (x / 4) (omega (arith, y_below)) (omega (arith, x_below)) same

-- an arc that is hooked on two neighbours of a bare crossing leaves crossings planar
pub IsHook-bare : (n : ℕ) (partner : ℕ → ℕ) (x s t : ℕ) → IsClosedPlanar n partner → x < 4 * n → 4 * n ≤ s → s < 4 * (n + 1)
    → turned s ≡ t → IsHook (4 * (n + 1)) (with_bare n partner) x s t
IsHook-bare n partner x s t closed x_below from below beside = grind (arith, nat_tests)

pub IsPlanar-hooked_bare : (n : ℕ) (partner : ℕ → ℕ) (x s t : ℕ) → IsClosedPlanar n partner → x < 4 * n → 4 * n ≤ s
    → s < 4 * (n + 1) → turned s ≡ t → IsPlanar (n + 1) (hooked (with_bare n partner) x s t)
IsPlanar-hooked_bare n partner x s t closed x_below from below beside =
    IsPlanar-hooked (n + 1) (with_bare n partner) x s t (IsPairing-bare n partner closed.pairing)
    (IsHook-bare n partner x s t closed x_below from below beside) (inr (bare-alone n partner x s closed.pairing x_below from below))
    (IsPlanar-bare n partner (with_bare n partner) closed.pairing (bare-low n partner) (λ z high low. bare-high n partner z high) closed.planar)

-- only those crossings that were in one piece with the arc are in one with the crossing
pub pieces-hooked_bare : (n : ℕ) (partner : ℕ → ℕ) (x y s t : ℕ) → IsClosedPlanar n partner → x < 4 * n → y < 4 * n → 4 * n ≤ s
    → s < 4 * (n + 1) → turned s ≡ t
    → slice_index (open_pieces (n + 1) (hooked (with_bare n partner) x s t)) (y / 4)
    ≡ slice_index (open_pieces (n + 1) (hooked (with_bare n partner) x s t)) (s / 4)
    → slice_index (open_pieces n partner) (y / 4) ≡ slice_index (open_pieces n partner) (x / 4)
pieces-hooked_bare n partner x y s t closed x_below y_below from below beside same =
    let bare = with_bare n partner in
    let pairing = IsPairing-bare n partner closed.pairing in
    let pieces = open_pieces (n + 1) bare in
    let size = (IsNamed-open_pieces (n + 1) bare pairing).size in
    let at : (k : ℕ) → k < n + 1 → slice_index (open_pieces (n + 1) (hooked bare x s t)) k
    ≡ merged (slice_index pieces (x / 4)) (slice_index pieces (s / 4)) (slice_index pieces k) =
    λ k k_below. ap (λ (l : List ℕ). slice_index l k)
    (open_pieces-hooked (n + 1) bare x s t pairing (IsHook-bare n partner x s t closed x_below from below beside))
    ∙ slice_index-joined pieces (x / 4, s / 4) k (omega (arith, size, k_below)) in
    pieces-bare n partner x y closed.pairing x_below y_below
    (merged-same (slice_index pieces (x / 4)) (slice_index pieces (s / 4)) (slice_index pieces (y / 4)) (slice_index pieces (x / 4))
    (sym (at (y / 4) (omega (arith, y_below))) ∙ same ∙ at (s / 4) (omega (arith, below))
    ∙ sym (merged-both (slice_index pieces (x / 4)) (slice_index pieces (s / 4))))
    (bare-alone n partner y s closed.pairing y_below from below) (bare-alone n partner x s closed.pairing x_below from below))

-- kinks

pub AreKinked-kinked : (n : ℕ) (partner : ℕ → ℕ) (x u w v s : ℕ) → IsClosedPlanar n partner → x < 4 * n → AreNew n u w v s
    → AreKinked n partner x u w v s (kinked n partner x u w v s)
AreKinked-kinked n partner x u w v s closed x_below new = grind (arith, nat_tests)

beside-cases : (n u w v s : ℕ) → AreNew n u w v s → (turned w ≡ u) ⊎ (turned u ≡ w)
beside-cases n u w v s new = grind (arith, nat_tests)

-- the last arc of a kink
HasArcMore-kinked : (n : ℕ) (partner : ℕ → ℕ) (x u w v s : ℕ) (kink : ℕ → ℕ) → IsClosedPlanar n partner → x < 4 * n → AreNew n u w v s
    → AreKinked n partner x u w v s kink → HasArcMore (4 * (n + 1)) (hooked (with_bare n partner) x w u) kink s v
HasArcMore-kinked n partner x u w v s kink closed x_below new are = grind (arith, nat_tests)

-- the same, begun at the other end
kinked-back : (n : ℕ) (partner : ℕ → ℕ) (x u w v s : ℕ) (kink : ℕ → ℕ) → IsClosedPlanar n partner → x < 4 * n → AreNew n u w v s
    → AreKinked n partner x u w v s kink → AreNew n w u v s × AreKinked n partner (partner x) w u v s kink
kinked-back n partner x u w v s kink closed x_below new are = grind (arith, nat_tests)

pub IsClosedPlanar-kinked : (n : ℕ) (partner : ℕ → ℕ) (x u w v s : ℕ) → IsClosedPlanar n partner → x < 4 * n → AreNew n u w v s
    → IsClosedPlanar (n + 1) (kinked n partner x u w v s)
IsClosedPlanar-kinked n partner x u w v s closed x_below new =
    elim (beside-cases n u w v s new) [
      | inl to_u ↦ by_hook x u w x_below to_u new are
      | inr to_w ↦
          let back = kinked-back n partner x u w v s kink closed x_below new are in
          by_hook (partner x) w u (closed.pairing.below x x_below) to_w back.0 back.1
    ]
  where
    kink : ℕ → ℕ
    kink = kinked n partner x u w v s

    are : AreKinked n partner x u w v s kink
    are = AreKinked-kinked n partner x u w v s closed x_below new

    none_alone : (z : ℕ) → z < 4 * (n + 1) → kinked n partner x u w v s z ≢ z
    none_alone z below = grind (arith, nat_tests, are)

    by_hook : (y t a : ℕ) → y < 4 * n → turned a ≡ t → AreNew n t a v s → AreKinked n partner y t a v s kink → IsClosedPlanar (n + 1) kink
    by_hook y t a below beside new are =
        let bare = with_bare n partner in
        let more = HasArcMore-kinked n partner y t a v s kink closed below new are in
        let hook = IsHook-bare n partner y a t closed below new.w_from new.w_below beside in
        let pairing = IsPairing-hooked (4 * (n + 1)) bare y a t (IsPairing-bare n partner closed.pairing) hook in
        record {
          pairing = IsPairing-more (4 * (n + 1)) (hooked bare y a t) kink s v pairing more;
          planar = IsPlanar-beside (n + 1) (hooked bare y a t) kink s v pairing more new.beside
              (IsPlanar-hooked_bare n partner y a t closed below new.w_from new.w_below beside);
          other = none_alone;
        }
