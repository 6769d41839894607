-- What functions on darts keep where a crossing is smoothed away.
use Rattle.std.proofs.Common.{◌≡◌, ◌≢◌, ℕ, inl, inr, ◌+◌, ◌*◌, ◌/◌, ◌<◌, ◌≤◌, ◌∙◌, sym, ap, arith, Bool, not}
use Rattle.std.proofs.lemmas.Bool.{cases_eq}
use Rattle.std.proofs.lemmas.Bool.Decides.{nat_tests}
use Rattle.kh_types.specs.Darts.{IsPairing}
use Rattle.kink_and_finger_laws.specs.Pulls.{pulled, bared, dart_in, late, early, late_dart, early_dart, smoothed, IsClosedPlanar}
use Rattle.kink_and_finger_laws.proofs.PulledDarts.{taken_back}
use Rattle.kink_and_finger_laws.proofs.Pulls.{AreHeld, IsPairing-pulled}
use Rattle.kink_and_finger_laws.proofs.Smoothed.{holds-twice, dart_in-apart, IsBared-closed, IsPermutation-late, IsPermutation-dartwise, block_place}
use Rattle.face_walk.proofs.OpenFaces.{crossing-below}
use Rattle.kink_and_finger_laws.proofs.OldDarts.{place_in}

-- a test that partners tell apart, and the darts that are joined at the crossing too, is told apart by the new partners
bared-flipped : (n : ℕ) (partner : ℕ → ℕ) (c p : ℕ) (test : ℕ → Bool) → IsClosedPlanar n partner → c < n
    → ((x : ℕ) → x < 4 * n → test (partner x) ≡ not (test x)) → test (dart_in c (p + 1)) ≡ not (test (dart_in c (p + 2)))
    → test (dart_in c (p + 3)) ≡ not (test (dart_in c p)) → (x : ℕ) → x < 4 * n → x / 4 ≢ c
    → test (bared partner c p x) ≡ not (test x)
bared-flipped n partner c p test closed below flips first second x x_below away = grind (arith, nat_tests)

pub smoothed-flipped : (k : ℕ) (partner : ℕ → ℕ) (c p : ℕ) (test : ℕ → Bool) → IsClosedPlanar (k + 1) partner → c ≤ k
    → ((x : ℕ) → x < 4 * (k + 1) → test (partner x) ≡ not (test x)) → test (dart_in c (p + 1)) ≡ not (test (dart_in c (p + 2)))
    → test (dart_in c (p + 3)) ≡ not (test (dart_in c p))
    → (x : ℕ) → x < 4 * k → test (early_dart c k (smoothed partner c k p x)) ≡ not (test (early_dart c k x))
smoothed-flipped k partner c p test closed within flips first second x below =
    let bare = IsBared-closed (k + 1) partner c p closed (omega (arith, within)) in
    let darts = IsPermutation-dartwise (k + 1) (late c k) (early c k) (IsPermutation-late c k within) in
    let y_below = darts.back_below x (omega (arith, below)) in
    ap test (darts.back_f (bared partner c p (early_dart c k x)) (bare.pairing.below (early_dart c k x) y_below))
    ∙ bared-flipped (k + 1) partner c p test closed (omega (arith, within)) flips first second (early_dart c k x) y_below
    (λ is. early_not_last c k (x / 4) within (crossing-below k x below) (sym (block_place (early c k (x / 4)) x) ∙ is))
  where
    early_not_last : (c k x : ℕ) → c ≤ k → x < k → early c k x ≡ c → ⊥
    early_not_last c k x within below is = grind (arith, nat_tests)

-- functions taken back

taken_back-else : (partner h : ℕ → ℕ) (s t x : ℕ) → x ≢ s → x ≢ t → taken_back partner h s t x ≡ h x
taken_back-else partner h s t x not_s not_t = grind (arith, nat_tests)

taken_back-joint : (partner h : ℕ → ℕ) (s t : ℕ) → taken_back partner h s t s ≡ taken_back partner h s t t
taken_back-joint partner h s t = grind (arith, nat_tests)

taken_back-shared : (m : ℕ) (partner h : ℕ → ℕ) (s t : ℕ) → IsPairing m partner → AreHeld m partner s t
    → ((x : ℕ) → x < m → h (pulled partner s t x) ≡ h x) → (x : ℕ) → x < m
    → taken_back partner h s t (partner x) ≡ taken_back partner h s t x
taken_back-shared m partner h s t pairing held shared x below = grind (arith, nat_tests)

-- a function on the darts that are left, taken back to all
pub record IsTakenBack (k : ℕ) (partner : ℕ → ℕ) (c p : ℕ) (h : ℕ → ℕ) : Type 0 where
  pub whole : ℕ → ℕ
  pub shared : (x : ℕ) → x < 4 * (k + 1) → whole (partner x) ≡ whole x
  pub first : whole (dart_in c (p + 1)) ≡ whole (dart_in c (p + 2))
  pub second : whole (dart_in c (p + 3)) ≡ whole (dart_in c p)
  pub kept : (x : ℕ) → x < 4 * k → whole (early_dart c k x) ≡ h x

pub IsTakenBack-smoothed : (k : ℕ) (partner : ℕ → ℕ) (c p : ℕ) (h : ℕ → ℕ) → IsClosedPlanar (k + 1) partner → c ≤ k
    → ((x : ℕ) → x < 4 * k → h (smoothed partner c k p x) ≡ h x) → IsTakenBack k partner c p h
IsTakenBack-smoothed k partner c p h closed within shared =
    let n = k + 1 in
    let c_below : c < k + 1 = omega (arith, within) in
    let bare = IsBared-closed (k + 1) partner c p closed c_below in
    let darts = IsPermutation-dartwise (k + 1) (late c k) (early c k) (IsPermutation-late c k within) in
    let holds = holds-twice (k + 1) partner c p closed c_below in
    let apart = dart_in-apart c p in
    let s = dart_in c (p + 1) in
    let t = dart_in c (p + 2) in
    let u = dart_in c (p + 3) in
    let v = dart_in c p in
    let low : ℕ → ℕ = λ x. h (late_dart c k x) in
    let low_shared : (x : ℕ) → x < 4 * (k + 1) → h (late_dart c k (bared partner c p x)) ≡ h (late_dart c k x) =
    λ x below. elim (cases_eq (x / 4) c) [
      | inl is ↦ ap (λ z. h (late_dart c k z)) (bare.there x is)
      | inr away ↦
          let small : late_dart c k x < 4 * k =
          late_small c k x within below away in
          ap (λ z. h (late_dart c k (bared partner c p z))) (sym (darts.back_f x below)) ∙ shared (late_dart c k x) small
    ] in
    let one_pairing = IsPairing-pulled (4 * (k + 1)) partner s t closed.pairing holds.0 in
    let middle : ℕ → ℕ = taken_back (pulled partner s t) (λ x. h (late_dart c k x)) u v in
    let middle_shared = taken_back-shared (4 * (k + 1)) (pulled partner s t) (λ x. h (late_dart c k x)) u v one_pairing holds.1 low_shared in
    let whole : ℕ → ℕ = taken_back partner (taken_back (pulled partner s t) (λ x. h (late_dart c k x)) u v) s t in
    let kept_at : (x : ℕ) → x / 4 ≢ c → taken_back partner (taken_back (pulled partner s t) (λ x. h (late_dart c k x)) u v) s t x ≡ h (late_dart c k x) =
    λ x away.
    let not_at : (slot : ℕ) → x ≢ dart_in c slot = λ slot same. away (ap (λ z. z / 4) same ∙ place_in c slot) in
    taken_back-else partner middle s t x (not_at (p + 1)) (not_at (p + 2))
    ∙ taken_back-else (pulled partner s t) (λ x. h (late_dart c k x)) u v x (not_at (p + 3)) (not_at p) in
    record {
      whole = taken_back partner (taken_back (pulled partner s t) (λ x. h (late_dart c k x)) u v) s t;
      shared = taken_back-shared (4 * (k + 1)) partner middle s t closed.pairing holds.0 middle_shared;
      first = taken_back-joint partner middle s t;
      second = taken_back-else partner middle s t u apart.2 apart.3 ∙ taken_back-joint (pulled partner s t) (λ x. h (late_dart c k x)) u v
          ∙ sym (taken_back-else partner middle s t v apart.4 apart.5);
      kept = λ x below.
          kept_at (early_dart c k x)
          (λ is. early_not_last c k (x / 4) within (crossing-below k x below) (sym (block_place (early c k (x / 4)) x) ∙ is))
          ∙ ap h (darts.f_back x (omega (arith, below)));
    }
  where
    early_not_last : (c k x : ℕ) → c ≤ k → x < k → early c k x ≡ c → ⊥
    early_not_last c k x within below is = grind (arith, nat_tests)

    late_place : (c k q : ℕ) → c ≤ k → q < k + 1 → q ≢ c → late c k q < k
    late_place c k q within below away = grind (arith, nat_tests)

    late_small : (c k x : ℕ) → c ≤ k → x < 4 * (k + 1) → x / 4 ≢ c → late_dart c k x < 4 * k
    late_small c k x within below away =
        let q = late_place c k (x / 4) within (crossing-below (k + 1) x below) away in omega (arith, q)
