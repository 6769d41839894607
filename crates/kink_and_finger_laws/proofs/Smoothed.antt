-- A crossing that is smoothed away leaves the others on the sphere. Its four darts are pulled off their arcs in two pairs of
-- neighbours, and each of the two steps keeps crossings planar; then the crossing is bare, and all other darts still have arcs.
-- Now it is put last, by a permutation of the crossings, and of their darts, that keeps the order round each crossing. So faces
-- and pieces are as many as before, and the four open darts are those of the last crossing; a bare last crossing can be left out.
-- Beside this goes a lemma on values of darts: what partners share, and what the darts share that are joined at the crossing, is
-- shared by the partners that are left. Other files use the facts on the four darts of a crossing too, and the permutation.
use Rattle.std.proofs.Common.{◌≡◌, ◌≢◌, ℕ, ◌⊎◌, inl, inr, ◌+◌, ◌*◌, ◌/◌, ◌%◌, ◌<◌, ◌≤◌, ◌∙◌, sym, ap, arith, refl, Bool, true, false, ◌||◌, count_by, eq-eqb, zero, suc}
use Rattle.std.specs.Prelude.{nat_eq}
use Rattle.std.specs.List.{range_with_len}
use Rattle.std.proofs.lemmas.Bool.{cases_eq, cases_lt, ne_eqb}
use Rattle.std.proofs.lemmas.Bool.Decides.{nat_tests}
use Rattle.kh_types.specs.Darts.{IsPairing, turned}
use Rattle.kh_types.proofs.RangeCounts.{count_by-alike, count_by-one_more}
use Rattle.face_walk.specs.AddedArcs.{is_open, open_dart_count, IsPlanar}
use Rattle.kh_types.specs.Permutations.{IsPermutation}
use Rattle.kink_and_finger_laws.specs.Pulls.{pulled, bared, dart_in, late, early, late_dart, early_dart, smoothed, IsClosedPlanar}
use Rattle.kink_and_finger_laws.proofs.Pulls.{AreHeld, pulled-first, pulled-second, IsPairing-pulled, IsPlanar-pulled}
use Rattle.kink_and_finger_laws.proofs.MoreCrossings.{open_face_count-renamed, open_piece_count-renamed, IsPlanar-not_bare}
use Rattle.kh_types.proofs.DartLemmas.{turned-crossing}
use Rattle.face_walk.proofs.OpenFaces.{crossing-below}
use Rattle.kink_and_finger_laws.proofs.OldDarts.{place_in}

-- what is not pulled stays with some other dart
pulled-held : (m : ℕ) (partner : ℕ → ℕ) (s t x : ℕ) → IsPairing m partner → AreHeld m partner s t → x < m → partner x ≢ x → x ≢ s → x ≢ t
    → pulled partner s t x ≢ x
pulled-held m partner s t x pairing held below other not_s not_t = grind (arith, nat_tests)

-- the four darts of a crossing

pub dart_in-below : (n c slot : ℕ) → c < n → dart_in c slot < 4 * n
dart_in-below n c slot below = omega (arith, below)

dart_in-turned : (c slot : ℕ) → turned (dart_in c (slot + 1)) ≡ dart_in c slot
dart_in-turned c slot = omega arith

pub dart_cases : (c p x : ℕ) → x / 4 ≡ c
    → (x ≡ dart_in c (p + 1)) ⊎ ((x ≡ dart_in c (p + 2)) ⊎ ((x ≡ dart_in c (p + 3)) ⊎ (x ≡ dart_in c p)))
dart_cases c p x is = grind arith

dart_in-turned_last : (c slot : ℕ) → turned (dart_in c slot) ≡ dart_in c (slot + 3)
dart_in-turned_last c slot = omega arith

pub dart_in-apart : (c slot : ℕ) → (dart_in c (slot + 1) ≢ dart_in c (slot + 2)) × (dart_in c (slot + 3) ≢ dart_in c slot)
    × (dart_in c (slot + 3) ≢ dart_in c (slot + 1)) × (dart_in c (slot + 3) ≢ dart_in c (slot + 2))
    × (dart_in c slot ≢ dart_in c (slot + 1)) × (dart_in c slot ≢ dart_in c (slot + 2))
dart_in-apart c slot = (omega arith, omega arith, omega arith, omega arith, omega arith, omega arith)

pulled-fixed : (partner : ℕ → ℕ) (s t x : ℕ) → partner x ≡ x → x ≢ s → x ≢ t → pulled partner s t x ≡ x
pulled-fixed partner s t x fixed not_s not_t = grind (arith, nat_tests)

-- the pulled darts have arcs
pub holds-twice : (n : ℕ) (partner : ℕ → ℕ) (c p : ℕ) → IsClosedPlanar n partner → c < n
    → AreHeld (4 * n) partner (dart_in c (p + 1)) (dart_in c (p + 2))
    × AreHeld (4 * n) (pulled partner (dart_in c (p + 1)) (dart_in c (p + 2))) (dart_in c (p + 3)) (dart_in c p)
holds-twice n partner c p closed below = grind (arith, nat_tests)

pub record IsBared (n : ℕ) (partner : ℕ → ℕ) (c p : ℕ) : Type 0 where
  pub pairing : IsPairing (4 * n) (bared partner c p)
  pub planar : IsPlanar n (bared partner c p)
  pub there : (x : ℕ) → x / 4 ≡ c → bared partner c p x ≡ x
  pub elsewhere : (x : ℕ) → x < 4 * n → x / 4 ≢ c → bared partner c p x ≢ x

pub IsBared-closed : (n : ℕ) (partner : ℕ → ℕ) (c p : ℕ) → IsClosedPlanar n partner → c < n → IsBared n partner c p
IsBared-closed n partner c p closed below =
    let apart = dart_in-apart c p in
    let s = dart_in c (p + 1) in
    let t = dart_in c (p + 2) in
    let u = dart_in c (p + 3) in
    let v = dart_in c p in
    let holds = holds-twice n partner c p closed below in
    let held = holds.0 in
    let held_more = holds.1 in
    let pairing = IsPairing-pulled (4 * n) partner s t closed.pairing held in
    let planar = IsPlanar-pulled n partner s t closed.pairing closed.planar held
    (let e : p + 2 ≡ p + 1 + 1 = omega arith in ap (λ q. turned (dart_in c q)) e ∙ dart_in-turned c (p + 1)) in
    let one_held : (x : ℕ) → x < 4 * n → x ≢ s → x ≢ t → pulled partner s t x ≢ x =
    λ x x_below. pulled-held (4 * n) partner s t x closed.pairing held x_below (closed.other x x_below) in
    record {
      pairing = IsPairing-pulled (4 * n) (pulled partner s t) u v pairing held_more;
      planar = IsPlanar-pulled n (pulled partner s t) u v pairing planar held_more (dart_in-turned_last c p);
      there = λ x is. elim (dart_cases c p x is) [
        | inl a ↦
            ap (bared partner c p) a
            ∙ pulled-fixed (pulled partner s t) u v s (pulled-first partner s t) (λ same. apart.2 (sym same)) (λ same. apart.4 (sym same))
            ∙ sym a
        | inr b ↦ elim b [
          | inl a ↦
              ap (bared partner c p) a
              ∙ pulled-fixed (pulled partner s t) u v t (pulled-second partner s t) (λ same. apart.3 (sym same))
              (λ same. apart.5 (sym same)) ∙ sym a
          | inr d ↦ elim d [
            | inl a ↦ ap (bared partner c p) a ∙ pulled-first (pulled partner s t) u v ∙ sym a
            | inr a ↦ ap (bared partner c p) a ∙ pulled-second (pulled partner s t) u v ∙ sym a
          ]
        ]
      ];
      elsewhere = λ x x_below away.
          let not : (slot : ℕ) → x ≢ dart_in c slot = λ slot same. away (ap (λ z. z / 4) same ∙ place_in c slot) in
          pulled-held (4 * n) (pulled partner s t) u v x pairing held_more x_below
          (one_held x x_below (not (p + 1)) (not (p + 2))) (not (p + 3)) (not p);
    }

-- names that partners share, and the darts that are joined at the crossing too
pub bared-named : (n : ℕ) (partner : ℕ → ℕ) (c p : ℕ) (name : ℕ → ℕ) → IsClosedPlanar n partner → c < n
    → ((x : ℕ) → x < 4 * n → name (partner x) ≡ name x) → name (dart_in c (p + 1)) ≡ name (dart_in c (p + 2))
    → name (dart_in c (p + 3)) ≡ name (dart_in c p) → (x : ℕ) → x < 4 * n → name (bared partner c p x) ≡ name x
bared-named n partner c p name closed below named first second x has11 = grind (arith, nat_tests)

-- the numbers of crossings, and of darts, with one put last

pub IsPermutation-late : (c k : ℕ) → c ≤ k → IsPermutation (k + 1) (late c k) (early c k)
IsPermutation-late c k within = grind (arith, nat_tests)

pub block_place : (a x : ℕ) → (4 * a + x % 4) / 4 ≡ a
block_place a x = omega arith

pub block_slot : (a x : ℕ) → (4 * a + x % 4) % 4 ≡ x % 4
block_slot a x = omega arith

-- a permutation of crossings, of their darts
abbrev pub dartwise : (ℕ → ℕ) → ℕ → ℕ
dartwise f x = 4 * f (x / 4) + x % 4

pub IsPermutation-dartwise : (n : ℕ) (f back : ℕ → ℕ) → IsPermutation n f back → IsPermutation (4 * n) (dartwise f) (dartwise back)
IsPermutation-dartwise n f back permuted = grind (arith, nat_tests)

turned_slot : (x : ℕ) → turned x % 4 ≡ (x % 4 + 3) % 4
turned_slot x = omega arith

dartwise-turned : (f : ℕ → ℕ) (x : ℕ) → turned (dartwise f x) ≡ dartwise f (turned x)
dartwise-turned f x = grind (arith, nat_tests, block_place (f (x / 4)) x, block_slot (f (x / 4)) x, turned_slot x, turned-crossing x)

-- the open darts of one bare crossing

open_dart_count-one : (n : ℕ) (partner : ℕ → ℕ) (c : ℕ) → c < n → ((x : ℕ) → x / 4 ≡ c → partner x ≡ x)
    → ((x : ℕ) → x < 4 * n → x / 4 ≢ c → partner x ≢ x) → open_dart_count n partner ≡ 4
open_dart_count-one n partner c below there elsewhere =
    let m = 4 * n in
    let none : ℕ → Bool = λ x. false in
    let one : ℕ → Bool = λ x. nat_eq x (4 * c) in
    let two : ℕ → Bool = λ x. nat_eq x (4 * c) || nat_eq x (4 * c + 1) in
    let three : ℕ → Bool = λ x. nat_eq x (4 * c) || (nat_eq x (4 * c + 1) || nat_eq x (4 * c + 2)) in
    let four : ℕ → Bool = λ x. nat_eq x (4 * c) || (nat_eq x (4 * c + 1) || (nat_eq x (4 * c + 2) || nat_eq x (4 * c + 3))) in
    let first = count_by-one_more (λ x. nat_eq x (4 * c)) (λ x. false) 0 (4 * n) (4 * c) (omega arith) (omega (arith, below))
    (grind (arith, nat_tests)) refl (λ k other. one_step c k other) in
    let second = count_by-one_more (λ x. nat_eq x (4 * c) || nat_eq x (4 * c + 1)) (λ x. nat_eq x (4 * c)) 0 (4 * n) (4 * c + 1)
    (omega arith) (omega (arith, below)) (grind (arith, nat_tests)) (grind (arith, nat_tests)) (λ k other. two_step c k other) in
    let third = count_by-one_more (λ x. nat_eq x (4 * c) || (nat_eq x (4 * c + 1) || nat_eq x (4 * c + 2)))
    (λ x. nat_eq x (4 * c) || nat_eq x (4 * c + 1)) 0 (4 * n) (4 * c + 2)
    (omega arith) (omega (arith, below)) (grind (arith, nat_tests)) (grind (arith, nat_tests)) (λ k other. three_step c k other) in
    let fourth = count_by-one_more (λ x. nat_eq x (4 * c) || (nat_eq x (4 * c + 1) || (nat_eq x (4 * c + 2) || nat_eq x (4 * c + 3))))
    (λ x. nat_eq x (4 * c) || (nat_eq x (4 * c + 1) || nat_eq x (4 * c + 2))) 0 (4 * n) (4 * c + 3)
    (omega arith) (omega (arith, below)) (grind (arith, nat_tests)) (grind (arith, nat_tests)) (λ k other. four_step c k other) in
    let alike = count_by-alike (is_open partner)
    (λ x. nat_eq x (4 * c) || (nat_eq x (4 * c + 1) || (nat_eq x (4 * c + 2) || nat_eq x (4 * c + 3)))) 0 (4 * n)
    (λ x from x_below.
    elim (cases_eq (x / 4) c) [
      | inl is ↦ eq-eqb (partner x) x (there x is) ∙ sym (four_there c x is)
      | inr away ↦ ne_eqb (partner x) x (elsewhere x (omega (arith, x_below)) away) ∙ sym (four_elsewhere c x away)
    ]) in
    omega (arith, alike, first, second, third, fourth, count_none 0 (4 * n))
  where
    one_step : (c k : ℕ) → k ≢ 4 * c → nat_eq k (4 * c) ≡ false
    one_step c k other = grind (arith, nat_tests)

    two_step : (c k : ℕ) → k ≢ 4 * c + 1 → (nat_eq k (4 * c) || nat_eq k (4 * c + 1)) ≡ nat_eq k (4 * c)
    two_step c k other = grind (arith, nat_tests)

    three_step : (c k : ℕ) → k ≢ 4 * c + 2
        → (nat_eq k (4 * c) || (nat_eq k (4 * c + 1) || nat_eq k (4 * c + 2))) ≡ (nat_eq k (4 * c) || nat_eq k (4 * c + 1))
    three_step c k other = grind (arith, nat_tests)

    four_step : (c k : ℕ) → k ≢ 4 * c + 3
        → (nat_eq k (4 * c) || (nat_eq k (4 * c + 1) || (nat_eq k (4 * c + 2) || nat_eq k (4 * c + 3))))
        ≡ (nat_eq k (4 * c) || (nat_eq k (4 * c + 1) || nat_eq k (4 * c + 2)))
    four_step c k other = grind (arith, nat_tests)

    one_of_four : (c x : ℕ) → x / 4 ≡ c → (x ≡ 4 * c) ⊎ ((x ≡ 4 * c + 1) ⊎ ((x ≡ 4 * c + 2) ⊎ (x ≡ 4 * c + 3)))
    one_of_four c x is = grind (arith, is)

    four_there : (c x : ℕ) → x / 4 ≡ c → (nat_eq x (4 * c) || (nat_eq x (4 * c + 1) || (nat_eq x (4 * c + 2) || nat_eq x (4 * c + 3)))) ≡ true
    four_there c x is = grind (arith, nat_tests, one_of_four c x is)

    four_elsewhere : (c x : ℕ) → x / 4 ≢ c
        → (nat_eq x (4 * c) || (nat_eq x (4 * c + 1) || (nat_eq x (4 * c + 2) || nat_eq x (4 * c + 3)))) ≡ false
    four_elsewhere c x away = grind (arith, nat_tests)

    count_none : (a n : ℕ) → count_by (λ x. false) (range_with_len a n) ≡ 0
    count_none a zero = refl
    count_none a (suc n) = count_none (a + 1) n

-- partners under other names of the darts
IsPairing-renamed : (m : ℕ) (partner name old : ℕ → ℕ) → IsPairing m partner → IsPermutation m name old
    → IsPairing m (λ x. name (partner (old x)))
IsPairing-renamed m partner name old pairing permuted = grind (arith, nat_tests)

-- without a crossing that is smoothed away the others stay on the sphere
pub IsClosedPlanar-smoothed : (k : ℕ) (partner : ℕ → ℕ) (c p : ℕ) → IsClosedPlanar (k + 1) partner → c ≤ k
    → IsClosedPlanar k (smoothed partner c k p)
IsClosedPlanar-smoothed k partner c p closed within =
    let n = k + 1 in
    let bare = IsBared-closed (k + 1) partner c p closed (omega (arith, within)) in
    let crossings = IsPermutation-late c k within in
    let darts = IsPermutation-dartwise (k + 1) (late c k) (early c k) crossings in
    let pairing = IsPairing-renamed (4 * (k + 1)) (bared partner c p) (late_dart c k) (early_dart c k) bare.pairing darts in
    let to_c : (x : ℕ) → x / 4 ≡ k → early_dart c k x / 4 ≡ c =
    λ x is. block_place (early c k (x / 4)) x ∙ ap (early c k) is ∙ early_last c k within in
    let last : (x : ℕ) → x < 4 * (k + 1) → x / 4 ≡ k → smoothed partner c k p x ≡ x =
    λ x below is. ap (late_dart c k) (bare.there (early_dart c k x) (to_c x is)) ∙ darts.f_back x below in
    let first : (x : ℕ) → x < 4 * (k + 1) → x / 4 ≢ k → smoothed partner c k p x ≢ x =
    λ x below away same.
    let y_below = darts.back_below x below in
    bare.elsewhere (early_dart c k x) y_below
    (λ is. away (from_c c k (x / 4) within (crossing-below (k + 1) x below) (sym (block_place (early c k (x / 4)) x) ∙ is)))
    (sym (darts.back_f (bared partner c p (early_dart c k x)) (bare.pairing.below (early_dart c k x) y_below))
    ∙ ap (early_dart c k) same) in
    let in_order : (x : ℕ) → x < 4 * (k + 1) → smoothed partner c k p (late_dart c k x) ≡ late_dart c k (bared partner c p x) =
    λ x below. ap (λ z. late_dart c k (bared partner c p z)) (darts.back_f x below) in
    let faces = open_face_count-renamed (k + 1) (bared partner c p) (smoothed partner c k p) (late_dart c k) (early_dart c k)
    bare.pairing pairing darts in_order (λ x below. dartwise-turned (late c k) x) in
    let pieces = open_piece_count-renamed (k + 1) (bared partner c p) (smoothed partner c k p) (late_dart c k) (early_dart c k)
    (late c k) (early c k) bare.pairing pairing darts crossings in_order (λ x below. block_place (late c k (x / 4)) x) in
    let open_before = open_dart_count-one (k + 1) (bared partner c p) c (omega (arith, within)) bare.there bare.elsewhere in
    let open_after = open_dart_count-last k (smoothed partner c k p) last first in
    let planar : IsPlanar (k + 1) (smoothed partner c k p) = omega (arith, bare.planar, faces, pieces, open_before, open_after) in
    let stays : (x : ℕ) → x < 4 * k → smoothed partner c k p x < 4 * k =
    λ x below.
    let large : x < 4 * (k + 1) = omega (arith, below) in
    let y = smoothed partner c k p x in
    let y_below = pairing.below x large in
    elim (cases_lt y (4 * k)) [
      | inl low ↦ low
      | inr high ↦
          let at_last : y / 4 ≡ k = omega (arith, high, y_below) in
          let fixed = last y y_below at_last in
          absurd (first x large (omega (arith, below)) (sym fixed ∙ pairing.back x large))
    ] in
    let small : IsPairing (4 * k) (smoothed partner c k p) = record {
      below = stays;
      back = λ x below. pairing.back x (omega (arith, below));
    } in
    record {
      pairing = small;
      other = λ x below. first x (omega (arith, below)) (omega (arith, below));
      planar = IsPlanar-not_bare k (smoothed partner c k p) (smoothed partner c k p) small (λ x below. refl)
          (λ x from below. last x below (omega (arith, from, below))) planar;
    }
  where
    early_last : (c k : ℕ) → c ≤ k → early c k k ≡ c
    early_last c k within = grind (arith, nat_tests)

    from_c : (c k x : ℕ) → c ≤ k → x < k + 1 → early c k x ≡ c → x ≡ k
    from_c c k x within below is = grind (arith, nat_tests)

    open_dart_count-last : (k : ℕ) (partner : ℕ → ℕ) → ((x : ℕ) → x < 4 * (k + 1) → x / 4 ≡ k → partner x ≡ x)
        → ((x : ℕ) → x < 4 * (k + 1) → x / 4 ≢ k → partner x ≢ x) → open_dart_count (k + 1) partner ≡ 4
    open_dart_count-last k partner last first =
        open_dart_count-one (k + 1) partner k (omega arith) (λ x is. last x (omega (arith, is)) is) first

-- names that partners share, and the darts that are joined at the crossing too, are shared by the partners that are left
pub smoothed-named : (k : ℕ) (partner : ℕ → ℕ) (c p : ℕ) (name : ℕ → ℕ) → IsClosedPlanar (k + 1) partner → c ≤ k
    → ((x : ℕ) → x < 4 * (k + 1) → name (partner x) ≡ name x) → name (dart_in c (p + 1)) ≡ name (dart_in c (p + 2))
    → name (dart_in c (p + 3)) ≡ name (dart_in c p)
    → (x : ℕ) → x < 4 * k → name (early_dart c k (smoothed partner c k p x)) ≡ name (early_dart c k x)
smoothed-named k partner c p name closed within named first second x below =
    let bare = IsBared-closed (k + 1) partner c p closed (omega (arith, within)) in
    let darts = IsPermutation-dartwise (k + 1) (late c k) (early c k) (IsPermutation-late c k within) in
    let y_below = darts.back_below x (omega (arith, below)) in
    ap name (darts.back_f (bared partner c p (early_dart c k x)) (bare.pairing.below (early_dart c k x) y_below))
    ∙ bared-named (k + 1) partner c p name closed (omega (arith, within)) named first second (early_dart c k x) y_below
