-- A crossing at which two arcs touch, and a finger, which is two of these. Crossings stay planar where one more is added at which
-- two arcs touch, if the sides that touch are on one face, or the arcs are in two pieces. The first arc is hooked on two darts of a
-- bare crossing, and the second on the other two. After the first, darts that were on one face still are, and the two darts
-- that are left are on the face of the side that was hooked; the pieces are as before, with the crossing in that of the arc. With
-- a finger, two crossings meet in a bigon: at the first the two arcs touch; at the second so do two of the four arcs that meet
-- there, at neighbouring slots, so that their sides are of one face.
use Rattle.std.proofs.Common.{◌≡◌, ◌≢◌, ℕ, ◌⊎◌, inl, inr, ◌+◌, ◌*◌, ◌/◌, ◌<◌, ◌≤◌, ◌∙◌, sym, ap, subst, arith}
use Rattle.std.specs.Prelude.{slice_index}
use Rattle.std.proofs.lemmas.Bool.{cases_eq, cases_lt}
use Rattle.std.proofs.lemmas.Bool.Decides.{nat_tests}
use Rattle.kh_types.specs.Darts.{IsPairing, turned, face_step}
use Rattle.kh_types.specs.Faces.{open_faces, open_pieces}
use Rattle.face_walk.proofs.OpenFaces.{AreCycles-open_faces}
use Rattle.kink_and_finger_laws.specs.Pulls.{IsClosedPlanar, dart_in}
use Rattle.kink_and_finger_laws.proofs.Hooked.{hooked, AreHooked, AreHooked-hooked, IsHook, IsPairing-hooked, IsPlanar-hooked}
use Rattle.kink_and_finger_laws.proofs.KinkAdded.{IsHook-bare, IsPairing-bare, IsPlanar-hooked_bare, pieces-hooked_bare, bare-high, bare-low}
use Rattle.kink_and_finger_laws.proofs.PulledDarts.{with_bare}

-- two arcs touch at one more crossing: the one at x between two of its slots, the one at y between the two others
abbrev half_touched : ℕ → (ℕ → ℕ) → ℕ → ℕ → ℕ → ℕ
half_touched n partner x p = hooked (with_bare n partner) x (dart_in n (p + 2)) (dart_in n (p + 1))

abbrev pub touched : ℕ → (ℕ → ℕ) → ℕ → ℕ → ℕ → ℕ → ℕ
touched n partner x y p = hooked (half_touched n partner x p) y (dart_in n p) (dart_in n (p + 3))

-- two different arcs, at darts that are on one face or in two pieces
pub record CanTouch (n : ℕ) (partner : ℕ → ℕ) (x y : ℕ) : Type 0 where
  pub x_below : x < 4 * n
  pub y_below : y < 4 * n
  pub apart : y ≢ x
  pub not_partners : y ≢ partner x
  pub places : (slice_index (open_faces n partner) y ≡ slice_index (open_faces n partner) x)
      ⊎ (slice_index (open_pieces n partner) (y / 4) ≢ slice_index (open_pieces n partner) (x / 4))

-- the partners then
pub record AreTouched (n : ℕ) (partner : ℕ → ℕ) (x y p : ℕ) (new : ℕ → ℕ) : Type 0 where
  pub first : new x ≡ dart_in n (p + 1)
  pub first_back : new (dart_in n (p + 1)) ≡ x
  pub first_other : new (partner x) ≡ dart_in n (p + 2)
  pub first_other_back : new (dart_in n (p + 2)) ≡ partner x
  pub second : new y ≡ dart_in n (p + 3)
  pub second_back : new (dart_in n (p + 3)) ≡ y
  pub second_other : new (partner y) ≡ dart_in n p
  pub second_other_back : new (dart_in n p) ≡ partner y
  pub old : (z : ℕ) → z < 4 * n → z ≢ x → z ≢ partner x → z ≢ y → z ≢ partner y → new z ≡ partner z

-- four darts of the new crossing
record AreRound (n p : ℕ) : Type 0 where
  zero_from : 4 * n ≤ dart_in n p
  one_from : 4 * n ≤ dart_in n (p + 1)
  two_from : 4 * n ≤ dart_in n (p + 2)
  three_from : 4 * n ≤ dart_in n (p + 3)
  zero_below : dart_in n p < 4 * (n + 1)
  one_below : dart_in n (p + 1) < 4 * (n + 1)
  two_below : dart_in n (p + 2) < 4 * (n + 1)
  three_below : dart_in n (p + 3) < 4 * (n + 1)
  one_zero : turned (dart_in n (p + 1)) ≡ dart_in n p
  two_one : turned (dart_in n (p + 2)) ≡ dart_in n (p + 1)
  three_two : turned (dart_in n (p + 3)) ≡ dart_in n (p + 2)
  zero_three : turned (dart_in n p) ≡ dart_in n (p + 3)
  apart_0_1 : dart_in n p ≢ dart_in n (p + 1)
  apart_0_2 : dart_in n p ≢ dart_in n (p + 2)
  apart_0_3 : dart_in n p ≢ dart_in n (p + 3)
  apart_1_2 : dart_in n (p + 1) ≢ dart_in n (p + 2)
  apart_1_3 : dart_in n (p + 1) ≢ dart_in n (p + 3)
  apart_2_3 : dart_in n (p + 2) ≢ dart_in n (p + 3)
  all : (z : ℕ) → 4 * n ≤ z → z < 4 * (n + 1)
      → ((z ≡ dart_in n p) ⊎ (z ≡ dart_in n (p + 1))) ⊎ ((z ≡ dart_in n (p + 2)) ⊎ (z ≡ dart_in n (p + 3)))

AreRound-crossing : (n p : ℕ) → AreRound n p
AreRound-crossing n p = grind (arith, nat_tests)

-- what the partners are after the first of the two arcs
record AreHalf (n : ℕ) (partner : ℕ → ℕ) (x p : ℕ) (half : ℕ → ℕ) : Type 0 where
  first : half x ≡ dart_in n (p + 1)
  first_back : half (dart_in n (p + 1)) ≡ x
  other : half (partner x) ≡ dart_in n (p + 2)
  other_back : half (dart_in n (p + 2)) ≡ partner x
  old : (z : ℕ) → z < 4 * n → z ≢ x → z ≢ partner x → half z ≡ partner z
  zero_open : half (dart_in n p) ≡ dart_in n p
  three_open : half (dart_in n (p + 3)) ≡ dart_in n (p + 3)

AreHalf-touched : (n : ℕ) (partner : ℕ → ℕ) (x p : ℕ) → IsClosedPlanar n partner → x < 4 * n
    → AreHalf n partner x p (half_touched n partner x p)
AreHalf-touched n partner x p closed x_below =
    let round = AreRound-crossing n p in
    by round
    (AreHooked-hooked (4 * (n + 1)) (with_bare n partner) x (dart_in n (p + 2)) (dart_in n (p + 1)) (IsPairing-bare n partner closed.pairing)
    (IsHook-bare n partner x (dart_in n (p + 2)) (dart_in n (p + 1)) closed x_below round.two_from round.two_below round.two_one))
  where
    by : AreRound n p → AreHooked (4 * (n + 1)) (with_bare n partner) (half_touched n partner x p) x (dart_in n (p + 2)) (dart_in n (p + 1))
        → AreHalf n partner x p (half_touched n partner x p)
    by round are = grind (arith, nat_tests, bare-low n partner, bare-high n partner)

IsHook-half : (n : ℕ) (partner half : ℕ → ℕ) (x y p : ℕ) → IsClosedPlanar n partner → CanTouch n partner x y → AreHalf n partner x p half
    → IsHook (4 * (n + 1)) half y (dart_in n p) (dart_in n (p + 3))
IsHook-half n partner half x y p closed can are = grind (arith, nat_tests, AreRound-crossing n p)

pub AreTouched-touched : (n : ℕ) (partner : ℕ → ℕ) (x y p : ℕ) → IsClosedPlanar n partner → CanTouch n partner x y
    → AreTouched n partner x y p (touched n partner x y p)
AreTouched-touched n partner x y p closed can =
    let half = half_touched n partner x p in
    let round = AreRound-crossing n p in
    let bare_pairing = IsPairing-bare n partner closed.pairing in
    let are_half = AreHalf-touched n partner x p closed can.x_below in
    by round are_half
    (AreHooked-hooked (4 * (n + 1)) half y (dart_in n p) (dart_in n (p + 3))
    (IsPairing-hooked (4 * (n + 1)) (with_bare n partner) x (dart_in n (p + 2)) (dart_in n (p + 1)) bare_pairing
    (IsHook-bare n partner x (dart_in n (p + 2)) (dart_in n (p + 1)) closed can.x_below round.two_from round.two_below round.two_one))
    (IsHook-half n partner half x y p closed can are_half))
  where
    by : AreRound n p → AreHalf n partner x p (half_touched n partner x p)
        → AreHooked (4 * (n + 1)) (half_touched n partner x p) (touched n partner x y p) y (dart_in n p) (dart_in n (p + 3))
        → AreTouched n partner x y p (touched n partner x y p)
    by round half are = grind (arith, nat_tests)

-- darts that were on one face still are, and on the face of the side that was hooked is a dart that is left
faces-half : (n : ℕ) (partner half : ℕ → ℕ) (x y p : ℕ) → IsPairing (4 * n) partner → IsPairing (4 * (n + 1)) half
    → AreHalf n partner x p half → x < 4 * n → y < 4 * n → slice_index (open_faces n partner) y ≡ slice_index (open_faces n partner) x
    → slice_index (open_faces (n + 1) half) y ≡ slice_index (open_faces (n + 1) half) (dart_in n p)
faces-half n partner half x y p pairing half_pairing are x_below y_below same =
    let round = AreRound-crossing n p in
    let g : ℕ → ℕ = λ z. slice_index (open_faces (n + 1) half) z in
    let cycles = AreCycles-open_faces (n + 1) half half_pairing in
    let to : (z w : ℕ) → z < 4 * (n + 1) → half z ≡ w → g z ≡ g (turned w) = λ z w below is. sym (cycles.step z below) ∙ ap (λ v. g (turned v)) is in
    let on : (z w v : ℕ) → z < 4 * (n + 1) → half z ≡ w → turned w ≡ v → g z ≡ g v = λ z w v below is next. to z w below is ∙ ap g next in
    let x_wide : x < 4 * (n + 1) = omega (arith, x_below) in
    let x_zero = on x (dart_in n (p + 1)) (dart_in n p) x_wide are.first round.one_zero in
    let zero_other = on (dart_in n p) (dart_in n p) (dart_in n (p + 3)) round.zero_below are.zero_open round.zero_three
    ∙ on (dart_in n (p + 3)) (dart_in n (p + 3)) (dart_in n (p + 2)) round.three_below are.three_open round.three_two
    ∙ to (dart_in n (p + 2)) (partner x) round.two_below are.other_back in
    let kept : (z : ℕ) → z < 4 * n → g z ≡ g (face_step partner z) =
    λ z below. elim (cases_eq z x) [
      | inl is ↦ ap g is ∙ x_zero ∙ zero_other ∙ ap (λ w. g (turned (partner w))) (sym is)
      | inr not_x ↦ elim (cases_eq z (partner x)) [
        | inl is ↦
            ap g is ∙ on (partner x) (dart_in n (p + 2)) (dart_in n (p + 1)) (omega (arith, pairing.below x x_below)) are.other round.two_one
            ∙ to (dart_in n (p + 1)) x round.one_below are.first_back ∙ ap (λ w. g (turned w)) (sym (pairing.back x x_below))
            ∙ ap (λ w. g (turned (partner w))) (sym is)
        | inr not_other ↦ to z (partner z) (omega (arith, below)) (are.old z below not_x not_other)
      ]
    ] in
    (AreCycles-open_faces n partner pairing).finest g kept y x y_below x_below same ∙ x_zero

-- so crossings stay planar with one more, at which two arcs touch
pub IsClosedPlanar-touched : (n : ℕ) (partner : ℕ → ℕ) (x y p : ℕ) → IsClosedPlanar n partner → CanTouch n partner x y
    → IsClosedPlanar (n + 1) (touched n partner x y p)
IsClosedPlanar-touched n partner x y p closed can =
    let half = half_touched n partner x p in
    let round = AreRound-crossing n p in
    let bare_pairing = IsPairing-bare n partner closed.pairing in
    let are = AreHalf-touched n partner x p closed can.x_below in
    let hook = IsHook-bare n partner x (dart_in n (p + 2)) (dart_in n (p + 1)) closed can.x_below round.two_from round.two_below round.two_one in
    let half_pairing = IsPairing-hooked (4 * (n + 1)) (with_bare n partner) x (dart_in n (p + 2)) (dart_in n (p + 1)) bare_pairing hook in
    let half_planar = IsPlanar-hooked_bare n partner x (dart_in n (p + 2)) (dart_in n (p + 1)) closed can.x_below round.two_from round.two_below
    round.two_one in
    let then_hook = IsHook-half n partner half x y p closed can are in
    record {
      pairing = IsPairing-hooked (4 * (n + 1)) half y (dart_in n p) (dart_in n (p + 3)) half_pairing then_hook;
      planar = IsPlanar-hooked (n + 1) half y (dart_in n p) (dart_in n (p + 3)) half_pairing then_hook
          (elim can.places [
            | inl same ↦ inl (faces-half n partner half x y p closed.pairing half_pairing are can.x_below can.y_below same)
            | inr apart ↦ inr (λ same.
                apart
                (pieces-hooked_bare n partner x y (dart_in n (p + 2)) (dart_in n (p + 1)) closed can.x_below can.y_below round.two_from
                round.two_below round.two_one (same ∙ ap (λ k. slice_index (open_pieces (n + 1) half) k) (zero_two n p))))
          ]) half_planar;
      other = λ z below. none_alone z round below (AreTouched-touched n partner x y p closed can);
    }
  where
    zero_two : (n p : ℕ) → dart_in n p / 4 ≡ dart_in n (p + 2) / 4
    zero_two n p = omega arith

    none_alone : (z : ℕ) → AreRound n p → z < 4 * (n + 1) → AreTouched n partner x y p (touched n partner x y p)
        → touched n partner x y p z ≢ z
    none_alone z round below are =
        grind (arith, nat_tests, closed, can, round.all z, cases_lt z (4 * n))

-- two crossings that meet in a bigon, from a slot of each: at the first the two arcs touch; at the second so do the first arc's end
-- at x and the second's at its other end
abbrev pub bigon_partner : ℕ → (ℕ → ℕ) → ℕ → ℕ → ℕ → ℕ → ℕ → ℕ
bigon_partner n partner x y p q = touched (n + 1) (touched n partner x y p) x (dart_in n p) (q + 2)

-- the partners then
pub record AreBigon (n : ℕ) (partner : ℕ → ℕ) (x y p q : ℕ) (new : ℕ → ℕ) : Type 0 where
  pub first : new x ≡ dart_in (n + 1) (q + 3)
  pub first_back : new (dart_in (n + 1) (q + 3)) ≡ x
  pub first_other : new (partner x) ≡ dart_in n (p + 2)
  pub first_other_back : new (dart_in n (p + 2)) ≡ partner x
  pub second : new y ≡ dart_in n (p + 3)
  pub second_back : new (dart_in n (p + 3)) ≡ y
  pub second_other : new (partner y) ≡ dart_in (n + 1) (q + 2)
  pub second_other_back : new (dart_in (n + 1) (q + 2)) ≡ partner y
  pub side : new (dart_in n p) ≡ dart_in (n + 1) (q + 1)
  pub side_back : new (dart_in (n + 1) (q + 1)) ≡ dart_in n p
  pub other_side : new (dart_in (n + 1) q) ≡ dart_in n (p + 1)
  pub other_side_back : new (dart_in n (p + 1)) ≡ dart_in (n + 1) q
  pub old : (z : ℕ) → z < 4 * n → z ≢ x → z ≢ partner x → z ≢ y → z ≢ partner y → new z ≡ partner z

CanTouch-again : (n : ℕ) (partner : ℕ → ℕ) (x y p : ℕ) → IsClosedPlanar n partner → CanTouch n partner x y
    → CanTouch (n + 1) (touched n partner x y p) x (dart_in n p)
CanTouch-again n partner x y p closed can =
    let are = AreTouched-touched n partner x y p closed can in
    let round = AreRound-crossing n p in
    let x_wide : x < 4 * (n + 1) = omega (arith, can.x_below) in
    record {
      x_below = x_wide;
      y_below = round.zero_below;
      apart = λ same. omega (arith, same, round.zero_from, can.x_below);
      not_partners = λ same. round.apart_0_1 (same ∙ are.first);
      places = inl (ap (λ z. slice_index (open_faces (n + 1) (touched n partner x y p)) z) (sym round.one_zero ∙ ap turned (sym are.first))
          ∙ (AreCycles-open_faces (n + 1) (touched n partner x y p) (IsClosedPlanar-touched n partner x y p closed can).pairing).step x x_wide);
    }

pub IsClosedPlanar-bigon : (n : ℕ) (partner : ℕ → ℕ) (x y p q : ℕ) → IsClosedPlanar n partner → CanTouch n partner x y
    → IsClosedPlanar (n + 2) (bigon_partner n partner x y p q)
IsClosedPlanar-bigon n partner x y p q closed can =
    let two : n + 1 + 1 ≡ n + 2 = omega arith in
    subst (λ (k : ℕ). IsClosedPlanar k (bigon_partner n partner x y p q)) two
    (IsClosedPlanar-touched (n + 1) (touched n partner x y p) x (dart_in n p) (q + 2) (IsClosedPlanar-touched n partner x y p closed can)
    (CanTouch-again n partner x y p closed can))

pub AreBigon-bigon : (n : ℕ) (partner : ℕ → ℕ) (x y p q : ℕ) → IsClosedPlanar n partner → CanTouch n partner x y
    → AreBigon n partner x y p q (bigon_partner n partner x y p q)
AreBigon-bigon n partner x y p q closed can =
    by (AreRound-crossing n p) (AreTouched-touched n partner x y p closed can)
    (AreTouched-touched (n + 1) (touched n partner x y p) x (dart_in n p) (q + 2) (IsClosedPlanar-touched n partner x y p closed can)
    (CanTouch-again n partner x y p closed can))
  where
    by : {once new : ℕ → ℕ} → AreRound n p → AreTouched n partner x y p once → AreTouched (n + 1) once x (dart_in n p) (q + 2) new
        → AreBigon n partner x y p q new
    by {once} {new} round first second = grind (arith, nat_tests, closed, can)

-- names of darts that partners share at the two crossings, and at the darts that keep their partners
pub record AreBigonNames (n : ℕ) (partner : ℕ → ℕ) (x y p q : ℕ) (name : ℕ → ℕ) : Type 0 where
  pub first : name x ≡ name (dart_in (n + 1) (q + 3))
  pub first_other : name (partner x) ≡ name (dart_in n (p + 2))
  pub second : name y ≡ name (dart_in n (p + 3))
  pub second_other : name (partner y) ≡ name (dart_in (n + 1) (q + 2))
  pub side : name (dart_in n p) ≡ name (dart_in (n + 1) (q + 1))
  pub other_side : name (dart_in (n + 1) q) ≡ name (dart_in n (p + 1))
  pub old : (z : ℕ) → z < 4 * n → z ≢ x → z ≢ partner x → z ≢ y → z ≢ partner y → name (partner z) ≡ name z

-- are shared by all
pub bigon_names : (n : ℕ) (partner : ℕ → ℕ) (x y p q : ℕ) (name new : ℕ → ℕ) → AreBigonNames n partner x y p q name
    → AreBigon n partner x y p q new → (z : ℕ) → z < 4 * (n + 2) → name (new z) ≡ name z
bigon_names n partner x y p q name new names are z below =
    grind (arith, nat_tests, (AreRound-crossing n p).all z, (AreRound-crossing (n + 1) q).all z, cases_lt z (4 * n), cases_lt z (4 * (n + 1)))
