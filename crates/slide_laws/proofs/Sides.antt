-- The sides of a triangle, for a partner function of places.
use Rattle.std.proofs.lemmas.Bool.Decides.{nat_tests}
use Rattle.std.proofs.Common.{◌≡◌, ℕ, ◌*◌, ◌<◌, ◌∙◌, List, length, sym, ap, subst, arith}
use Rattle.kh_types.specs.Darts.{IsPairing, HasArcsTwice, partner_at, turned}
use Rattle.kh_types.proofs.DartPairs.{IsPairing-partner_at}
use Rattle.face_walk.proofs.OpenFaces.{turned-below}
use Rattle.slide_laws.specs.Triangles.{IsTriangle}
use Rattle.slide_laws.specs.Slid.{on, source}
use Rattle.slide_laws.proofs.Corners.{AreApart, on-crossing, on-below, on-on, source-y, source-below, source-source, source-rotated}

-- a pairing of the darts of n crossings has a triangle at x, y and z: its sides
pub record HasSides (n : ℕ) (partner : ℕ → ℕ) (x y z : ℕ) : Type 0 where
  pub apart : AreApart x y z
  pub x_below : x < 4 * n
  pub y_below : y < 4 * n
  pub z_below : z < 4 * n
  pub from_x : partner x ≡ on y 1
  pub from_y : partner y ≡ on z 1
  pub from_z : partner z ≡ on x 1
  pub to_x : partner (on x 1) ≡ z
  pub to_y : partner (on y 1) ≡ x
  pub to_z : partner (on z 1) ≡ y

pub HasSides-rotated : (n : ℕ) (partner : ℕ → ℕ) (x y z : ℕ) → HasSides n partner x y z → HasSides n partner y z x
HasSides-rotated n partner x y z sides = omega arith

before_turned : (place other : ℕ) → turned place ≡ other → place ≡ on other 1
before_turned place other is = omega (arith, is)

pub HasSides-triangle : (crossings : List (List ℕ)) (x y z : ℕ) → HasArcsTwice crossings → IsTriangle crossings x y z
    → HasSides (length crossings) (partner_at crossings) x y z
HasSides-triangle crossings x y z twice triangle =
    let n = length crossings in
    let partner = partner_at crossings in
    let pairing = IsPairing-partner_at crossings twice in
    let x_below : x < 4 * n = triangle.below in
    let y_below : y < 4 * n = subst (λ (k : ℕ). k < 4 * n) triangle.first (turned-below n (partner x) (pairing.below x x_below)) in
    let z_below : z < 4 * n = subst (λ (k : ℕ). k < 4 * n) triangle.second (turned-below n (partner y) (pairing.below y y_below)) in
    let from_x = before_turned (partner x) y triangle.first in
    let from_y = before_turned (partner y) z triangle.second in
    let from_z = before_turned (partner z) x triangle.third in
    record {
      apart = record { x_y = triangle.x_y; x_z = triangle.x_z; y_z = triangle.y_z };
      x_below = x_below;
      y_below = y_below;
      z_below = z_below;
      from_x = from_x;
      from_y = from_y;
      from_z = from_z;
      to_x = ap partner (sym from_z) ∙ pairing.back z z_below;
      to_y = ap partner (sym from_x) ∙ pairing.back x x_below;
      to_z = ap partner (sym from_y) ∙ pairing.back y y_below;
    }

-- the partner function after a slide
abbrev pub slid_partner : (ℕ → ℕ) → ℕ → ℕ → ℕ → ℕ → ℕ
slid_partner partner x y z place = source x y z (partner (source x y z place))

pub IsPairing-slid : (n : ℕ) (partner : ℕ → ℕ) (x y z : ℕ) → IsPairing (4 * n) partner → HasSides n partner x y z
    → IsPairing (4 * n) (slid_partner partner x y z)
IsPairing-slid n partner x y z pairing sides =
    let below = source-below n x y z sides.apart sides.x_below sides.y_below sides.z_below in
    let back = source-source x y z sides.apart in
    record {
      below = λ place within. below (partner (source x y z place)) (pairing.below (source x y z place) (below place within));
      back = λ place within.
          ap (λ k. source x y z (partner k)) (back (partner (source x y z place)))
          ∙ ap (source x y z) (pairing.back (source x y z place) (below place within)) ∙ back place;
    }

-- after it there is a triangle across
to_across : (n : ℕ) (partner : ℕ → ℕ) (x y z : ℕ) → HasSides n partner x y z
    → slid_partner partner x y z (on x 2) ≡ on (on y 2) 1
to_across n partner x y z sides = grind (arith, nat_tests)

back_across : (n : ℕ) (partner : ℕ → ℕ) (x y z : ℕ) → HasSides n partner x y z
    → slid_partner partner x y z (on (on y 2) 1) ≡ on x 2
back_across n partner x y z sides = grind (arith, nat_tests, on-on, source-y)

pub HasSides-slid : (n : ℕ) (partner : ℕ → ℕ) (x y z : ℕ) → HasSides n partner x y z
    → HasSides n (slid_partner partner x y z) (on x 2) (on y 2) (on z 2)
HasSides-slid n partner x y z sides =
    let second = HasSides-rotated n partner x y z sides in
    let third = HasSides-rotated n partner y z x second in
    let once = source-rotated x y z sides.apart in
    let twice = once ∙ source-rotated y z x second.apart in
    let function = λ (f : ℕ → ℕ) (place : ℕ). f (partner (f place)) in
    record {
      apart = record {
        x_y = λ same. sides.apart.x_y (sym (on-crossing x 2) ∙ same ∙ on-crossing y 2);
        x_z = λ same. sides.apart.x_z (sym (on-crossing x 2) ∙ same ∙ on-crossing z 2);
        y_z = λ same. sides.apart.y_z (sym (on-crossing y 2) ∙ same ∙ on-crossing z 2);
      };
      x_below = on-below n x 2 sides.x_below;
      y_below = on-below n y 2 sides.y_below;
      z_below = on-below n z 2 sides.z_below;
      from_x = to_across n partner x y z sides;
      from_y = ap (λ f. function f (on y 2)) once ∙ to_across n partner y z x second;
      from_z = ap (λ f. function f (on z 2)) twice ∙ to_across n partner z x y third;
      to_x = ap (λ f. function f (on (on x 2) 1)) twice ∙ back_across n partner z x y third;
      to_y = back_across n partner x y z sides;
      to_z = ap (λ f. function f (on (on z 2) 1)) once ∙ back_across n partner y z x second;
    }
