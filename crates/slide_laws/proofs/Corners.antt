-- Darts at the three corners of a triangle, and functions of darts that are given corner by corner.
--
-- A slide permutes what stands at the twelve darts of three crossings. Darts are places 4k + slot, so a dart of a triangle is `on` a corner
-- with a slot, and a function given at the four slots of each corner and elsewhere is one on all darts. All that follows on darts is by
-- these cases.
use Rattle.std.proofs.lemmas.Bool.Decides.{nat_tests}
use Rattle.std.proofs.Common.{◌≡◌, ◌≢◌, ℕ, inl, inr, ◌+◌, ◌*◌, ◌/◌, ◌%◌, ◌<◌, ◌∙◌, List, sym, ap, subst, arith, cond}
use Rattle.std.specs.Prelude.{nat_eq, slice_index}
use Rattle.std.proofs.lemmas.Bool.{cases_eq}
use Rattle.kh_types.proofs.Ranges.{below_four}
use Rattle.slide_laws.specs.Slid.{on, steps_from, corner, source}
pub use Rattle.kh_types.proofs.Ranges.{below_four as four}

-- slots on from a dart

pub on-crossing : (place steps : ℕ) → on place steps / 4 ≡ place / 4
on-crossing place steps = omega arith

pub on-slot : (place steps : ℕ) → on place steps % 4 ≡ (place % 4 + steps) % 4
on-slot place steps = omega arith

pub on-zero : (place : ℕ) → on place 0 ≡ place
on-zero place = omega arith

pub on-on : (place a b : ℕ) → on (on place a) b ≡ on place (a + b)
on-on place a b = omega arith

pub on-round : (place a : ℕ) → on place (a + 4) ≡ on place a
on-round place a = omega arith

pub on-steps_from : (from place : ℕ) → place / 4 ≡ from / 4 → on from (steps_from from place) ≡ place
on-steps_from from place same = omega (arith, same)

pub steps_from-below : (from place : ℕ) → steps_from from place < 4
steps_from-below from place = omega arith

pub on-below : (n place steps : ℕ) → place < 4 * n → on place steps < 4 * n
on-below n place steps below = omega (arith, below)

pub on-apart : (place a b : ℕ) → a < 4 → b < 4 → a ≢ b → on place a ≢ on place b
on-apart place a b a_below b_below apart same = apart (omega (arith, a_below, b_below, same))

-- three crossings

pub record AreApart (x y z : ℕ) : Type 0 where
  pub x_y : x / 4 ≢ y / 4
  pub x_z : x / 4 ≢ z / 4
  pub y_z : y / 4 ≢ z / 4

pub AreApart-rotated : (x y z : ℕ) → AreApart x y z → AreApart y z x
AreApart-rotated x y z apart = omega arith

pub AreApart-on : (x y z a b c : ℕ) → AreApart x y z → AreApart (on x a) (on y b) (on z c)
AreApart-on x y z a b c apart = omega arith

-- cases

-- whether a dart is at none of the three crossings
pub record IsOutside (x y z place : ℕ) : Type 0 where
  pub not_x : place / 4 ≢ x / 4
  pub not_y : place / 4 ≢ y / 4
  pub not_z : place / 4 ≢ z / 4

pub at_places : (x y z : ℕ) (P : ℕ → Type 0) → ((j : ℕ) → j < 4 → P (on x j)) → ((j : ℕ) → j < 4 → P (on y j))
    → ((j : ℕ) → j < 4 → P (on z j)) → ((place : ℕ) → IsOutside x y z place → P place) → (place : ℕ) → P place
at_places x y z P at_x at_y at_z outside place = elim (cases_eq (place / 4) (x / 4)) [
  | inl is_x ↦ subst P (on-steps_from x place is_x) (at_x (steps_from x place) (steps_from-below x place))
  | inr not_x ↦ elim (cases_eq (place / 4) (y / 4)) [
    | inl is_y ↦ subst P (on-steps_from y place is_y) (at_y (steps_from y place) (steps_from-below y place))
    | inr not_y ↦ elim (cases_eq (place / 4) (z / 4)) [
      | inl is_z ↦ subst P (on-steps_from z place is_z) (at_z (steps_from z place) (steps_from-below z place))
      | inr not_z ↦ outside place (record { not_x = not_x; not_y = not_y; not_z = not_z })
    ]
  ]
]

-- functions by corners

-- at each corner a list of darts for the slots on from its dart of the triangle, and elsewhere the dart itself
abbrev pub by_corner : List ℕ → List ℕ → List ℕ → ℕ → ℕ → ℕ → ℕ → ℕ
by_corner xs ys zs x y z place =
    cond (nat_eq (place / 4) (x / 4)) (slice_index xs (steps_from x place))
    (cond (nat_eq (place / 4) (y / 4)) (slice_index ys (steps_from y place))
    (cond (nat_eq (place / 4) (z / 4)) (slice_index zs (steps_from z place)) place))

pub by_corner-x : (xs ys zs : List ℕ) (x y z j : ℕ) → j < 4 → by_corner xs ys zs x y z (on x j) ≡ slice_index xs j
by_corner-x xs ys zs x y z j below = grind (arith, nat_tests)

pub by_corner-y : (xs ys zs : List ℕ) (x y z j : ℕ) → AreApart x y z → j < 4 → by_corner xs ys zs x y z (on y j) ≡ slice_index ys j
by_corner-y xs ys zs x y z j apart below = grind (arith, nat_tests)

pub by_corner-z : (xs ys zs : List ℕ) (x y z j : ℕ) → AreApart x y z → j < 4 → by_corner xs ys zs x y z (on z j) ≡ slice_index zs j
by_corner-z xs ys zs x y z j apart below = grind (arith, nat_tests)

pub by_corner-outside : (xs ys zs : List ℕ) (x y z place : ℕ) → IsOutside x y z place → by_corner xs ys zs x y z place ≡ place
by_corner-outside xs ys zs x y z place outside = grind (arith, nat_tests)

-- the corners may be named from any on
pub by_corner-rotated : (xs ys zs : List ℕ) (x y z : ℕ) → AreApart x y z → by_corner xs ys zs x y z ≡ by_corner ys zs xs y z x
by_corner-rotated xs ys zs x y z apart = grind (arith, nat_tests)

-- where the arcs come from

pub source-x : (x y z j : ℕ) → j < 4 → source x y z (on x j) ≡ slice_index (corner y z) j
source-x x y z j below = by_corner-x (corner y z) (corner z x) (corner x y) x y z j below

pub source-y : (x y z j : ℕ) → AreApart x y z → j < 4 → source x y z (on y j) ≡ slice_index (corner z x) j
source-y x y z j apart below = by_corner-y (corner y z) (corner z x) (corner x y) x y z j apart below

pub source-z : (x y z j : ℕ) → AreApart x y z → j < 4 → source x y z (on z j) ≡ slice_index (corner x y) j
source-z x y z j apart below = by_corner-z (corner y z) (corner z x) (corner x y) x y z j apart below

pub source-outside : (x y z place : ℕ) → IsOutside x y z place → source x y z place ≡ place
source-outside x y z place outside = by_corner-outside (corner y z) (corner z x) (corner x y) x y z place outside

pub source-rotated : (x y z : ℕ) → AreApart x y z → source x y z ≡ source y z x
source-rotated x y z apart = by_corner-rotated (corner y z) (corner z x) (corner x y) x y z apart

-- twice leads back
source-source_x : (x y z : ℕ) → AreApart x y z → (j : ℕ) → j < 4 → source x y z (source x y z (on x j)) ≡ on x j
source-source_x x y z apart =
    below_four (λ j. source x y z (source x y z (on x j)) ≡ on x j)
    (ap (source x y z) (source-x x y z 0 (omega arith)) ∙ source-y x y z 3 apart (omega arith) ∙ sym (on-zero x))
    (ap (source x y z) (source-x x y z 1 (omega arith)) ∙ source-z x y z 2 apart (omega arith))
    (ap (source x y z) (source-x x y z 2 (omega arith)) ∙ source-y x y z 1 apart (omega arith))
    (ap (source x y z) (source-x x y z 3 (omega arith) ∙ sym (on-zero z)) ∙ source-z x y z 0 apart (omega arith))

pub source-source : (x y z : ℕ) → AreApart x y z → (place : ℕ) → source x y z (source x y z place) ≡ place
source-source x y z apart =
    let once = source-rotated x y z apart in
    let turned_apart = AreApart-rotated x y z apart in
    let twice = once ∙ source-rotated y z x turned_apart in
    at_places x y z (λ place. source x y z (source x y z place) ≡ place)
    (source-source_x x y z apart)
    (λ j below. ap (λ f. f (f (on y j))) once ∙ source-source_x y z x turned_apart j below)
    (λ j below. ap (λ f. f (f (on z j))) twice ∙ source-source_x z x y (AreApart-rotated y z x turned_apart) j below)
    (λ place outside. ap (source x y z) (source-outside x y z place outside) ∙ source-outside x y z place outside)

pub source-below : (n x y z : ℕ) → AreApart x y z → x < 4 * n → y < 4 * n → z < 4 * n → (place : ℕ) → place < 4 * n
    → source x y z place < 4 * n
source-below n x y z apart x_below y_below z_below place has9 = grind (arith, nat_tests)
