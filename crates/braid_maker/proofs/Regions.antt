-- The regions between the strands of a closed braid, as the faces of its darts.
use Rattle.std.proofs.Common.{◌≡◌, ℕ, zero, suc, ◌+◌, ◌*◌, ◌/◌, ◌%◌, ◌<◌, ◌≤◌, ◌∙◌, refl, sym, ap, arith, Bool, true, false, cond}
use Rattle.std.specs.Prelude.{nat_eq}
use Rattle.std.proofs.lemmas.Bool.{eq-eqb, eqb-true, ne_eqb}
use Rattle.kh_types.specs.Darts.{turned, face_step, partner_at}
use Rattle.braid_maker.specs.Words.{touches, previous, closed_crossings}
use Rattle.braid_maker.proofs.Nearest.{IsNearest-previous, nearest-only, previous-through}
use Rattle.braid_maker.proofs.Corners.{corner_place, corner_of, corner_of-place, corner_place-crossing}
use Rattle.braid_maker.proofs.Strands.{touches-left, touches-right}
use Rattle.braid_maker.proofs.Partners.{at_lower, at_upper, IsEnd-dart, partner-lower, partner-upper}

-- a region between two neighbouring positions begins above a crossing there, whose place names it; a region without one, beside the
-- strand at a position, has a name by that position
abbrev pub right_test : (ℕ → ℕ) → ℕ → ℕ → Bool
right_test left position place = nat_eq (left place) position

abbrev pub left_test : (ℕ → ℕ) → ℕ → ℕ → Bool
left_test left position place = nat_eq (left place + 1) position

abbrev pub right_region : ℕ → (ℕ → ℕ) → ℕ → ℕ → ℕ
right_region n left position place = previous n (right_test left position) (n + position) place

abbrev pub left_region : ℕ → ℕ → (ℕ → ℕ) → ℕ → ℕ → ℕ
left_region n bound left position place = previous n (left_test left position) (n + bound + position) place

-- the region at the left of each corner's dart, going away from the crossing
abbrev pub region_at : ℕ → ℕ → (ℕ → ℕ) → ℕ → ℕ → ℕ
region_at n bound left place corner =
    cond (nat_eq corner 0) (right_region n left (left place) place)
    (cond (nat_eq corner 1) (right_region n left (left place + 1) place)
    (cond (nat_eq corner 2) place (left_region n bound left (left place) place)))

abbrev pub region_of : ℕ → ℕ → (ℕ → ℕ) → (ℕ → Bool) → ℕ → ℕ
region_of n bound left is_over dart = region_at n bound left (dart / 4) (corner_of is_over dart)

pub region_of-corner : (n bound : ℕ) (left : ℕ → ℕ) (is_over : ℕ → Bool) (place corner : ℕ) → corner < 4
    → region_of n bound left is_over (corner_place is_over place corner) ≡ region_at n bound left place corner
region_of-corner n bound left is_over place corner below =
    ap (λ k. region_at n bound left k (corner_of is_over (corner_place is_over place corner))) (corner_place-crossing is_over place corner)
    ∙ ap (λ c. region_at n bound left place c) (corner_of-place is_over place corner below)

turned_corner : (b : Bool) (place corner : ℕ) → corner < 4
    → turned (4 * place + (corner + cond b 3 0) % 4) ≡ 4 * place + ((corner + 3) % 4 + cond b 3 0) % 4
turned_corner true place corner below = omega (arith, below)
turned_corner false place corner below = omega (arith, below)

region_of-turned : (n bound : ℕ) (left : ℕ → ℕ) (is_over : ℕ → Bool) (place corner : ℕ) → corner < 4
    → region_of n bound left is_over (turned (corner_place is_over place corner)) ≡ region_at n bound left place ((corner + 3) % 4)
region_of-turned n bound left is_over place corner below =
    ap (region_of n bound left is_over) (turned_corner (is_over place) place corner below)
    ∙ region_of-corner n bound left is_over place ((corner + 3) % 4) (omega arith)

-- tests that agree have one nearest place
alike : (n : ℕ) (test other : ℕ → Bool) (a b k : ℕ) → k < n → test k ≡ true
    → ((x : ℕ) → test x ≡ true → other x ≡ true) → ((x : ℕ) → other x ≡ true → test x ≡ true)
    → previous n test a k ≡ previous n other b k
alike n test other a b k below passes onward back =
    let first = IsNearest-previous n test a k k below below passes in
    let second = IsNearest-previous n other b k k below below (onward k passes) in
    nearest-only n other k (previous n test a k) (previous n other b k) below
    (record {
      below = first.below;
      passes = onward (previous n test a k) first.passes;
      nearest = λ y y_below y_passes. first.nearest y y_below (back y y_passes);
    })
    second

-- at the lower end of a strand its region to the right is at the left of the dart, at the upper end its region to the left
lower_region : (n bound : ℕ) (left : ℕ → ℕ) (q place lower : ℕ) → lower < 2 → left place + lower ≡ q
    → region_at n bound left place lower ≡ right_region n left q place
lower_region n bound left q place zero below at = let e : left place ≡ q = omega (arith, at) in ap (λ p. right_region n left p place) e
lower_region n bound left q place (suc zero) below at = ap (λ p. right_region n left p place) at
lower_region n bound left q place (suc (suc lower)) below at = absurd (omega (arith, below))

upper_region : (n bound : ℕ) (left : ℕ → ℕ) (q from upper : ℕ) → 2 ≤ upper → upper < 4 → left from + 3 ≡ q + upper
    → region_at n bound left from upper ≡ cond (left_test left q from) from (left_region n bound left q from)
upper_region n bound left q from zero from_two below at = absurd (omega (arith, from_two))
upper_region n bound left q from (suc zero) from_two below at = absurd (omega (arith, from_two))
upper_region n bound left q from (suc (suc zero)) from_two below at =
    sym (ap (λ b. cond b from (left_region n bound left q from)) (eq-eqb (left from + 1) q (omega (arith, at))))
upper_region n bound left q from (suc (suc (suc zero))) from_two below at =
    let e : left from ≡ q = omega (arith, at) in
    ap (λ p. left_region n bound left p from) e
    ∙ sym (ap (λ b. cond b from (left_region n bound left q from)) (ne_eqb (left from + 1) q (λ same. omega (arith, at, same))))
upper_region n bound left q from (suc (suc (suc (suc c)))) from_two below at = absurd (omega (arith, below))

-- the darts before these have the other region
lower_turned : (n bound : ℕ) (left : ℕ → ℕ) (q place lower : ℕ) → place < n → lower < 2 → left place + lower ≡ q
    → region_at n bound left place ((lower + 3) % 4) ≡ left_region n bound left q place
lower_turned n bound left q place zero place_below below at =
    let e : left place ≡ q = omega (arith, at) in ap (λ p. left_region n bound left p place) e
lower_turned n bound left q place (suc zero) place_below below at =
    alike n (right_test left (left place)) (left_test left q) (n + left place) (n + bound + q) place place_below
    (eq-eqb (left place) (left place) refl)
    (λ x passes. eq-eqb (left x + 1) q (omega (arith, at, eqb-true (left x) (left place) passes)))
    (λ x passes. eq-eqb (left x) (left place) (omega (arith, at, eqb-true (left x + 1) q passes)))
lower_turned n bound left q place (suc (suc lower)) place_below below at = absurd (omega (arith, below))

upper_turned : (n bound : ℕ) (left : ℕ → ℕ) (q from upper : ℕ) → 2 ≤ upper → upper < 4 → left from + 3 ≡ q + upper
    → region_at n bound left from ((upper + 3) % 4) ≡ cond (right_test left q from) from (right_region n left q from)
upper_turned n bound left q from zero from_two below at = absurd (omega (arith, from_two))
upper_turned n bound left q from (suc zero) from_two below at = absurd (omega (arith, from_two))
upper_turned n bound left q from (suc (suc zero)) from_two below at =
    let e : left from + 1 ≡ q = omega (arith, at) in
    ap (λ p. right_region n left p from) e
    ∙ sym (ap (λ b. cond b from (right_region n left q from)) (ne_eqb (left from) q (λ same. omega (arith, at, same))))
upper_turned n bound left q from (suc (suc (suc zero))) from_two below at =
    sym (ap (λ b. cond b from (right_region n left q from)) (eq-eqb (left from) q (omega (arith, at))))
upper_turned n bound left q from (suc (suc (suc (suc c)))) from_two below at = absurd (omega (arith, below))

-- so a face step stays in a region
pub region-step : (n bound : ℕ) (left : ℕ → ℕ) (is_over : ℕ → Bool) (dart : ℕ) → dart < 4 * n
    → region_of n bound left is_over dart
    ≡ region_of n bound left is_over (face_step (partner_at (closed_crossings n left is_over)) dart)
region-step n bound left is_over dart below =
    let next : ℕ → ℕ = λ d. partner_at (closed_crossings n left is_over) d in
    let region : ℕ → ℕ = region_of n bound left is_over in
    elim (IsEnd-dart n left is_over dart below) [
      | at_lower q place from lower upper is at ↦
          ap region at
          ∙ region_of-corner n bound left is_over place lower (omega (arith, is.lower_below))
          ∙ lower_region n bound left q place lower is.lower_below is.at_place
          ∙ sym
          (ap (λ d. region (turned (next d))) at
          ∙ ap (λ d. region (turned d)) (partner-lower n left is_over q place from lower upper is)
          ∙ region_of-turned n bound left is_over from upper is.upper_below
          ∙ upper_turned n bound left q from upper is.upper_from is.upper_below is.at_from
          ∙ previous-through n (right_test left q) (touches left q) (n + q) place from is.place_below
          (λ x x_below passes. touches-left left q x (eqb-true (left x) q passes)) is.nearest)
      | at_upper q place from lower upper is at ↦
          ap region at
          ∙ region_of-corner n bound left is_over from upper is.upper_below
          ∙ upper_region n bound left q from upper is.upper_from is.upper_below is.at_from
          ∙ previous-through n (left_test left q) (touches left q) (n + bound + q) place from is.place_below
          (λ x x_below passes. touches-right left q x (eqb-true (left x + 1) q passes)) is.nearest
          ∙ sym
          (ap (λ d. region (turned (next d))) at
          ∙ ap (λ d. region (turned d)) (partner-upper n left is_over q place from lower upper is)
          ∙ region_of-turned n bound left is_over place lower (omega (arith, is.lower_below))
          ∙ lower_turned n bound left q place lower is.place_below is.lower_below is.at_place)
    ]
