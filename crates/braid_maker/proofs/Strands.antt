-- The strands between the crossings of a braid, which are its arcs.
--
-- A strand is told by its position and the crossing at which it arrives. The crossing from which it comes is the last before that touches
-- the position (Nearest), and its corner there is left or right as the position is. So strands are as many as lower corners, twice the
-- crossings.
use Rattle.std.proofs.Common.{◌≡◌, ℕ, zero, suc, ◌⊎◌, inl, inr, ◌+◌, ◌-◌, ◌*◌, ◌<◌, ◌≤◌, ◌∙◌, refl, sym, ap, subst, arith, true, cond}
use Rattle.std.specs.Prelude.{nat_eq, ◌||◌}
use Rattle.std.proofs.lemmas.Bool.{cases_eq, eq-eqb, ne_eqb}
use Rattle.std.proofs.lemmas.Bool.Decides.{nat_tests}
use Rattle.braid_maker.specs.Words.{touches, previous, arc_above, arc_below}
use Rattle.braid_maker.proofs.Nearest.{IsNearest, IsNearest-previous, nearest-only, next-only, next-is}
use Rattle.braid_maker.proofs.Corners.{corner_arc}

either : (a b q : ℕ) → (nat_eq a q || nat_eq b q) ≡ true → (a ≡ q) ⊎ (b ≡ q)
either a b q holds = elim (cases_eq a q) [
  | inl same ↦ inl same
  | inr apart ↦ inr (grind (arith, nat_tests))
]

pub touches-either : (left : ℕ → ℕ) (q i : ℕ) → touches left q i ≡ true → (left i ≡ q) ⊎ (left i + 1 ≡ q)
touches-either left q i holds = either (left i) (left i + 1) q holds

first_holds : (a b q : ℕ) → a ≡ q → (nat_eq a q || nat_eq b q) ≡ true
first_holds a b q same = grind (arith, nat_tests)

second_holds : (a b q : ℕ) → b ≡ q → (nat_eq a q || nat_eq b q) ≡ true
second_holds a b q same = grind (arith, nat_tests)

pub touches-left : (left : ℕ → ℕ) (q i : ℕ) → left i ≡ q → touches left q i ≡ true
touches-left left q i same = first_holds (left i) (left i + 1) q same

pub touches-right : (left : ℕ → ℕ) (q i : ℕ) → left i + 1 ≡ q → touches left q i ≡ true
touches-right left q i same = second_holds (left i) (left i + 1) q same

-- a strand at a position goes from an upper corner of a crossing to a lower corner of another
pub record IsStrand (n : ℕ) (left : ℕ → ℕ) (position place from lower upper : ℕ) : Type 0 where
  pub place_below : place < n
  pub from_below : from < n
  pub lower_below : lower < 2
  pub upper_from : 2 ≤ upper
  pub upper_below : upper < 4
  pub at_place : left place + lower ≡ position
  pub at_from : left from + 3 ≡ position + upper
  pub nearest : IsNearest n (touches left position) place from

upper_corner : (left : ℕ → ℕ) (q i : ℕ) → touches left q i ≡ true
    → (upper : ℕ) × (2 ≤ upper) × (upper < 4) × (left i + 3 ≡ q + upper)
upper_corner left q i holds = elim (touches-either left q i holds) [
  | inl same ↦ (3, omega arith, omega arith, omega (arith, same))
  | inr same ↦ (2, omega arith, omega arith, omega (arith, same))
]

pub lower_corner : (left : ℕ → ℕ) (q i : ℕ) → touches left q i ≡ true → (lower : ℕ) × (lower < 2) × (left i + lower ≡ q)
lower_corner left q i holds = elim (touches-either left q i holds) [
  | inl same ↦ (0, omega arith, omega (arith, same))
  | inr same ↦ (1, omega arith, same)
]

touches-lower : (left : ℕ → ℕ) (i lower : ℕ) → lower < 2 → touches left (left i + lower) i ≡ true
touches-lower left i zero below = touches-left left (left i + 0) i (omega arith)
touches-lower left i (suc zero) below = touches-right left (left i + 1) i refl
touches-lower left i (suc (suc lower)) below = absurd (omega (arith, below))

touches-upper : (left : ℕ → ℕ) (q i upper : ℕ) → 2 ≤ upper → upper < 4 → left i + 3 ≡ q + upper → touches left q i ≡ true
touches-upper left q i upper from below same = elim (cases_eq upper 3) [
  | inl top ↦ touches-left left q i (omega (arith, same, top))
  | inr other ↦ touches-right left q i (omega (arith, same, other, from, below))
]

-- each lower corner has its strand, and so has each upper one
pub strand_below : (n : ℕ) (left : ℕ → ℕ) (place lower : ℕ) → place < n → lower < 2
    → (from : ℕ) × (upper : ℕ) × IsStrand n left (left place + lower) place from lower upper
strand_below n left place lower below small =
    let q = left place + lower in
    let from = previous n (touches left q) 0 place in
    let nearest = IsNearest-previous n (touches left q) 0 place place below below (touches-lower left place lower small) in
    let upper = upper_corner left q from nearest.passes in (
      from,
      upper.0,
      record {
        place_below = below;
        from_below = nearest.below;
        lower_below = small;
        upper_from = upper.1;
        upper_below = upper.2;
        at_place = refl;
        at_from = upper.3;
        nearest = nearest;
      },
    )

pub strand_above : (n : ℕ) (left : ℕ → ℕ) (from upper : ℕ) → from < n → 2 ≤ upper → upper < 4
    → (place : ℕ) × (lower : ℕ) × (position : ℕ) × IsStrand n left position place from lower upper
strand_above n left from upper below upper_from upper_below =
    let q = left from + 3 - upper in
    let same : left from + 3 ≡ q + upper = omega (arith, upper_below) in
    let next = next-is n (touches left q) from below (touches-upper left q from upper upper_from upper_below same) in
    let lower = lower_corner left q next.0 next.2 in (
      next.0,
      lower.0,
      q,
      record {
        place_below = next.1;
        from_below = below;
        lower_below = lower.1;
        upper_from = upper_from;
        upper_below = upper_below;
        at_place = lower.2;
        at_from = same;
        nearest = next.3;
      },
    )

-- the arc at an upper corner, and at a lower one
above_at : (l q i upper : ℕ) → 2 ≤ upper → upper < 4 → l + 3 ≡ q + upper
    → cond (nat_eq l q) (2 * i + 1) (2 * i + 2) ≡ 2 * i + 4 - upper
above_at l q i upper from below same = elim (cases_eq upper 3) [
  | inl top ↦ ap (λ b. cond b (2 * i + 1) (2 * i + 2)) (eq-eqb l q (omega (arith, same, top))) ∙ omega (arith, top)
  | inr other ↦
      let two : upper ≡ 2 = omega (arith, other, from, below) in
      ap (λ b. cond b (2 * i + 1) (2 * i + 2)) (ne_eqb l q (λ is. omega (arith, is, same, two))) ∙ omega (arith, two)
]

pub upper_arc : (n : ℕ) (left : ℕ → ℕ) (i upper : ℕ) → 2 ≤ upper → upper < 4 → corner_arc n left i upper ≡ 2 * i + 4 - upper
upper_arc n left i zero from below = absurd (omega (arith, from))
upper_arc n left i (suc zero) from below = absurd (omega (arith, from))
upper_arc n left i (suc (suc zero)) from below = omega arith
upper_arc n left i (suc (suc (suc zero))) from below = omega arith
upper_arc n left i (suc (suc (suc (suc c)))) from below = absurd (omega (arith, below))

lower_arc : (n : ℕ) (left : ℕ → ℕ) (i lower : ℕ) → lower < 2 → corner_arc n left i lower ≡ arc_below n left (left i + lower) i
lower_arc n left i zero below = let e : left i ≡ left i + 0 = omega arith in ap (λ q. arc_below n left q i) e
lower_arc n left i (suc zero) below = refl
lower_arc n left i (suc (suc lower)) below = absurd (omega (arith, below))

-- a strand is an arc
pub strand_arc : (n : ℕ) (left : ℕ → ℕ) (q place from lower upper : ℕ) → IsStrand n left q place from lower upper
    → corner_arc n left place lower ≡ 2 * from + 4 - upper
strand_arc n left q place from lower upper is =
    let test = touches left q in
    let found = IsNearest-previous n test 0 place from is.place_below is.from_below is.nearest.passes in
    lower_arc n left place lower is.lower_below
    ∙ ap (λ p. arc_below n left p place) is.at_place
    ∙ ap (arc_above left q) (nearest-only n test place (previous n test 0 place) from is.place_below found is.nearest)
    ∙ above_at (left from) q from upper is.upper_from is.upper_below is.at_from

-- two strands with one arc are one
pub strand-only : (n : ℕ) (left : ℕ → ℕ) (q place from lower upper q' place' from' lower' upper' : ℕ)
    → IsStrand n left q place from lower upper → IsStrand n left q' place' from' lower' upper'
    → 2 * from + 4 - upper ≡ 2 * from' + 4 - upper' → (place ≡ place') × (lower ≡ lower') × (from ≡ from') × (upper ≡ upper')
strand-only n left q place from lower upper q' place' from' lower' upper' is other same =
    let from_same : from ≡ from' =
    omega (arith, same, is.upper_from, is.upper_below, other.upper_from, other.upper_below) in
    let upper_same : upper ≡ upper' =
    omega (arith, same, is.upper_from, is.upper_below, other.upper_from, other.upper_below) in
    let left_same : left from ≡ left from' = ap left from_same in
    let q_same : q' ≡ q = omega (arith, is.at_from, other.at_from, upper_same, left_same) in
    let nearest' : IsNearest n (touches left q) place' from =
    subst (λ (p : ℕ). IsNearest n (touches left p) place' from) q_same
    (subst (λ (f : ℕ). IsNearest n (touches left q') place' f) (sym from_same) other.nearest) in
    let passes : touches left q place ≡ true =
    subst (λ (p : ℕ). touches left p place ≡ true) is.at_place (touches-lower left place lower is.lower_below) in
    let passes' : touches left q place' ≡ true =
    subst (λ (p : ℕ). touches left p place' ≡ true) (other.at_place ∙ q_same) (touches-lower left place' lower' other.lower_below) in
    let place_same = next-only n (touches left q) from place place' is.place_below other.place_below passes passes' is.nearest nearest' in
    (place_same, omega (arith, is.at_place, other.at_place, q_same, ap left place_same), from_same, upper_same)
