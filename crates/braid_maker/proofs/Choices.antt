-- The checkerboard choice of a closed braid.
use Rattle.std.proofs.Common.{◌≡◌, ℕ, zero, suc, ◌+◌, ◌-◌, ◌*◌, ◌/◌, ◌%◌, ◌^◌, ◌<◌, ◌≤◌, ◌∙◌, List, length, sym, ap, arith, Bool, true, false, cond}
use Rattle.std.proofs.lemmas.Bool.{eq-eqb}
use Rattle.std.proofs.Math.Nat.{pow-succ', div-div-eq-div-mul}
use Rattle.kh_types.specs.declared.dart.Dart.{Dart}
use Rattle.kh_types.specs.declared.acceptance.checkerboard.Equation.{Equation}
use Rattle.kh_types.specs.Bits.{bit}
use Rattle.kh_types.specs.Code.{IsArc}
use Rattle.kh_types.specs.Darts.{dart_at, dart_place, first_dart, partner_at, HasArcsTwice}
use Rattle.kh_types.specs.Checkerboard.{IsCheckerboard, equation_of, is_solved, solves_at}
use Rattle.kh_types.proofs.DartPairs.{dart_at-place, dart_place-below, partner-is, IsDartOf-first_dart}
use Rattle.kh_types.proofs.RangeCounts.{list_all-each}
use Rattle.braid_maker.specs.Words.{closed_crossings}
use Rattle.braid_maker.proofs.ChoiceBits.{number_with, bit_of, choice_of}
use Rattle.braid_maker.proofs.Corners.{corner_place, corner_place-crossing}
use Rattle.braid_maker.proofs.Partners.{at_lower, at_upper, IsEnd-dart, partner-lower, partner-upper}
use Rattle.kh_types.proofs.BitLemmas.{half-of}

number-below : (bits : ℕ → ℕ) (n : ℕ) → number_with bits n < 2 ^ n
number-below bits zero = omega arith
number-below bits (suc n) = omega (arith, number-below (λ i. bits (i + 1)) n, pow-succ' 2 n)

bit-number : (bits : ℕ → ℕ) (n i : ℕ) → i < n → bit (number_with bits n) i ≡ bits i % 2
bit-number bits zero i below = absurd (omega (arith, below))
bit-number bits (suc n) zero below = first (bits 0) (number_with (λ i. bits (i + 1)) n)
  where
    first : (a m : ℕ) → (a % 2 + 2 * m) / 2 ^ 0 % 2 ≡ a % 2
    first a m = omega arith
bit-number bits (suc n) (suc i) below =
    let rest = number_with (λ j. bits (j + 1)) n in
    let whole = number_with bits (suc n) in
    let e : i + 1 ≡ suc i = omega arith in
    ap (λ d. whole / d % 2) (pow-succ' 2 i)
    ∙ ap (λ k. k % 2) (sym (div-div-eq-div-mul whole 2 (2 ^ i)))
    ∙ ap (λ k. k / 2 ^ i % 2) (half-of (bits 0) rest)
    ∙ bit-number (λ j. bits (j + 1)) n i (omega (arith, below))
    ∙ ap (λ k. bits k % 2) e

-- the colour of a corner is that of its place and its position
corner_parity : (b : Bool) (l place corner : ℕ)
    → (cond b (l + 1) l % 2 + (4 * place + (corner + cond b 3 0) % 4) % 4) % 2 ≡ (l + corner) % 2
corner_parity true l place corner = omega arith
corner_parity false l place corner = omega arith

abbrev pub parity_at : ℕ → ℕ → ℕ
parity_at choice dart = bit choice (dart / 4) + dart % 4

parity-corner : (n : ℕ) (left : ℕ → ℕ) (is_over : ℕ → Bool) (place corner : ℕ) → place < n
    → parity_at (choice_of n left is_over) (corner_place is_over place corner) % 2 ≡ (left place + corner) % 2
parity-corner n left is_over place corner below =
    let dart = corner_place is_over place corner in
    ap (λ k. (bit (choice_of n left is_over) k + dart % 4) % 2) (corner_place-crossing is_over place corner)
    ∙ ap (λ x. (x + dart % 4) % 2) (bit-number (bit_of left is_over) n place below)
    ∙ corner_parity (is_over place) (left place) place corner

odd_strand : (a b lower upper q p : ℕ) → lower < 2 → 2 ≤ upper → upper < 4 → a + lower ≡ q → b + 3 ≡ q + upper
    → (x y : ℕ) → x % 2 ≡ (a + lower) % 2 → y % 2 ≡ (b + upper) % 2 → (x + y) % 2 ≡ 1
odd_strand a b lower upper q p small from below at_place at_from x y first second =
    omega (arith, at_place, at_from, first, second)

pub parity-partner : (n : ℕ) (left : ℕ → ℕ) (is_over : ℕ → Bool) (dart : ℕ) → dart < 4 * n
    → (parity_at (choice_of n left is_over) dart
    + parity_at (choice_of n left is_over) (partner_at (closed_crossings n left is_over) dart)) % 2 ≡ 1
parity-partner n left is_over dart below =
    let parity : ℕ → ℕ = λ d. parity_at (choice_of n left is_over) d in
    let next : ℕ → ℕ = λ d. partner_at (closed_crossings n left is_over) d in
    elim (IsEnd-dart n left is_over dart below) [
      | at_lower q place from lower upper is at ↦
          ap (λ d. (parity d + parity (next d)) % 2) at
          ∙ ap (λ d. (parity (corner_place is_over place lower) + parity d) % 2) (partner-lower n left is_over q place from lower upper is)
          ∙ odd_strand (left place) (left from) lower upper q 0 is.lower_below is.upper_from is.upper_below is.at_place is.at_from
          (parity (corner_place is_over place lower)) (parity (corner_place is_over from upper))
          (parity-corner n left is_over place lower is.place_below) (parity-corner n left is_over from upper is.from_below)
      | at_upper q place from lower upper is at ↦
          let low = parity (corner_place is_over place lower) in
          let high = parity (corner_place is_over from upper) in
          let e : (high + low) % 2 ≡ (low + high) % 2 = ap (λ k. k % 2) (omega arith) in
          ap (λ d. (parity d + parity (next d)) % 2) at
          ∙ ap (λ d. (high + parity d) % 2) (partner-upper n left is_over q place from lower upper is)
          ∙ e
          ∙ odd_strand (left place) (left from) lower upper q 0 is.lower_below is.upper_from is.upper_below is.at_place is.at_from
          low high
          (parity-corner n left is_over place lower is.place_below) (parity-corner n left is_over from upper is.from_below)
    ]

solved-places : (choice d e : ℕ) → (parity_at choice d + parity_at choice e) % 2 ≡ 1
    → is_solved choice (record { crossing = d / 4 + 1; other = e / 4 + 1; slots = d % 4 + e % 4 }) ≡ true
solved-places choice d e odd =
    let first : d / 4 + 1 - 1 ≡ d / 4 = omega arith in
    let second : e / 4 + 1 - 1 ≡ e / 4 = omega arith in
    let same : (bit choice (d / 4 + 1 - 1) + (bit choice (e / 4 + 1 - 1) + (d % 4 + e % 4))) % 2 ≡ 1 =
    ap (λ k. (bit choice k + (bit choice (e / 4 + 1 - 1) + (d % 4 + e % 4))) % 2) first
    ∙ ap (λ k. (bit choice (d / 4) + (bit choice k + (d % 4 + e % 4))) % 2) second
    ∙ ap (λ k. k % 2) (shuffle (bit choice (d / 4)) (bit choice (e / 4)) (d % 4) (e % 4)) ∙ odd in
    eq-eqb ((bit choice (d / 4 + 1 - 1) + (bit choice (e / 4 + 1 - 1) + (d % 4 + e % 4))) % 2) 1 same
  where
    shuffle : (a b x y : ℕ) → a + (b + (x + y)) ≡ a + x + (b + y)
    shuffle a b x y = omega arith

-- the equation of an arc is that of the places of its two darts
equation-places : (crossings : List (List ℕ)) (arc : ℕ) → HasArcsTwice crossings → IsArc crossings arc
    → (d : ℕ) × (d < 4 * length crossings)
    × (equation_of crossings arc ≡ record { crossing = d / 4 + 1; other = partner_at crossings d / 4 + 1; slots = d % 4 + partner_at crossings d % 4 })
equation-places crossings arc twice is =
    let dart = first_dart crossings arc in
    let within = (IsDartOf-first_dart crossings arc twice is).within in
    let d = dart_place dart in
    let make : Dart → Dart → Equation =
    λ a b. record { crossing = a.crossing; other = b.crossing; slots = a.slot + b.slot } in (
      d,
      dart_place-below crossings dart within,
      ap (λ b. make dart b) (partner-is crossings dart within)
          ∙ ap (λ a. make a (dart_at (partner_at crossings d))) (sym (dart_at-place crossings dart within)),
    )

-- a choice with an odd sum at any two partners is a checkerboard
pub IsCheckerboard-parity : (crossings : List (List ℕ)) (choice : ℕ) → HasArcsTwice crossings → choice < 2 ^ length crossings
    → ((dart : ℕ) → dart < 4 * length crossings → (parity_at choice dart + parity_at choice (partner_at crossings dart)) % 2 ≡ 1)
    → IsCheckerboard crossings
IsCheckerboard-parity crossings choice twice below odd = record {
  choice = choice;
  below = below;
  solves = list_all-each (solves_at crossings choice) 1 (2 * length crossings)
      (λ arc from arc_below.
      let places = equation-places crossings arc twice (record { positive = from; within = omega (arith, arc_below) }) in
      ap (is_solved choice) places.2
      ∙ solved-places choice places.0 (partner_at crossings places.0) (odd places.0 places.1));
}

pub choice-below : (n : ℕ) (left : ℕ → ℕ) (is_over : ℕ → Bool) → choice_of n left is_over < 2 ^ n
choice-below n left is_over = number-below (bit_of left is_over) n
