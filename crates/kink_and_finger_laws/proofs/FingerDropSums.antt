-- Dropping two crossings that meet in a bigon keeps the state sum. One of the two is positive and the other is not, as each side
-- leads from a tail to a head, over at both ends or under; so one positive and one negative crossing are gone. Each state of what
-- is left becomes four by two more bits. Of these, the two in which one crossing closes and the other is gone through have
-- equally many circles, that in which both close has one more, and the fourth has the circles of what is left. So three of the
-- terms cancel, and the fourth is the term of what is left; which bits close depends on the parity of the slots, two cases. The
-- state sum is split by both bits and added up; first for slots below 4, then for all, and for accepted codes.
use Rattle.std.proofs.Common.{◌≡◌, ◌≢◌, ℕ, suc, inl, inr, ◌+◌, ◌-◌, ◌%◌, ◌^◌, ◌<◌, ◌≤◌, ◌∙◌, ℤ, ◌+ℤ◌, List, sym, refl, map, ap, ap₂, arith, Bool, true, cond, not, ◌&&◌, ◌||◌, count_by, length, IsTrue, eqb-true}
use Rattle.std.specs.Prelude.{nat_eq}
use Rattle.std.specs.List.{filter, range_with_len}
use Rattle.std.proofs.lemmas.List.{length-map}
use Rattle.std.proofs.lemmas.List.FromFn.{length-map-range_with_len}
use Rattle.std.proofs.lemmas.List.Sums.{count_by-le-length}
use Rattle.std.proofs.lemmas.Bool.Decides.{nat_tests}
use Rattle.kh_types.specs.Acceptance.{accepted}
use Rattle.kh_types.specs.Accepted.{IsDirected}
use Rattle.kh_types.specs.Bits.{bit, ones, one_if}
use Rattle.kh_types.specs.Circles.{circle_count}
use Rattle.kh_types.specs.Code.{Code, arc_count}
use Rattle.kh_types.specs.Darts.{HasArcsTwice}
use Rattle.kh_types.specs.Directions.{HasNoSingleArcs, is_positive, plus_count, minus_count, positive_at}
use Rattle.kh_types.specs.StateSum.{int_sum, state_sum, state_term}
use Rattle.kh_types.specs.StateSum as kh
use Rattle.kh_types.proofs.AcceptedLemmas.{HasArcsTwice-directed}
use Rattle.kh_types.proofs.Heads.{HasNoSingleArcs-accepted}
use Rattle.kh_types.proofs.Lists.{count_by-map}
use Rattle.kh_types.proofs.RangeCounts.{count_by-alike}
use Rattle.gluing_laws.proofs.Terms.{term_at}
use Rattle.gluing_laws.specs.Arcs.{enters}
use Rattle.kink_and_finger_laws.specs.Drops.{kept_places, kept_signs, kept_crossings, is_of_two, without_finger}
use Rattle.kink_and_finger_laws.specs.Dropping.{HasBigonAt}
use Rattle.kink_and_finger_laws.proofs.DroppedDarts.{is_code_head}
use Rattle.kink_and_finger_laws.specs.DropCircles.{closing_at, through_at, parts_circle_count, parts_plus, parts_minus, parts_term, parts_sum}
use Rattle.kink_and_finger_laws.proofs.InsertedBits.{with_bit}
use Rattle.kink_and_finger_laws.specs.Pulls.{dart_in, early, late}
use Rattle.kink_and_finger_laws.proofs.Smoothed.{dart_in-below, IsPermutation-late}
use Rattle.kink_and_finger_laws.proofs.OldDarts.{heads-partner, dart_in-slot, place_in}
use Rattle.kink_and_finger_laws.proofs.KeptCodes.{length-kept}
use Rattle.kink_and_finger_laws.proofs.StandingNames.{count-parts}
use Rattle.kink_and_finger_laws.proofs.StrandCircles.{circles-dropped}
use Rattle.kink_and_finger_laws.proofs.KinkCircles.{before}
use Rattle.kink_and_finger_laws.proofs.KinkDropSums.{count-later, count-filter, count-one, term-is}
use Rattle.kink_and_finger_laws.proofs.Insertions.{int_sum-with_bit, HasBit-with_bit}
use Rattle.kink_and_finger_laws.proofs.FingerDrops.{places-two, late-below}
use Rattle.kink_and_finger_laws.proofs.FingerTerms.{term_of-finger, term_of-finger_other}
use Rattle.kink_and_finger_laws.proofs.FingerCircles.{AreBigonNames-bigon, FourStates, FourStates-bigon}
use Rattle.kh_types.proofs.BitLemmas.{parity}
use Rattle.kh_types.proofs.IntSums.{int_sum-range_agree}

-- slots below 4

pub HasBigonAt-slots : (crossings : List (List ℕ)) (c d p q : ℕ) → HasBigonAt crossings c d p q → HasBigonAt crossings c d (p % 4) (q % 4)
HasBigonAt-slots crossings c d p q bigon = grind (arith, nat_tests)

-- one of the two crossings is positive, and the other is not

signs-alike : (b e : Bool) (p q : ℕ) → p < 4 → q < 4 → (p + q) % 2 ≡ 1 → enters e ((q + 1) % 4) ≡ not (enters b (p % 4))
    → enters b ((p + 1) % 4) ≡ not (enters e (q % 4)) → e ≡ not b
signs-alike b e p q p_below q_below odd first second = grind (arith, nat_tests)

pub bigon-signs : (code : Code) (c d p q : ℕ) → IsDirected code.crossings → HasNoSingleArcs code.crossings → HasBigonAt code.crossings c d p q → p < 4 → q < 4
    → positive_at code.crossings d ≡ not (positive_at code.crossings c)
bigon-signs code c d p q directed alone bigon p_slot q_slot =
    let crossings = code.crossings in
    let head_in : (z r : ℕ) → is_code_head code.crossings (dart_in z r) ≡ enters (positive_at code.crossings z) (r % 4) =
    λ z r. ap (λ a. enters (positive_at code.crossings a) (dart_in z r % 4)) (place_in z r)
    ∙ ap (enters (positive_at code.crossings z)) (dart_in-slot z r) in
    let b = positive_at code.crossings c in
    let e = positive_at code.crossings d in
    let first : enters (positive_at code.crossings d) ((q + 1) % 4) ≡ not (enters (positive_at code.crossings c) (p % 4)) =
    sym (head_in d (q + 1)) ∙ ap (is_code_head code.crossings) (sym bigon.first_side)
    ∙ heads-partner code.crossings directed alone (dart_in c p) (dart_in-below (length code.crossings) c p bigon.first_below)
    ∙ ap not (head_in c p) in
    let second : enters (positive_at code.crossings c) ((p + 1) % 4) ≡ not (enters (positive_at code.crossings d) (q % 4)) =
    sym (head_in c (p + 1)) ∙ ap (is_code_head code.crossings) (sym bigon.second_side)
    ∙ heads-partner code.crossings directed alone (dart_in d q) (dart_in-below (length code.crossings) d q bigon.second_below)
    ∙ ap not (head_in d q) in
    signs-alike b e p q p_slot q_slot bigon.odd first second

-- the numbers of positive and of negative crossings

pub plus-kept_two : (code : Code) (c d : ℕ) → c < length code.crossings → d < length code.crossings → c ≢ d
    → plus_count code.crossings
    ≡ one_if (positive_at code.crossings c) + one_if (positive_at code.crossings d) + parts_plus (without_finger code c d)
plus-kept_two code c d c_below d_below apart =
    let n = length code.crossings in
    let pos : ℕ → Bool = positive_at code.crossings in
    let e : 0 + 1 ≡ 1 = omega arith in
    let all : plus_count code.crossings ≡ count_by (positive_at code.crossings) (range_with_len 0 (length code.crossings)) =
    ap (λ a. count_by (is_positive code.crossings) (range_with_len a (length code.crossings))) (sym e)
    ∙ count-later (is_positive code.crossings) 0 (length code.crossings) in
    let signs : parts_plus (without_finger code c d)
    ≡ count_by (λ x. positive_at code.crossings x && not (is_of_two c d x)) (range_with_len 0 (length code.crossings)) =
    count_by-map (λ (b : Bool). b) (positive_at code.crossings) (kept_places code.crossings (is_of_two c d))
    ∙ count-filter (positive_at code.crossings) (λ x. not (is_of_two c d x)) (range_with_len 0 (length code.crossings)) in
    let parts = count-parts (positive_at code.crossings) (is_of_two c d) (range_with_len 0 (length code.crossings)) in
    let inner = count-parts (λ x. positive_at code.crossings x && is_of_two c d x) (nat_eq c) (range_with_len 0 (length code.crossings)) in
    let first : count_by (λ x. (positive_at code.crossings x && is_of_two c d x) && nat_eq c x) (range_with_len 0 (length code.crossings))
    ≡ one_if (positive_at code.crossings c) =
    count_by-alike (λ x. (positive_at code.crossings x && is_of_two c d x) && nat_eq c x) (λ x. positive_at code.crossings x && nat_eq c x)
    0 (length code.crossings) (λ x from below. at_first (positive_at code.crossings x) (nat_eq c x) (nat_eq d x))
    ∙ count-one (positive_at code.crossings) c (length code.crossings) c_below in
    let second : count_by (λ x. (positive_at code.crossings x && is_of_two c d x) && not (nat_eq c x)) (range_with_len 0 (length code.crossings))
    ≡ one_if (positive_at code.crossings d) =
    count_by-alike (λ x. (positive_at code.crossings x && is_of_two c d x) && not (nat_eq c x)) (λ x. positive_at code.crossings x && nat_eq d x)
    0 (length code.crossings)
    (λ x from below. at_second (positive_at code.crossings x) (nat_eq c x) (nat_eq d x)
    (λ is_c is_d. apart (eqb-true c x is_c ∙ sym (eqb-true d x is_d))))
    ∙ count-one (positive_at code.crossings) d (length code.crossings) d_below in
    omega (arith, all, signs, parts, inner, first, second)
  where
    at_first : (a b e : Bool) → ((a && (b || e)) && b) ≡ (a && b)
    at_first a b e = grind (arith, nat_tests)

    at_second : (a b e : Bool) → (b ≡ true → e ≡ true → ⊥) → ((a && (b || e)) && not b) ≡ (a && e)
    at_second a b e never = grind (arith, nat_tests)

-- states with two bits more

abbrev pub with_two : ℕ → ℕ → ℕ → ℕ → ℕ → ℕ → ℕ
with_two k c d b e state = with_bit (k + 1) c b (with_bit k (late c (k + 1) d) e state)

pub record HasTwoBits (k c d b e state : ℕ) : Type 0 where
  pub first : bit (with_two k c d b e state) c ≡ b
  pub second : bit (with_two k c d b e state) d ≡ e
  pub others : (place : ℕ) → place < k + 1 + 1 → place ≢ c → place ≢ d
      → bit (with_two k c d b e state) place ≡ bit state (late (late c (k + 1) d) k (late c (k + 1) place))
  pub kept : (i : ℕ) → i < k → bit (with_two k c d b e state) (early c (k + 1) (early (late c (k + 1) d) k i)) ≡ bit state i
  pub count : ones (k + 1 + 1) (with_two k c d b e state) ≡ ones k state + e + b

pub HasTwoBits-with_two : (k c d b e state : ℕ) → c ≤ k + 1 → d ≤ k + 1 → c ≢ d → b < 2 → e < 2 → state < 2 ^ k → HasTwoBits k c d b e state
HasTwoBits-with_two k c d b e state c_within d_within apart b_below e_below below =
    let z = late c (k + 1) d in
    let z_below = late-below c (k + 1) d c_within (omega (arith, d_within)) apart in
    let z_within : late c (k + 1) d ≤ k = omega (arith, z_below) in
    let inner = HasBit-with_bit k (late c (k + 1) d) e state z_within e_below below in
    let one : suc k ≡ k + 1 = omega arith in
    let power : 2 ^ suc k ≡ 2 ^ (k + 1) = ap (λ m. 2 ^ m) one in
    let outer = HasBit-with_bit (k + 1) c b (with_bit k (late c (k + 1) d) e state) c_within b_below (omega (arith, inner.below, power)) in
    let early_below : (i : ℕ) → i < k → early (late c (k + 1) d) k i < k + 1 =
    λ i i_below. (IsPermutation-late (late c (k + 1) d) k z_within).back_below i (omega (arith, i_below)) in
    let back_d : early c (k + 1) (late c (k + 1) d) ≡ d = (IsPermutation-late c (k + 1) c_within).back_f d (omega (arith, d_within)) in
    record {
      first = outer.there;
      second = ap (bit (with_two k c d b e state)) (sym back_d) ∙ outer.others (late c (k + 1) d) z_below ∙ inner.there;
      others = λ place place_below not_c not_d.
          let y = late c (k + 1) place in
          let y_below = late-below c (k + 1) place c_within place_below (λ same. not_c (sym same)) in
          let back : early c (k + 1) (late c (k + 1) place) ≡ place = (IsPermutation-late c (k + 1) c_within).back_f place place_below in
          let y_away : late c (k + 1) d ≢ late c (k + 1) place =
          λ same. not_d (sym back ∙ ap (early c (k + 1)) (sym same) ∙ back_d) in
          let i_below = late-below (late c (k + 1) d) k (late c (k + 1) place) z_within y_below y_away in
          let back_y : early (late c (k + 1) d) k (late (late c (k + 1) d) k (late c (k + 1) place)) ≡ late c (k + 1) place =
          (IsPermutation-late (late c (k + 1) d) k z_within).back_f (late c (k + 1) place) y_below in
          ap (bit (with_two k c d b e state)) (sym back) ∙ outer.others (late c (k + 1) place) y_below
          ∙ ap (bit (with_bit k (late c (k + 1) d) e state)) (sym back_y)
          ∙ inner.others (late (late c (k + 1) d) k (late c (k + 1) place)) i_below;
      kept = λ i i_below. outer.others (early (late c (k + 1) d) k i) (early_below i i_below) ∙ inner.others i i_below;
      count = omega (arith, outer.count, inner.count);
    }

-- circles

pub record FourCircles (code : Code) (k c d p q : ℕ) : Type 0 where
  pub mixed : (b e g h state : ℕ) → b < 2 → e < 2 → g < 2 → h < 2 → state < 2 ^ k → b ≡ closing_at p → e ≡ through_at q → g ≡ through_at p
      → h ≡ closing_at q → circle_count code (with_two k c d g h state) ≡ circle_count code (with_two k c d b e state)
  pub more : (b e g h state : ℕ) → b < 2 → e < 2 → g < 2 → h < 2 → state < 2 ^ k → b ≡ closing_at p → e ≡ through_at q → g ≡ closing_at p
      → h ≡ closing_at q → circle_count code (with_two k c d g h state) ≡ circle_count code (with_two k c d b e state) + 1
  pub straight : (b e state : ℕ) → b < 2 → e < 2 → state < 2 ^ k → b ≡ through_at p → e ≡ through_at q
      → circle_count code (with_two k c d b e state) ≡ parts_circle_count (arc_count code.crossings + 1) (without_finger code c d) state

FourCircles-bigon : (code : Code) (k c d p q : ℕ) → HasArcsTwice code.crossings → HasBigonAt code.crossings c d p q → p < 4 → q < 4
    → length code.crossings ≡ k + 1 + 1 → FourCircles code k c d p q
FourCircles-bigon code k c d p q twice bigon p_slot q_slot size =
    let four : FourStates code.crossings (arc_count code.crossings + 1) c d p q =
    FourStates-bigon code.crossings (arc_count code.crossings + 1) c d p q _ _ _ _ _ _ twice (omega arith)
    (AreBigonNames-bigon code.crossings c d p q twice bigon p_slot q_slot) in
    let c_within : c ≤ k + 1 = omega (arith, bigon.first_below, size) in
    let d_within : d ≤ k + 1 = omega (arith, bigon.second_below, size) in
    let bits : (b e state : ℕ) → b < 2 → e < 2 → state < 2 ^ k → HasTwoBits k c d b e state =
    λ b e state b_below e_below below. HasTwoBits-with_two k c d b e state c_within d_within bigon.apart b_below e_below below in
    let same : (b e g h state : ℕ) → b < 2 → e < 2 → g < 2 → h < 2 → state < 2 ^ k → (place : ℕ) → place < length code.crossings
    → place ≢ c → place ≢ d → bit (with_two k c d g h state) place ≡ bit (with_two k c d b e state) place =
    λ b e g h state b_below e_below g_below h_below below place place_below not_c not_d.
    (bits g h state g_below h_below below).others place (omega (arith, place_below, size)) not_c not_d
    ∙ sym ((bits b e state b_below e_below below).others place (omega (arith, place_below, size)) not_c not_d) in
    let gone : ℕ → Bool = is_of_two c d in
    record {
      mixed = λ b e g h state b_below e_below g_below h_below below b_is e_is g_is h_is.
          let one = bits b e state b_below e_below below in
          let two = bits g h state g_below h_below below in
          let counts = four.mixed (with_two k c d b e state) (with_two k c d g h state) (same b e g h state b_below e_below g_below h_below below)
          (one.first ∙ b_is) (one.second ∙ e_is) (two.first ∙ g_is) (two.second ∙ h_is) in
          omega (arith, counts, before code (with_two k c d b e state) twice, before code (with_two k c d g h state) twice);
      more = λ b e g h state b_below e_below g_below h_below below b_is e_is g_is h_is.
          let one = bits b e state b_below e_below below in
          let two = bits g h state g_below h_below below in
          let counts = four.more (with_two k c d b e state) (with_two k c d g h state) (same b e g h state b_below e_below g_below h_below below)
          (one.first ∙ b_is) (one.second ∙ e_is) (two.first ∙ g_is) (two.second ∙ h_is) in
          omega (arith, counts, before code (with_two k c d b e state) twice, before code (with_two k c d g h state) twice);
      straight = λ b e state b_below e_below below b_is e_is.
          let one = bits b e state b_below e_below below in
          let counts = four.straight (with_two k c d b e state) (one.first ∙ b_is) (one.second ∙ e_is) in
          let places = ap (λ n. filter (λ x. not (nat_eq c x || nat_eq d x)) (range_with_len 0 n)) size
          ∙ places-two c d k c_within d_within bigon.apart in
          let left = circles-dropped code (is_of_two c d) (λ i. early c (k + 1) (early (late c (k + 1) d) k i)) k (with_two k c d b e state) state
          twice places
          (λ i i_below.
          let z_below = late-below c (k + 1) d c_within (omega (arith, d_within)) bigon.apart in
          let z_within : late c (k + 1) d ≤ k = omega (arith, z_below) in
          let inner = (IsPermutation-late (late c (k + 1) d) k z_within).back_below i (omega (arith, i_below)) in
          let outer = (IsPermutation-late c (k + 1) c_within).back_below (early (late c (k + 1) d) k i) (omega (arith, inner)) in
          omega (arith, outer, size))
          (λ i i_below. sym (one.kept i i_below)) in
          omega (arith, counts, left, before code (with_two k c d b e state) twice);
    }

-- terms

four_terms : (plus minus new_plus new_minus : ℕ) (exponent : ℤ) (r0 c0 r1 c1 r2 c2 r3 c3 s0 d0 s1 d1 s2 d2 s3 d3 : ℕ) → plus ≡ new_plus → minus ≡ new_minus
    → r0 ≡ s0 → c0 ≡ d0 → r1 ≡ s1 → c1 ≡ d1 → r2 ≡ s2 → c2 ≡ d2 → r3 ≡ s3 → c3 ≡ d3
    → kh.term_of plus minus exponent r0 c0 +ℤ kh.term_of plus minus exponent r1 c1
    +ℤ (kh.term_of plus minus exponent r2 c2 +ℤ kh.term_of plus minus exponent r3 c3)
    ≡ term_at new_plus new_minus exponent s0 d0 +ℤ term_at new_plus new_minus exponent s1 d1
    +ℤ (term_at new_plus new_minus exponent s2 d2 +ℤ term_at new_plus new_minus exponent s3 d3)
four_terms plus minus new_plus new_minus exponent r0 c0 r1 c1 r2 c2 r3 c3 s0 d0 s1 d1 s2 d2 s3 d3 plus_is minus_is r0_is c0_is r1_is c1_is r2_is c2_is r3_is c3_is =
    let one : (r c s d : ℕ) → r ≡ s → c ≡ d → kh.term_of plus minus exponent r c ≡ term_at new_plus new_minus exponent s d =
    λ r c s d r_is c_is.
    term_is plus minus new_plus new_minus exponent r c s d plus_is minus_is r_is c_is in
    ap₂ (λ x y. x +ℤ y) (ap₂ (λ x y. x +ℤ y) (one r0 c0 s0 d0 r0_is c0_is) (one r1 c1 s1 d1 r1_is c1_is))
    (ap₂ (λ x y. x +ℤ y) (one r2 c2 s2 d2 r2_is c2_is) (one r3 c3 s3 d3 r3_is c3_is))
  where
    term_is : (plus minus new_plus new_minus : ℕ) (exponent : ℤ) (r c s d : ℕ) → plus ≡ new_plus → minus ≡ new_minus → r ≡ s → c ≡ d
        → kh.term_of plus minus exponent r c ≡ term_at new_plus new_minus exponent s d
    term_is plus minus new_plus new_minus exponent r c s d plus_is minus_is r_is c_is = grind (arith, nat_tests)

pub one_of_two : (b : Bool) → one_if b + one_if (not b) ≡ 1
one_of_two b = grind (arith, nat_tests)

state_sum-slots : (code : Code) (c d p q : ℕ) → IsDirected code.crossings → HasNoSingleArcs code.crossings → HasBigonAt code.crossings c d p q → p < 4 → q < 4 → (exponent : ℤ)
    → parts_sum (arc_count code.crossings + 1) (without_finger code c d) exponent ≡ state_sum code exponent
state_sum-slots code c d p q directed alone bigon p_slot q_slot exponent =
    let k = length code.crossings - 2 in
    let size : length code.crossings ≡ length code.crossings - 2 + 1 + 1 = two_below (length code.crossings) c d bigon.first_below bigon.second_below bigon.apart in
    let size_suc : length code.crossings ≡ suc (length code.crossings - 2 + 1) = omega (arith, size) in
    let next_suc : length code.crossings - 2 + 1 ≡ suc (length code.crossings - 2) = omega arith in
    let c_within : c ≤ length code.crossings - 2 + 1 = omega (arith, bigon.first_below, size) in
    let d_within : d ≤ length code.crossings - 2 + 1 = omega (arith, bigon.second_below, size) in
    let e = late c (length code.crossings - 2 + 1) d in
    let e_below = late-below c (length code.crossings - 2 + 1) d c_within (omega (arith, d_within)) bigon.apart in
    let e_within : late c (length code.crossings - 2 + 1) d ≤ length code.crossings - 2 = omega (arith, e_below) in
    let kept : ℕ → ℕ = λ i. early c (length code.crossings - 2 + 1) (early (late c (length code.crossings - 2 + 1) d) (length code.crossings - 2) i) in
    let places = ap (λ n. filter (λ x. not (nat_eq c x || nat_eq d x)) (range_with_len 0 n)) size
    ∙ places-two c d (length code.crossings - 2) c_within d_within bigon.apart in
    let left_size : length (kept_crossings code.crossings (is_of_two c d)) ≡ length code.crossings - 2 =
    length-kept code.crossings (is_of_two c d) kept (length code.crossings - 2) places in
    let signs_size : length (kept_signs code.crossings (is_of_two c d)) ≡ length code.crossings - 2 =
    length-map (kept_places code.crossings (is_of_two c d)) (positive_at code.crossings) ∙ ap length places
    ∙ length-map-range_with_len kept 0 (length code.crossings - 2) in
    let few : parts_plus (without_finger code c d) ≤ length code.crossings - 2 =
    omega (arith, count_by-le-length (λ (b : Bool). b) (kept_signs code.crossings (is_of_two c d)), signs_size) in
    let counted = plus-kept_two code c d bigon.first_below bigon.second_below bigon.apart in
    let sign = bigon-signs code c d p q directed alone bigon p_slot q_slot in
    let both : one_if (positive_at code.crossings c) + one_if (positive_at code.crossings d) ≡ 1 =
    ap (λ b. one_if (positive_at code.crossings c) + one_if b) sign ∙ one_of_two (positive_at code.crossings c) in
    let plus_is : plus_count code.crossings ≡ parts_plus (without_finger code c d) + 1 = omega (arith, counted, both) in
    let minus_is : minus_count code.crossings ≡ parts_minus (without_finger code c d) + 1 = omega (arith, plus_is, left_size, few, size) in
    let four = FourCircles-bigon code (length code.crossings - 2) c d p q (HasArcsTwice-directed code.crossings directed) bigon p_slot q_slot size in
    let g : ℕ → ℤ = λ s. state_term code exponent (with_bit (length code.crossings - 2 + 1) c 0 s)
    +ℤ state_term code exponent (with_bit (length code.crossings - 2 + 1) c 1 s) in
    let split : state_sum code exponent
    ≡ int_sum (map (λ state. g (with_bit (length code.crossings - 2) (late c (length code.crossings - 2 + 1) d) 0 state)
    +ℤ g (with_bit (length code.crossings - 2) (late c (length code.crossings - 2 + 1) d) 1 state)) (range_with_len 0 (2 ^ (length code.crossings - 2)))) =
    ap (λ m. int_sum (map (state_term code exponent) (range_with_len 0 (2 ^ m)))) size_suc
    ∙ int_sum-with_bit (state_term code exponent) (length code.crossings - 2 + 1) c c_within
    ∙ ap (λ m. int_sum (map g (range_with_len 0 (2 ^ m)))) next_suc
    ∙ int_sum-with_bit g (length code.crossings - 2) (late c (length code.crossings - 2 + 1) d) e_within in
    let each : (state : ℕ) → state < 2 ^ (length code.crossings - 2)
    → g (with_bit (length code.crossings - 2) (late c (length code.crossings - 2 + 1) d) 0 state)
    +ℤ g (with_bit (length code.crossings - 2) (late c (length code.crossings - 2 + 1) d) 1 state)
    ≡ parts_term (arc_count code.crossings + 1) (without_finger code c d) exponent state =
    λ state below.
    let full : ℕ → ℕ → ℕ = λ b e. with_two (length code.crossings - 2) c d b e state in
    let zero_low : 0 < 2 = omega arith in
    let one_low : 1 < 2 = omega arith in
    let r = ones (length code.crossings - 2) state in
    let s = parts_circle_count (arc_count code.crossings + 1) (without_finger code c d) state in
    let count : (b e t : ℕ) → b < 2 → e < 2 → ones (length code.crossings - 2) state + e + b ≡ t
    → ones (length code.crossings) (with_two (length code.crossings - 2) c d b e state) ≡ t =
    λ b e t b_below e_below sum.
    ap (λ m. ones m (with_two (length code.crossings - 2) c d b e state)) size
    ∙ (HasTwoBits-with_two (length code.crossings - 2) c d b e state c_within d_within bigon.apart b_below e_below below).count ∙ sum in
    let new_ones : ones (length (kept_crossings code.crossings (is_of_two c d))) state ≡ ones (length code.crossings - 2) state =
    ap (λ m. ones m state) left_size in
    let last : kh.term_of (parts_plus (without_finger code c d)) (parts_minus (without_finger code c d)) exponent
    (ones (length code.crossings - 2) state) (parts_circle_count (arc_count code.crossings + 1) (without_finger code c d) state)
    ≡ parts_term (arc_count code.crossings + 1) (without_finger code c d) exponent state =
    ap (λ m. kh.term_of (parts_plus (without_finger code c d)) (parts_minus (without_finger code c d)) exponent m
    (parts_circle_count (arc_count code.crossings + 1) (without_finger code c d) state)) (sym new_ones) in
    let done = sym (term-is (parts_plus (without_finger code c d)) (parts_minus (without_finger code c d)) exponent r s) ∙ last in
    elim (parity p) [
      | inl even ↦
          let q_odd : q % 2 ≡ 1 = omega (arith, bigon.odd, even) in
          let c_closing : closing_at p ≡ 0 = ap (λ m. cond (nat_eq m 0) 0 1) even in
          let c_through : through_at p ≡ 1 = ap (λ m. cond (nat_eq m 0) 1 0) even in
          let d_closing : closing_at q ≡ 1 = ap (λ m. cond (nat_eq m 0) 0 1) q_odd in
          let d_through : through_at q ≡ 0 = ap (λ m. cond (nat_eq m 0) 1 0) q_odd in
          let n = circle_count code (with_two (length code.crossings - 2) c d 0 0 state) in
          four_terms (plus_count code.crossings) (minus_count code.crossings) (parts_plus (without_finger code c d) + 1)
          (parts_minus (without_finger code c d) + 1) exponent _ _ _ _ _ _ _ _ r n (r + 1) s (r + 1) (n + 1) (r + 2) n plus_is minus_is
          (count 0 0 r zero_low zero_low (omega arith)) refl
          (count 1 0 (r + 1) one_low zero_low (omega arith)) (four.straight 1 0 state one_low zero_low below (sym c_through) (sym d_through))
          (count 0 1 (r + 1) zero_low one_low (omega arith))
          (four.more 0 0 0 1 state zero_low zero_low zero_low one_low below (sym c_closing) (sym d_through) (sym c_closing) (sym d_closing))
          (count 1 1 (r + 2) one_low one_low (omega arith))
          (four.mixed 0 0 1 1 state zero_low zero_low one_low one_low below (sym c_closing) (sym d_through) (sym c_through) (sym d_closing))
          ∙ term_of-finger (parts_plus (without_finger code c d)) (parts_minus (without_finger code c d)) r s n exponent
          ∙ done
      | inr odd ↦
          let q_even : q % 2 ≡ 0 = omega (arith, bigon.odd, odd) in
          let c_closing : closing_at p ≡ 1 = ap (λ m. cond (nat_eq m 0) 0 1) odd in
          let c_through : through_at p ≡ 0 = ap (λ m. cond (nat_eq m 0) 1 0) odd in
          let d_closing : closing_at q ≡ 0 = ap (λ m. cond (nat_eq m 0) 0 1) q_even in
          let d_through : through_at q ≡ 1 = ap (λ m. cond (nat_eq m 0) 1 0) q_even in
          let n = circle_count code (with_two (length code.crossings - 2) c d 1 1 state) in
          four_terms (plus_count code.crossings) (minus_count code.crossings) (parts_plus (without_finger code c d) + 1)
          (parts_minus (without_finger code c d) + 1) exponent _ _ _ _ _ _ _ _ r n (r + 1) (n + 1) (r + 1) s (r + 2) n plus_is minus_is
          (count 0 0 r zero_low zero_low (omega arith))
          (four.mixed 1 1 0 0 state one_low one_low zero_low zero_low below (sym c_closing) (sym d_through) (sym c_through) (sym d_closing))
          (count 1 0 (r + 1) one_low zero_low (omega arith))
          (four.more 1 1 1 0 state one_low one_low one_low zero_low below (sym c_closing) (sym d_through) (sym c_closing) (sym d_closing))
          (count 0 1 (r + 1) zero_low one_low (omega arith)) (four.straight 0 1 state zero_low one_low below (sym c_through) (sym d_through))
          (count 1 1 (r + 2) one_low one_low (omega arith)) refl
          ∙ term_of-finger_other (parts_plus (without_finger code c d)) (parts_minus (without_finger code c d)) r s n exponent
          ∙ done
    ] in
    ap (λ m. int_sum (map (parts_term (arc_count code.crossings + 1) (without_finger code c d) exponent) (range_with_len 0 (2 ^ m)))) left_size
    ∙ sym
    (split
    ∙ int_sum-range_agree (λ state. g (with_bit (length code.crossings - 2) (late c (length code.crossings - 2 + 1) d) 0 state)
    +ℤ g (with_bit (length code.crossings - 2) (late c (length code.crossings - 2 + 1) d) 1 state))
    (parts_term (arc_count code.crossings + 1) (without_finger code c d) exponent) 0 (2 ^ (length code.crossings - 2))
    (λ state from below. each state (omega (arith, below))))
  where
    two_below : (n c d : ℕ) → c < n → d < n → c ≢ d → n ≡ n - 2 + 1 + 1
    two_below n c d c_below d_below apart = omega (arith, c_below, d_below, apart)

pub state_sum-bigon : (code : Code) (c d p q : ℕ) → IsDirected code.crossings → HasNoSingleArcs code.crossings
    → HasBigonAt code.crossings c d p q → (exponent : ℤ)
    → parts_sum (arc_count code.crossings + 1) (without_finger code c d) exponent ≡ state_sum code exponent
state_sum-bigon code c d p q directed alone bigon exponent =
    state_sum-slots code c d (p % 4) (q % 4) directed alone (HasBigonAt-slots code.crossings c d p q bigon) (omega arith) (omega arith) exponent

pub state_sum-without_finger : (code : Code) (c d p q : ℕ) → IsTrue (accepted code) → HasBigonAt code.crossings c d p q → (exponent : ℤ)
    → parts_sum (arc_count code.crossings + 1) (without_finger code c d) exponent ≡ state_sum code exponent
state_sum-without_finger code c d p q is bigon exponent =
    let directed = HasNoSingleArcs-accepted code is in state_sum-bigon code c d p q directed.0 directed.1 bigon exponent
