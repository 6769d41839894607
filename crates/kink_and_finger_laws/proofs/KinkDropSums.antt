-- Dropping a crossing with a kink keeps the state sum. The kink's arc has its head at one of two neighbouring slots and its tail
-- at the other: so the crossing is positive exactly where the first of these slots is even. Then come counts: the positive
-- crossings are those that stay, and this one if it is positive. The state sum is a sum over the states of the other crossings,
-- each once with the bit 0 and once with the bit 1 at the kink. One of these two states goes through the kink and has the circles
-- of the state without it; the other closes the kink and has one circle more. At a positive kink it is the bit 0 that closes, at
-- a negative one the bit 1. In both cases the two terms come to the term of the state without the kink, and so the sums agree.
-- The lemmas on counts and on sums of terms serve other files too.
use Rattle.std.proofs.Common.{◌≡◌, ℕ, zero, suc, inl, inr, ◌+◌, ◌-◌, ◌%◌, ◌^◌, ◌<◌, ◌≤◌, ◌∙◌, ℤ, ◌+ℤ◌, List, [], ◌∷◌, sym, refl, map, ap, ap₂, arith, Bool, true, false, cond, not, ◌&&◌, count_by, length, IsTrue, eq-eqb, eqb-true}
use Rattle.std.specs.Prelude.{nat_eq}
use Rattle.std.specs.List.{filter, range_with_len}
use Rattle.std.proofs.lemmas.Bool.{cases_Bool, ne_eqb}
use Rattle.std.proofs.lemmas.List.{length-map}
use Rattle.std.proofs.lemmas.List.FromFn.{length-map-range_with_len}
use Rattle.std.proofs.lemmas.List.Sums.{count_by-le-length}
use Rattle.std.proofs.lemmas.Bool.Decides.{nat_tests}
use Rattle.kh_types.specs.Acceptance.{accepted}
use Rattle.kh_types.specs.Bits.{one_if, ones}
use Rattle.kh_types.specs.Code.{Code, arc_count}
use Rattle.kh_types.specs.Directions.{is_positive, plus_count, minus_count, positive_at}
use Rattle.kh_types.specs.StateSum.{int_sum, state_sum, state_term}
use Rattle.kh_types.specs.StateSum as kh
use Rattle.kh_types.proofs.AcceptedLemmas.{HasArcsTwice-accepted}
use Rattle.kh_types.proofs.Heads.{HasNoSingleArcs-accepted}
use Rattle.kh_types.proofs.Lists.{count_by-map}
use Rattle.kh_types.proofs.RangeCounts.{count_by-alike, count_by-one_more}
use Rattle.gluing_laws.proofs.Terms.{term_at}
use Rattle.gluing_laws.specs.Arcs.{enters}
use Rattle.kink_and_finger_laws.specs.Drops.{kept_places, kept_signs, kept_crossings, without_kink}
use Rattle.kink_and_finger_laws.specs.Dropping.{HasKinkAt}
use Rattle.kink_and_finger_laws.proofs.DroppedDarts.{is_code_head}
use Rattle.kink_and_finger_laws.specs.DropCircles.{parts_circle_count, parts_plus, parts_minus, parts_term, parts_sum}
use Rattle.kink_and_finger_laws.proofs.InsertedBits.{with_bit}
use Rattle.kink_and_finger_laws.specs.Pulls.{dart_in, early}
use Rattle.kink_and_finger_laws.proofs.Smoothed.{dart_in-below}
use Rattle.kink_and_finger_laws.proofs.OldDarts.{heads-partner, dart_in-slot, place_in}
use Rattle.kink_and_finger_laws.proofs.KinkDrops.{kink-partner}
use Rattle.kink_and_finger_laws.proofs.KeptCodes.{length-kept}
use Rattle.kink_and_finger_laws.proofs.StandingNames.{count-parts, count_by-cons}
use Rattle.kink_and_finger_laws.proofs.KinkCircles.{kept_are, circles-through, circles-closing}
use Rattle.gluing_laws.proofs.KinkSums.{term_of-positive_kink, term_of-negative_kink}
use Rattle.kink_and_finger_laws.proofs.Insertions.{int_sum-with_bit, HasBit-with_bit}
use Rattle.kh_types.proofs.IntSums.{int_sum-range_agree}

-- the sign of a kink

sign-by_slot : (b : Bool) (p : ℕ) → p < 4 → enters b ((p + 1) % 4) ≡ not (enters b (p % 4)) → b ≡ nat_eq (p % 2) 0
sign-by_slot b p below same = grind (arith, nat_tests)

pub kink-sign : (code : Code) (c p : ℕ) → IsTrue (accepted code) → HasKinkAt code.crossings c p
    → positive_at code.crossings c ≡ nat_eq (p % 2) 0
kink-sign code c p is kink =
    let crossings = code.crossings in
    let directed = HasNoSingleArcs-accepted code is in
    let head_in : (q : ℕ) → is_code_head code.crossings (dart_in c q) ≡ enters (positive_at code.crossings c) (q % 4) =
    λ q. ap (λ a. enters (positive_at code.crossings a) (dart_in c q % 4)) (place_in c q)
    ∙ ap (enters (positive_at code.crossings c)) (dart_in-slot c q) in
    sign-by_slot (positive_at code.crossings c) p kink.slot
    (sym (head_in (p + 1))
    ∙ ap (is_code_head code.crossings) (sym (kink-partner code.crossings c p (HasArcsTwice-accepted code is) kink))
    ∙ heads-partner code.crossings directed.0 directed.1 (dart_in c p) (dart_in-below (length code.crossings) c p kink.below)
    ∙ ap not (head_in p))

-- the numbers of positive and negative crossings

abbrev one_unless : Bool → ℕ
one_unless b = cond b 0 1

pub count-later : (p : ℕ → Bool) (a n : ℕ) → count_by p (range_with_len (a + 1) n) ≡ count_by (λ x. p (x + 1)) (range_with_len a n)
count-later p a zero = refl
count-later p a (suc n) =
    let rest = count-later p (a + 1) n in
    omega (arith, rest, count_by-cons p (a + 1) (range_with_len (a + 1 + 1) n), count_by-cons (λ x. p (x + 1)) a (range_with_len (a + 1) n))

pub count-filter : (p q : ℕ → Bool) (xs : List ℕ) → count_by p (filter q xs) ≡ count_by (λ x. p x && q x) xs
count-filter p q [] = refl
count-filter p q (x ∷ xs) =
    grind (arith, nat_tests, count-filter p q xs, count_by-cons (λ x. p x && q x) x xs, count_by-cons p x (filter q xs))

pub count-none : (a n : ℕ) → count_by (λ x. false) (range_with_len a n) ≡ 0
count-none a zero = refl
count-none a (suc n) = grind (arith, nat_tests, count-none (a + 1) n, count_by-cons (λ x. false) a (range_with_len (a + 1) n))

pub count-one : (p : ℕ → Bool) (c n : ℕ) → c < n → count_by (λ x. p x && nat_eq c x) (range_with_len 0 n) ≡ cond (p c) 1 0
count-one p c n below = elim (cases_Bool (p c)) [
  | inl yes_is ↦
      count_by-one_more (λ x. p x && nat_eq c x) (λ x. false) 0 n c (omega arith) (omega (arith, below))
      (ap₂ (λ a b. a && b) yes_is (eq-eqb c c refl)) refl
      (λ x other. ap (λ t. p x && t) (ne_eqb c x (λ same. other (sym same))) ∙ and-off (p x))
      ∙ (let none = count-none 0 n in
      let one : count_by (λ x. false) (range_with_len 0 n) + 1 ≡ 1 = omega (arith, none) in one)
      ∙ sym (ap (λ t. cond t 1 0) yes_is)
  | inr no_is ↦
      count_by-alike (λ x. p x && nat_eq c x) (λ x. false) 0 n
      (λ x from x_below. off (p x) (nat_eq c x) (λ same. ap p (sym (eqb-true c x same)) ∙ no_is))
      ∙ count-none 0 n ∙ sym (ap (λ t. cond t 1 0) no_is)
]
  where
    and-off : (a : Bool) → (a && false) ≡ false
    and-off a = grind (arith, nat_tests)

    off : (a b : Bool) → (b ≡ true → a ≡ false) → (a && b) ≡ false
    off a b tells = grind (arith, nat_tests)

pub plus-kept : (code : Code) (c : ℕ) → c < length code.crossings
    → plus_count code.crossings ≡ cond (positive_at code.crossings c) 1 0 + parts_plus (without_kink code c)
plus-kept code c below =
    let p : ℕ → Bool = positive_at code.crossings in
    let n = length code.crossings in
    let e : 0 + 1 ≡ 1 = omega arith in
    let all : plus_count code.crossings ≡ count_by (positive_at code.crossings) (range_with_len 0 (length code.crossings)) =
    ap (λ a. count_by (is_positive code.crossings) (range_with_len a (length code.crossings))) (sym e)
    ∙ count-later (is_positive code.crossings) 0 (length code.crossings) in
    let signs : parts_plus (without_kink code c)
    ≡ count_by (λ x. positive_at code.crossings x && not (nat_eq c x)) (range_with_len 0 (length code.crossings)) =
    count_by-map (λ (b : Bool). b) (positive_at code.crossings) (kept_places code.crossings (nat_eq c))
    ∙ count-filter (positive_at code.crossings) (λ x. not (nat_eq c x)) (range_with_len 0 (length code.crossings)) in
    let parts = count-parts (positive_at code.crossings) (nat_eq c) (range_with_len 0 (length code.crossings)) in
    let own = count-one (positive_at code.crossings) c (length code.crossings) below in
    omega (arith, all, signs, parts, own)

-- terms

pub term-is : (plus minus : ℕ) (exponent : ℤ) (r circles : ℕ) → kh.term_of plus minus exponent r circles ≡ term_at plus minus exponent r circles
term-is plus minus exponent r circles = grind (arith, nat_tests)

pub state_sum-without_kink : (code : Code) (c p : ℕ) → IsTrue (accepted code) → HasKinkAt code.crossings c p → (exponent : ℤ)
    → parts_sum (arc_count code.crossings + 1) (without_kink code c) exponent ≡ state_sum code exponent
state_sum-without_kink code c p is kink exponent =
    let n = length code.crossings in
    let k = length code.crossings - 1 in
    let size : length code.crossings ≡ length code.crossings - 1 + 1 = omega (arith, kink.below) in
    let size_suc : length code.crossings ≡ suc (length code.crossings - 1) = omega (arith, kink.below) in
    let within : c ≤ length code.crossings - 1 = omega (arith, kink.below) in
    let left = without_kink code c in
    let left_size : length (kept_crossings code.crossings (nat_eq c)) ≡ length code.crossings - 1 =
    length-kept code.crossings (nat_eq c) (early c (length code.crossings - 1)) (length code.crossings - 1)
    (kept_are code c (length code.crossings - 1) size within) in
    let plus = parts_plus (without_kink code c) in
    let minus = parts_minus (without_kink code c) in
    let signs_size : length (kept_signs code.crossings (nat_eq c)) ≡ length code.crossings - 1 =
    length-map (kept_places code.crossings (nat_eq c)) (positive_at code.crossings)
    ∙ ap length (kept_are code c (length code.crossings - 1) size within)
    ∙ length-map-range_with_len (early c (length code.crossings - 1)) 0 (length code.crossings - 1) in
    let few : parts_plus (without_kink code c) ≤ length code.crossings - 1 =
    omega (arith, count_by-le-length (λ (b : Bool). b) (kept_signs code.crossings (nat_eq c)), signs_size) in
    let counted = plus-kept code c kink.below in
    let sign = kink-sign code c p is kink in
    let term : ℕ → ℤ = state_term code exponent in
    let split : state_sum code exponent
    ≡ int_sum (map (λ state. state_term code exponent (with_bit (length code.crossings - 1) c 0 state)
    +ℤ state_term code exponent (with_bit (length code.crossings - 1) c 1 state)) (range_with_len 0 (2 ^ (length code.crossings - 1)))) =
    ap (λ m. int_sum (map (state_term code exponent) (range_with_len 0 (2 ^ m)))) size_suc
    ∙ int_sum-with_bit (state_term code exponent) (length code.crossings - 1) c within in
    let each : (state : ℕ) → state < 2 ^ (length code.crossings - 1)
    → state_term code exponent (with_bit (length code.crossings - 1) c 0 state)
    +ℤ state_term code exponent (with_bit (length code.crossings - 1) c 1 state)
    ≡ parts_term (arc_count code.crossings + 1) (without_kink code c) exponent state =
    λ state below.
    let zero_bit = HasBit-with_bit (length code.crossings - 1) c 0 state within (omega arith) below in
    let one_bit = HasBit-with_bit (length code.crossings - 1) c 1 state within (omega arith) below in
    let circles = parts_circle_count (arc_count code.crossings + 1) (without_kink code c) state in
    let r = ones (length code.crossings - 1) state in
    let zero_ones : ones (length code.crossings) (with_bit (length code.crossings - 1) c 0 state) ≡ ones (length code.crossings - 1) state =
    ap (λ m. ones m (with_bit (length code.crossings - 1) c 0 state)) size ∙ zero_bit.count ∙ omega arith in
    let one_ones : ones (length code.crossings) (with_bit (length code.crossings - 1) c 1 state) ≡ ones (length code.crossings - 1) state + 1 =
    ap (λ m. ones m (with_bit (length code.crossings - 1) c 1 state)) size ∙ one_bit.count in
    let new_ones : ones (length (kept_crossings code.crossings (nat_eq c))) state ≡ ones (length code.crossings - 1) state =
    ap (λ m. ones m state) left_size in
    let last : kh.term_of (parts_plus (without_kink code c)) (parts_minus (without_kink code c)) exponent
    (ones (length code.crossings - 1) state) (parts_circle_count (arc_count code.crossings + 1) (without_kink code c) state)
    ≡ parts_term (arc_count code.crossings + 1) (without_kink code c) exponent state =
    ap (λ m. kh.term_of (parts_plus (without_kink code c)) (parts_minus (without_kink code c)) exponent m
    (parts_circle_count (arc_count code.crossings + 1) (without_kink code c) state)) (sym new_ones) in
    elim (cases_Bool (nat_eq (p % 2) 0)) [
      | inl even ↦
          let plus_is : plus_count code.crossings ≡ parts_plus (without_kink code c) + 1 =
          let one : one_if (positive_at code.crossings c) ≡ 1 = ap one_if (sign ∙ even) in omega (arith, counted, one) in
          let minus_is : minus_count code.crossings ≡ parts_minus (without_kink code c) = omega (arith, plus_is, left_size, few, kink.below) in
          let zero_circles = circles-closing code c p (length code.crossings - 1) (with_bit (length code.crossings - 1) c 0 state) state is kink size
          (λ i i_below. sym (zero_bit.others i i_below)) (zero_bit.there ∙ sym (ap one_unless even)) in
          let one_circles = circles-through code c p (length code.crossings - 1) (with_bit (length code.crossings - 1) c 1 state) state is kink size
          (λ i i_below. sym (one_bit.others i i_below)) (one_bit.there ∙ sym (ap one_if even)) in
          four_terms (plus_count code.crossings) (minus_count code.crossings) (parts_plus (without_kink code c) + 1) (parts_minus (without_kink code c))
          exponent _ _ _ _ r (r + 1) (circles + 1) circles plus_is minus_is zero_ones one_ones zero_circles one_circles
          ∙ term_of-positive_kink (parts_plus (without_kink code c)) (parts_minus (without_kink code c)) r circles exponent
          ∙ sym (term-is (parts_plus (without_kink code c)) (parts_minus (without_kink code c)) exponent r circles) ∙ last
      | inr odd ↦
          let plus_is : plus_count code.crossings ≡ parts_plus (without_kink code c) =
          let none : one_if (positive_at code.crossings c) ≡ 0 = ap one_if (sign ∙ odd) in omega (arith, counted, none) in
          let minus_is : minus_count code.crossings ≡ parts_minus (without_kink code c) + 1 = omega (arith, plus_is, left_size, few, kink.below) in
          let zero_circles = circles-through code c p (length code.crossings - 1) (with_bit (length code.crossings - 1) c 0 state) state is kink size
          (λ i i_below. sym (zero_bit.others i i_below)) (zero_bit.there ∙ sym (ap one_if odd)) in
          let one_circles = circles-closing code c p (length code.crossings - 1) (with_bit (length code.crossings - 1) c 1 state) state is kink size
          (λ i i_below. sym (one_bit.others i i_below)) (one_bit.there ∙ sym (ap one_unless odd)) in
          four_terms (plus_count code.crossings) (minus_count code.crossings) (parts_plus (without_kink code c)) (parts_minus (without_kink code c) + 1)
          exponent _ _ _ _ r (r + 1) circles (circles + 1) plus_is minus_is zero_ones one_ones zero_circles one_circles
          ∙ term_of-negative_kink (parts_plus (without_kink code c)) (parts_minus (without_kink code c)) r circles exponent
          ∙ sym (term-is (parts_plus (without_kink code c)) (parts_minus (without_kink code c)) exponent r circles) ∙ last
    ] in
    ap (λ m. int_sum (map (parts_term (arc_count code.crossings + 1) (without_kink code c) exponent) (range_with_len 0 (2 ^ m)))) left_size
    ∙ sym
    (split
    ∙ int_sum-range_agree (λ state. state_term code exponent (with_bit (length code.crossings - 1) c 0 state)
    +ℤ state_term code exponent (with_bit (length code.crossings - 1) c 1 state))
    (parts_term (arc_count code.crossings + 1) (without_kink code c) exponent) 0 (2 ^ (length code.crossings - 1))
    (λ state from below. each state (omega (arith, below))))
  where
    four_terms : (plus minus new_plus new_minus : ℕ) (exponent : ℤ) (r0 c0 r1 c1 s0 s1 d0 d1 : ℕ) → plus ≡ new_plus → minus ≡ new_minus
        → r0 ≡ s0 → r1 ≡ s1 → c0 ≡ d0 → c1 ≡ d1
        → kh.term_of plus minus exponent r0 c0 +ℤ kh.term_of plus minus exponent r1 c1
        ≡ term_at new_plus new_minus exponent s0 d0 +ℤ term_at new_plus new_minus exponent s1 d1
    four_terms plus minus new_plus new_minus exponent r0 c0 r1 c1 s0 s1 d0 d1 plus_is minus_is r0_is r1_is c0_is c1_is =
        grind (arith, nat_tests, term-is, term_at)
