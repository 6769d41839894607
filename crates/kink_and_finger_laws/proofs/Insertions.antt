-- Sums over states with one bit more. Each state of one crossing more is a state of the others with a bit put in at a given
-- place: so the sum over all states is the sum over the states of the others, each once with the bit 0 and once with the bit 1.
-- The proof is by induction over the number of the others. If the new bit is the highest, the states fall into two halves; else
-- the highest bit of the old state is the highest of the new one, and both sums are split by it. In the second half the same
-- induction gives the bits of such a state: it is within range, the new bit stands at its place, the other bits are the old ones
-- in their order, and the ones are those of the old state and the new bit.
use Rattle.std.proofs.Common.{◌≡◌, ℕ, zero, suc, ◌⊎◌, inl, inr, ◌+◌, ◌-◌, ◌*◌, ◌^◌, ◌<◌, ◌≤◌, ◌∙◌, ℤ, ◌+ℤ◌, sym, refl, map, ap, ap₂, arith}
use Rattle.std.specs.List.{range_with_len}
use Rattle.std.proofs.Math.Nat.{pow-suc}
use Rattle.std.proofs.lemmas.Bool.{cases_lt}
use Rattle.std.proofs.lemmas.Bool.Decides.{nat_tests}
use Rattle.std.proofs.lemmas.Int.{ints}
use Rattle.kh_types.specs.Bits.{bit, ones}
use Rattle.kh_types.specs.StateSum.{int_sum}
use Rattle.kh_types.proofs.BitLemmas.{ones-more}
use Rattle.kh_types.proofs.JointNumbers.{bit-highest, bit-lower}
use Rattle.kink_and_finger_laws.proofs.InsertedBits.{with_bit}
use Rattle.kink_and_finger_laws.specs.Pulls.{early}
use Rattle.gluing_laws.proofs.CodeCircles.{bit-above}
use Rattle.gluing_laws.proofs.SplitStates.{doubled, sums_over}

-- the three cases of a bit more

with_bit-top : (k c b state : ℕ) → c ≡ suc k → with_bit (suc k) c b state ≡ b * 2 ^ (suc k) + state
with_bit-top k c b state is = grind (arith, nat_tests)

with_bit-low : (k c b state : ℕ) → c ≤ k → state < 2 ^ k → with_bit (suc k) c b state ≡ with_bit k c b state
with_bit-low k c b state within below = grind (arith, nat_tests)

with_bit-high : (k c b state : ℕ) → c ≤ k → with_bit (suc k) c b (2 ^ k + state) ≡ 2 ^ (suc k) + with_bit k c b state
with_bit-high k c b state within = grind (arith, nat_tests)

last_or_within : (c k : ℕ) → c ≤ suc k → (c ≡ suc k) ⊎ (c ≤ k)
last_or_within c k within = grind arith

-- each state is one with one bit more, so the sum over all states is the sum over the states with one bit less of both
sum-with_bit : (h : ℕ → ℤ) (k c : ℕ) → c ≤ k
    → sums_over h (suc k) ≡ sums_over (λ state. h (with_bit k c 0 state) +ℤ h (with_bit k c 1 state)) k
sum-with_bit h zero c within =
    doubled h (λ state. h (state + 0) +ℤ h (state + 1)) 0
    (λ state below.
    let z : state ≡ 0 = zero_state state below in
    ap (λ s. h s +ℤ h (2 ^ 0 + s)) z ∙ sym (ap (λ s. h (s + 0) +ℤ h (s + 1)) z))
  where
    zero_state : (state : ℕ) → state < 2 ^ 0 → state ≡ 0
    zero_state state below = omega (arith, below)
sum-with_bit h (suc k) c within = elim (last_or_within c k within) [
  | inl top ↦
      doubled h (λ state. h (with_bit (suc k) c 0 state) +ℤ h (with_bit (suc k) c 1 state)) (suc k)
      (λ state below.
      let zero_is : with_bit (suc k) c 0 state ≡ state = with_bit-top k c 0 state top ∙ omega arith in
      let one_is : with_bit (suc k) c 1 state ≡ 2 ^ suc k + state = with_bit-top k c 1 state top ∙ omega arith in
      sym (ap₂ (λ x y. h x +ℤ h y) zero_is one_is))
  | inr lower ↦
      let pair : ℕ → ℤ = λ state. h state +ℤ h (2 ^ (suc k) + state) in
      doubled h pair (suc k) (λ state below. refl)
      ∙ sum-with_bit pair k c lower
      ∙ sym
      (doubled (λ state. h (with_bit (suc k) c 0 state) +ℤ h (with_bit (suc k) c 1 state))
      (λ state. pair (with_bit k c 0 state) +ℤ pair (with_bit k c 1 state)) k
      (λ state below.
      ap₂ (λ x y. x +ℤ y)
      (ap₂ (λ x y. h x +ℤ h y) (with_bit-low k c 0 state lower below) (with_bit-low k c 1 state lower below))
      (ap₂ (λ x y. h x +ℤ h y) (with_bit-high k c 0 state lower) (with_bit-high k c 1 state lower))
      ∙ four (h (with_bit k c 0 state)) (h (with_bit k c 1 state)) (h (2 ^ (suc k) + with_bit k c 0 state))
      (h (2 ^ (suc k) + with_bit k c 1 state))))
]
  where
    four : (x y u v : ℤ) → x +ℤ y +ℤ (u +ℤ v) ≡ x +ℤ u +ℤ (y +ℤ v)
    four x y u v = omega (arith, ints)

pub int_sum-with_bit : (h : ℕ → ℤ) (k c : ℕ) → c ≤ k
    → int_sum (map h (range_with_len 0 (2 ^ suc k)))
    ≡ int_sum (map (λ state. h (with_bit k c 0 state) +ℤ h (with_bit k c 1 state)) (range_with_len 0 (2 ^ k)))
unfolding sums_over
int_sum-with_bit h k c within = sum-with_bit h k c within

-- its bits, and how many are 1

low_or_high : (k state : ℕ) → state < 2 ^ suc k → (state < 2 ^ k) ⊎ ((rest : ℕ) × (rest < 2 ^ k) × (state ≡ 2 ^ k + rest))
low_or_high k state below =
    let e : 2 ^ suc k ≡ 2 ^ k + 2 ^ k = pow-suc 2 k ∙ omega arith in
    elim (cases_lt state (2 ^ k)) [
      | inl low ↦ inl low
      | inr high ↦ inr (state - 2 ^ k, omega (arith, high, below, e), omega (arith, high))
    ]

pub record HasBit (k c b state : ℕ) : Type 0 where
  pub below : with_bit k c b state < 2 ^ suc k
  pub there : bit (with_bit k c b state) c ≡ b
  pub others : (i : ℕ) → i < k → bit (with_bit k c b state) (early c k i) ≡ bit state i
  pub count : ones (k + 1) (with_bit k c b state) ≡ ones k state + b

ones-alike : (n x y : ℕ) → ((i : ℕ) → i < n → bit x i ≡ bit y i) → ones n x ≡ ones n y
ones-alike zero x y same = refl
ones-alike (suc n) x y same =
    grind (arith, nat_tests, ones-alike n x y (λ i below. same i (omega (arith, below))), ones-more n x, ones-more n y)

early-same : (c k i : ℕ) → c ≤ k → i < k → early c (suc k) i ≡ early c k i
early-same c k i within below = grind (arith, nat_tests)

early-last : (c k : ℕ) → c ≤ k → early c (suc k) k ≡ suc k
early-last c k within = grind (arith, nat_tests)

early-top : (c k i : ℕ) → c ≡ k → i < k → early c k i ≡ i
early-top c k i is below = grind (arith, nat_tests)

early-within : (c k i : ℕ) → c ≤ k → i < k → early c k i < suc k
early-within c k i within below = grind (arith, nat_tests)

power-doubles : (k : ℕ) → 2 ^ suc k ≡ 2 ^ k + 2 ^ k
power-doubles k = pow-suc 2 k ∙ omega arith

pub HasBit-with_bit : (k c b state : ℕ) → c ≤ k → b < 2 → state < 2 ^ k → HasBit k c b state
HasBit-with_bit zero c b state within b_below below =
    let z : state ≡ 0 = omega (arith, below) in
    let c_zero : c ≡ 0 = omega (arith, within) in
    let is : state + b ≡ b = omega (arith, z) in
    let there : bit (state + b) c ≡ b = ap₂ bit is c_zero ∙ lowest b b_below in
    record {
      below = omega (arith, z, b_below);
      there = there;
      others = λ i i_below. absurd (omega (arith, i_below));
      count = ap (ones 1) is ∙ one_bit b b_below;
    }
  where
    lowest : (b : ℕ) → b < 2 → bit b 0 ≡ b
    lowest b below = omega arith

    one_bit : (b : ℕ) → b < 2 → ones 1 b ≡ 0 + b
    one_bit b below = omega arith
HasBit-with_bit (suc k) c b state within b_below below = elim (last_or_within c k within) [
  | inl top ↦ elim (zero_or_one b b_below) [
    | inl zero_is ↦
        let is : with_bit (suc k) c b state ≡ state =
        with_bit-top k c b state top ∙ ap (λ d. d * 2 ^ (suc k) + state) zero_is ∙ omega arith in
        let none = bit-above (suc k) state below in
        record {
          below = omega (arith, is, below, power-doubles (suc k));
          there = ap₂ bit is top ∙ none ∙ sym zero_is;
          others = λ i i_below. ap₂ bit is (early-top c (suc k) i top i_below);
          count = ap (ones (suc k + 1)) is ∙ ones-more (suc k) state ∙ omega (arith, none, zero_is);
        }
    | inr one_is ↦
        let is : with_bit (suc k) c b state ≡ 2 ^ suc k + state =
        with_bit-top k c b state top ∙ ap (λ d. d * 2 ^ (suc k) + state) one_is ∙ omega arith in
        let high = bit-highest (suc k) state below in
        let same = ones-alike (suc k) (2 ^ suc k + state) state (λ i i_below. bit-lower (suc k) state i below i_below) in
        record {
          below = omega (arith, is, below, power-doubles (suc k));
          there = ap₂ bit is top ∙ high ∙ sym one_is;
          others = λ i i_below.
              ap₂ bit is (early-top c (suc k) i top i_below) ∙ bit-lower (suc k) state i below i_below;
          count = ap (ones (suc k + 1)) is ∙ ones-more (suc k) (2 ^ suc k + state) ∙ omega (arith, same, high, one_is);
        }
  ]
  | inr lower ↦ elim (low_or_high k state below) [
    | inl low ↦
        let w = with_bit k c b state in
        let earlier = HasBit-with_bit k c b state lower b_below low in
        let is = with_bit-low k c b state lower low in
        let above_w = bit-above (suc k) (with_bit k c b state) earlier.below in
        let above_state = bit-above k state low in
        let e : suc k ≡ k + 1 = omega arith in
        record {
          below = omega (arith, is, earlier.below, power-doubles (suc k));
          there = ap (λ x. bit x c) is ∙ earlier.there;
          others = λ i i_below. elim (last_or_before i k i_below) [
            | inr before ↦ ap₂ bit is (early-same c k i lower before) ∙ earlier.others i before
            | inl last ↦
                ap₂ bit is (ap (early c (suc k)) last ∙ early-last c k lower) ∙ above_w ∙ sym above_state ∙ ap (bit state) (sym last)
          ];
          count = ap (ones (suc k + 1)) is ∙ ones-more (suc k) w
              ∙ (let first : ones (suc k) (with_bit k c b state) ≡ ones (k + 1) (with_bit k c b state) = ap (λ m. ones m w) e in
              let second : ones (suc k) state ≡ ones (k + 1) state = ap (λ m. ones m state) e in
              omega (arith, first, second, earlier.count, above_w, above_state, ones-more k state));
        }
    | inr high ↦
        let rest = high.0 in
        let w = with_bit k c b high.0 in
        let earlier = HasBit-with_bit k c b high.0 lower b_below high.1 in
        let is : with_bit (suc k) c b state ≡ 2 ^ (suc k) + with_bit k c b high.0 =
        ap (with_bit (suc k) c b) high.2 ∙ with_bit-high k c b high.0 lower in
        let high_w = bit-highest (suc k) (with_bit k c b high.0) earlier.below in
        let high_state : bit state k ≡ 1 = ap (λ x. bit x k) high.2 ∙ bit-highest k high.0 high.1 in
        let lower_w : (i : ℕ) → i < suc k → bit (2 ^ (suc k) + with_bit k c b high.0) i ≡ bit (with_bit k c b high.0) i =
        λ i i_below. bit-lower (suc k) (with_bit k c b high.0) i earlier.below i_below in
        let same_w = ones-alike (suc k) (2 ^ (suc k) + with_bit k c b high.0) (with_bit k c b high.0) lower_w in
        let same_state : ones k state ≡ ones k high.0 =
        ap (ones k) high.2 ∙ ones-alike k (2 ^ k + high.0) high.0 (λ i i_below. bit-lower k high.0 i high.1 i_below) in
        let e : suc k ≡ k + 1 = omega arith in
        record {
          below = omega (arith, is, earlier.below, power-doubles (suc k));
          there = ap (λ x. bit x c) is ∙ lower_w c (omega (arith, lower)) ∙ earlier.there;
          others = λ i i_below. elim (last_or_before i k i_below) [
            | inr before ↦
                ap₂ bit is (early-same c k i lower before) ∙ lower_w (early c k i) (early-within c k i lower before)
                ∙ earlier.others i before ∙ sym (bit-lower k high.0 i high.1 before) ∙ ap (λ x. bit x i) (sym high.2)
            | inl last ↦
                ap₂ bit is (ap (early c (suc k)) last ∙ early-last c k lower) ∙ high_w ∙ sym high_state ∙ ap (bit state) (sym last)
          ];
          count = ap (ones (suc k + 1)) is ∙ ones-more (suc k) (2 ^ (suc k) + with_bit k c b high.0)
              ∙ (let first : ones (suc k) (with_bit k c b high.0) ≡ ones (k + 1) (with_bit k c b high.0) = ap (λ m. ones m w) e in
              let second : ones (suc k) state ≡ ones (k + 1) state = ap (λ m. ones m state) e in
              omega (arith, first, second, earlier.count, high_w, high_state, same_w, same_state, ones-more k state));
        }
  ]
]
  where
    zero_or_one : (b : ℕ) → b < 2 → (b ≡ 0) ⊎ (b ≡ 1)
    zero_or_one b below = grind arith

    last_or_before : (i k : ℕ) → i < suc k → (i ≡ k) ⊎ (i < k)
    last_or_before i k below = grind arith
