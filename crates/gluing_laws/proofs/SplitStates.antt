-- Sums over all states, taken together by the bits of three crossings.
--
-- To add up f over all states by the bits at three places, a function takes at each state with zeros there the sum of the eight values
-- around it, and 0 at all others. One place at a time: the values at a number with 0 there and at the one with 1 there are added at the
-- first. Three such steps give sums of eight, so that two functions whose eights have one sum have one sum over all states.
use Rattle.std.proofs.Common.{◌≡◌, ◌≢◌, ℕ, zero, suc, inl, inr, ◌+◌, ◌^◌, ◌<◌, ◌≤◌, ◌∙◌, ℤ, pos, ◌+ℤ◌, sym, refl, map, ap, ap₂, arith, Bool, cond}
use Rattle.std.specs.Prelude.{nat_eq}
use Rattle.std.specs.List.{range_with_len}
use Rattle.std.proofs.Math.Nat.{pow-suc}
use Rattle.std.proofs.lemmas.Bool.Decides.{nat_tests}
use Rattle.std.proofs.lemmas.Int.{ints}
use Rattle.kh_types.specs.Bits.{bit, ones}
use Rattle.kh_types.specs.StateSum.{int_sum}
use Rattle.kh_types.proofs.EdgeBits.{bit-set_there, bit-set_other}
use Rattle.kh_types.proofs.BitLemmas.{ones-more, bit-cases}
use Rattle.kh_types.proofs.JointNumbers.{bit-highest, bit-lower}
use Rattle.kh_types.proofs.IntSums.{int_sum-range_agree}
use Rattle.gluing_laws.proofs.KinkSums.{int_sum-doubled}
use Rattle.gluing_laws.proofs.CodeCircles.{bit-above}
use Rattle.gluing_laws.proofs.Stubs.{last_or_before}

-- the sum of a function's values at a number with 0 at a place, and with 1 there; and nothing at the numbers with 1
abbrev pub by_bit : ℕ → (ℕ → ℤ) → ℕ → ℤ
by_bit place f state = cond (nat_eq (bit state place) 0) (f state +ℤ f (state + 2 ^ place)) (pos 0)

by_bit-at : (b : ℕ) (x y : ℤ) → b ≡ 0 → cond (nat_eq b 0) x y ≡ x
by_bit-at b x y is_zero = ap (λ k. cond (nat_eq k 0) x y) is_zero

by_bit-off : (b : ℕ) (x y : ℤ) → b ≡ 1 → cond (nat_eq b 0) x y ≡ y
by_bit-off b x y is_one = ap (λ k. cond (nat_eq k 0) x y) is_one

unfoldable pub sums_over : (ℕ → ℤ) → ℕ → ℤ
sums_over f n = int_sum (map f (range_with_len 0 (2 ^ n)))

pub doubled : (f g : ℕ → ℤ) (n : ℕ) → ((state : ℕ) → state < 2 ^ n → f state +ℤ f (2 ^ n + state) ≡ g state)
    → sums_over f (suc n) ≡ sums_over g n
unfolding sums_over
doubled f g n pairs =
    let e : 2 ^ suc n ≡ 2 ^ n + 2 ^ n = pow-suc 2 n ∙ omega arith in
    ap (λ k. int_sum (map f (range_with_len 0 k))) e ∙ int_sum-doubled g f (2 ^ n) pairs

-- one place
by_bit-sum : (f : ℕ → ℤ) (n place : ℕ) → place < n → sums_over f n ≡ sums_over (by_bit place f) n
by_bit-sum f zero place below = absurd (omega arith)
by_bit-sum f (suc n) place below =
    let pair : ℕ → ℤ = λ state. f state +ℤ f (2 ^ n + state) in
    elim (last_or_before place n below) [
      | inl last ↦
          doubled f pair n (λ state state_below. refl)
          ∙ sym (doubled (by_bit n f) pair n (λ state state_below.
          let turned : state + 2 ^ n ≡ 2 ^ n + state = omega arith in
          ap₂ (λ x y. x +ℤ y)
          (by_bit-at (bit state n) (f state +ℤ f (state + 2 ^ n)) (pos 0) (bit-above n state state_below)
          ∙ ap (λ s. f state +ℤ f s) turned)
          (by_bit-off (bit (2 ^ n + state) n) (f (2 ^ n + state) +ℤ f (2 ^ n + state + 2 ^ n)) (pos 0) (bit-highest n state state_below))
          ∙ plus_zero (f state +ℤ f (2 ^ n + state))))
          ∙ ap (λ k. sums_over (by_bit k f) (suc n)) (sym last)
      | inr before ↦
          doubled f pair n (λ state state_below. refl)
          ∙ by_bit-sum pair n place before
          ∙ sym (doubled (by_bit place f) (by_bit place pair) n (λ state state_below.
          let e : 2 ^ n + state + 2 ^ place ≡ 2 ^ n + (state + 2 ^ place) = omega arith in
          ap₂ (λ b s. by_bit place f state +ℤ cond (nat_eq b 0) (f (2 ^ n + state) +ℤ f s) (pos 0))
          (bit-lower n state place state_below before) e
          ∙ both (nat_eq (bit state place) 0) (f state) (f (state + 2 ^ place)) (f (2 ^ n + state)) (f (2 ^ n + (state + 2 ^ place)))))
    ]
  where
    plus_zero : (x : ℤ) → x +ℤ pos 0 ≡ x
    plus_zero x = omega (arith, ints)

    both : (b : Bool) (x y u v : ℤ) → cond b (x +ℤ y) (pos 0) +ℤ cond b (u +ℤ v) (pos 0) ≡ cond b (x +ℤ u +ℤ (y +ℤ v)) (pos 0)
    both b x y u v = grind (arith, nat_tests)

-- the eight values at a number with zeros at three places, as these bits count from 0 to 7
abbrev pub eight : ℕ → ℕ → ℕ → (ℕ → ℤ) → ℕ → ℤ
eight c d e f state =
    f state +ℤ f (state + 2 ^ c) +ℤ (f (state + 2 ^ d) +ℤ f (state + 2 ^ d + 2 ^ c))
    +ℤ (f (state + 2 ^ e) +ℤ f (state + 2 ^ e + 2 ^ c) +ℤ (f (state + 2 ^ e + 2 ^ d) +ℤ f (state + 2 ^ e + 2 ^ d + 2 ^ c)))

-- at a number with zeros at the three places
three_bits : (c d e : ℕ) (f : ℕ → ℤ) (state : ℕ) → c ≢ d → c ≢ e → d ≢ e → bit state c ≡ 0 → bit state d ≡ 0 → bit state e ≡ 0
    → by_bit e (by_bit d (by_bit c f)) state ≡ eight c d e f state
three_bits c d e f state c_d c_e d_e at_c at_d at_e = grind (arith, nat_tests, bit-set_other, by_bit-at)

-- at the others there is nothing
not_first : (c d e : ℕ) (f : ℕ → ℤ) (state : ℕ) → c ≢ d → c ≢ e → d ≢ e → bit state d ≡ 0 → bit state e ≡ 0 → bit state c ≡ 1
    → by_bit e (by_bit d (by_bit c f)) state ≡ pos 0
not_first c d e f state c_d c_e d_e at_d at_e at_c = grind (arith, nat_tests, bit-set_other, by_bit-off, by_bit-at)

not_second : (c d e : ℕ) (f : ℕ → ℤ) (state : ℕ) → d ≢ e → bit state e ≡ 0 → bit state d ≡ 1
    → by_bit e (by_bit d (by_bit c f)) state ≡ pos 0
not_second c d e f state d_e at_e at_d = grind (arith, nat_tests, bit-set_other, by_bit-off, by_bit-at)

-- where the eight values have one sum at each number with zeros at three places, the sums over all states are one
pub int_sum-by_three_bits : (f g : ℕ → ℤ) (n c d e : ℕ) → c < n → d < n → e < n → c ≢ d → c ≢ e → d ≢ e
    → ((state : ℕ) → state < 2 ^ n → bit state c ≡ 0 → bit state d ≡ 0 → bit state e ≡ 0 → eight c d e f state ≡ eight c d e g state)
    → int_sum (map f (range_with_len 0 (2 ^ n))) ≡ int_sum (map g (range_with_len 0 (2 ^ n)))
unfolding sums_over
int_sum-by_three_bits f g n c d e c_below d_below e_below c_d c_e d_e same =
    let whole : (h : ℕ → ℤ) → sums_over h n ≡ sums_over (by_bit e (by_bit d (by_bit c h))) n =
    λ h. by_bit-sum h n c c_below ∙ by_bit-sum (by_bit c h) n d d_below ∙ by_bit-sum (by_bit d (by_bit c h)) n e e_below in
    whole f
    ∙ int_sum-range_agree (by_bit e (by_bit d (by_bit c f))) (by_bit e (by_bit d (by_bit c g))) 0 (2 ^ n) (λ state from below.
    elim (bit-cases state e) [
      | inr one ↦
          by_bit-off (bit state e) (by_bit d (by_bit c f) state +ℤ by_bit d (by_bit c f) (state + 2 ^ e)) (pos 0) one
          ∙ sym (by_bit-off (bit state e) (by_bit d (by_bit c g) state +ℤ by_bit d (by_bit c g) (state + 2 ^ e)) (pos 0) one)
      | inl at_e ↦ elim (bit-cases state d) [
        | inr one ↦ not_second c d e f state d_e at_e one ∙ sym (not_second c d e g state d_e at_e one)
        | inl at_d ↦ elim (bit-cases state c) [
          | inr one ↦ not_first c d e f state c_d c_e d_e at_d at_e one ∙ sym (not_first c d e g state c_d c_e d_e at_d at_e one)
          | inl at_c ↦
              three_bits c d e f state c_d c_e d_e at_c at_d at_e
              ∙ same state (omega arith) at_c at_d at_e
              ∙ sym (three_bits c d e g state c_d c_e d_e at_c at_d at_e)
        ]
      ]
    ])
    ∙ sym (whole g)

-- one 1 more
pub ones-set : (n state place : ℕ) → place < n → bit state place ≡ 0 → ones n (state + 2 ^ place) ≡ ones n state + 1
ones-set zero state place below is_zero = absurd (omega arith)
ones-set (suc n) state place below is_zero =
    let e : suc n ≡ n + 1 = omega arith in
    let first = ap (λ k. ones k (state + 2 ^ place)) e ∙ ones-more n (state + 2 ^ place) in
    let second = ap (λ k. ones k state) e ∙ ones-more n state in
    elim (last_or_before place n below) [
      | inl last ↦
          let there = ap (λ k. bit (state + 2 ^ place) k) (sym last) ∙ bit-set_there state place is_zero in
          let before = ap (λ k. bit state k) (sym last) ∙ is_zero in
          let rest = ones-past n state place is_zero (omega arith) in
          omega (arith, first, second, there, before, rest)
      | inr lower ↦
          let there = bit-set_other state place is_zero n (λ same. absurd (omega arith)) in
          let rest = ones-set n state place lower is_zero in
          omega (arith, first, second, there, rest)
    ]
  where
    ones-past : (n state place : ℕ) → bit state place ≡ 0 → n ≤ place → ones n (state + 2 ^ place) ≡ ones n state
    ones-past zero state place is_zero within = refl
    ones-past (suc n) state place is_zero within =
        let e : suc n ≡ n + 1 = omega arith in
        let first = ap (λ k. ones k (state + 2 ^ place)) e ∙ ones-more n (state + 2 ^ place) in
        let second = ap (λ k. ones k state) e ∙ ones-more n state in
        let there = bit-set_other state place is_zero n (λ same. absurd (omega arith)) in
        let rest = ones-past n state place is_zero (omega arith) in
        omega (arith, first, second, there, rest)
