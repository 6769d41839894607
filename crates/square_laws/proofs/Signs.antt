-- Signs that are powers of -1, modulo p: they multiply as powers do, and the two ways round a square of the cube have opposite signs.
use Rattle.std.proofs.Common.{◌≡◌, ℕ, zero, suc, ◌+◌, ◌-◌, ◌*◌, ◌%◌, ◌^◌, ◌<◌, ◌≤◌, ◌∙◌, inl, inr, ap, ap₂, refl, sym, arith}
use Rattle.std.specs.Prelude.{nat_eq, if◌then◌else◌}
use Rattle.std.proofs.lemmas.Bool.{cases_lt}
use Rattle.std.proofs.lemmas.Bool.Decides.{nat_tests}
use Rattle.std.proofs.Math.Nat.{mul-mod_left}
use Rattle.kh_types.specs.Bits.{bit, ones}
use Rattle.kh_types.specs.Code.{place_of}
use Rattle.kh_types.specs.Differential.{edge_sign}
use Rattle.kh_types.specs.Residues.{Same}
use Rattle.kh_types.proofs.Residues.{same-equal, same-multiple}
use Rattle.kh_types.proofs.BitLemmas.{ones-more}
use Rattle.kh_types.specs.Edges.{state_behind}
use Rattle.kh_types.proofs.EdgeBits.{bit-set_other, bit-set_there}
use Rattle.kh_types.proofs.ListSums.{sum_by-range_alike}

-- how many bits below a place are 1 where a bit was set: as before where it is not below the place, and else one more
pub ones-set_above : (state place count : ℕ) → bit state place ≡ 0 → count ≤ place → ones count (state + 2 ^ place) ≡ ones count state
ones-set_above state place count zero_bit above = grind (arith, nat_tests, sum_by-range_alike, bit-set_other)

pub ones-set_below : (state place count : ℕ) → bit state place ≡ 0 → place < count
    → ones count (state + 2 ^ place) ≡ ones count state + 1
ones-set_below state place zero zero_bit below = absurd (omega arith)
ones-set_below state place (suc count) zero_bit below =
    let e : suc count ≡ count + 1 = omega arith in
    let more : (s : ℕ) → ones (suc count) s ≡ ones count s + bit s count = λ s. ap (λ k. ones k s) e ∙ ones-more count s in
    let now = more (state + 2 ^ place) in
    let before = more state in
    elim (cases_lt place count) [
      | inl earlier ↦
          omega (
            arith,
            now,
            before,
            bit-set_other state place zero_bit count (omega arith),
            ones-set_below state place count zero_bit earlier,
          )
      | inr last ↦
          let is : count ≡ place = omega arith in
          omega (
            arith,
            now,
            before,
            ones-set_above state place count zero_bit (omega arith),
            ap (bit (state + 2 ^ place)) is ∙ bit-set_there state place zero_bit,
            ap (bit state) is ∙ zero_bit,
          )
    ]

-- -1 to a power, modulo p
abbrev pub power_sign : ℕ → ℕ → ℕ
power_sign p n = if nat_eq (n % 2) 0 then 1 else p - 1

pub same_parity : (p a b : ℕ) → a % 2 ≡ b % 2 → power_sign p a ≡ power_sign p b
same_parity p a b same = ap (λ r. if nat_eq r 0 then 1 else p - 1) same

-- signs multiply
pub signs-product : (p a b : ℕ) → 0 < p → Same p (power_sign p a * power_sign p b) (power_sign p (a + b))
signs-product p a b positive = by (a % 2) (b % 2) refl refl
  where
    even : (n : ℕ) → n % 2 ≡ 0 → power_sign p n ≡ 1
    even n is = grind (arith, nat_tests)

    odd : (n : ℕ) → n % 2 ≡ 1 → power_sign p n ≡ p - 1
    odd n is = grind (arith, nat_tests)

    ring : (m : ℕ) → m * m + (m + 1) * 1 ≡ 1 + (m + 1) * m
    ring m = omega arith

    square_of : (m q : ℕ) → q ≡ m + 1 → m * m + q * 1 ≡ 1 + q * m
    square_of m q is = ap (λ x. m * m + x * 1) is ∙ ring m ∙ ap (λ x. 1 + x * m) (sym is)

    square : (q : ℕ) → 0 < q → (q - 1) * (q - 1) + q * 1 ≡ 1 + q * (q - 1)
    square q positive = square_of (q - 1) q (omega (arith, positive))

    by : (x y : ℕ) → a % 2 ≡ x → b % 2 ≡ y → Same p (power_sign p a * power_sign p b) (power_sign p (a + b))
    by zero zero is_a is_b = grind (arith, nat_tests, same-equal, even)
    by zero (suc zero) is_a is_b = grind (arith, nat_tests, same-equal, even, odd)
    by (suc zero) zero is_a is_b = grind (arith, nat_tests, same-equal, odd, even)
    by (suc zero) (suc zero) is_a is_b =
        same-equal p (power_sign p a * power_sign p b) ((p - 1) * (p - 1)) (ap₂ (λ x y. x * y) (odd a is_a) (odd b is_b))
        ∙ sym (same-multiple p ((p - 1) * (p - 1)) 1) ∙ same-equal p ((p - 1) * (p - 1) + p * 1) (1 + p * (p - 1)) (square p positive)
        ∙ same-multiple p 1 (p - 1) ∙ same-equal p 1 (power_sign p (a + b)) (sym (even (a + b) (omega (arith, is_a, is_b))))
    by zero (suc (suc y)) is_a is_b = absurd (omega (arith, is_b))
    by (suc zero) (suc (suc y)) is_a is_b = absurd (omega (arith, is_b))
    by (suc (suc x)) y is_a is_b = absurd (omega (arith, is_a))

signs-sum : (p n : ℕ) → 0 < p → power_sign p (n + 1) + power_sign p n ≡ p
signs-sum p n positive = grind (arith, nat_tests)

-- two products of signs, of which one has a power by one higher
opposite : (p m n : ℕ) → 0 < p → (power_sign p (n + 1) * power_sign p m + power_sign p m * power_sign p n) % p ≡ 0
opposite p m n positive =
    ap (λ x. x % p) (factored (power_sign p (n + 1)) (power_sign p n) (power_sign p m))
    ∙ ap (λ x. power_sign p m * x % p) (signs-sum p n positive) ∙ mul-mod_left (power_sign p m) p
  where
    factored : (x y z : ℕ) → x * z + z * y ≡ z * (x + y)
    factored x y z = omega arith

-- the sign along b is turned where a comes before b, and the sign along a is not
pub signs-opposite : (p state a b : ℕ) → 0 < p → 1 ≤ a → a < b → bit state (place_of a) ≡ 0 → bit state (place_of b) ≡ 0
    → (edge_sign p (state_behind state a) b * edge_sign p state a + edge_sign p (state_behind state b) a * edge_sign p state b) % p ≡ 0
signs-opposite p state a b positive from order zero_a zero_b = grind (arith, nat_tests, ones-set_below, ones-set_above, opposite)
