-- The bits of a number to which a power of two is added where it has a 0.
use Rattle.std.proofs.lemmas.Bool.Decides.{nat_tests}
use Rattle.std.proofs.Common.{◌≡◌, ◌≢◌, ℕ, ◌⊎◌, inl, inr, ◌+◌, ◌-◌, ◌*◌, ◌/◌, ◌%◌, ◌^◌, ◌<◌, ◌≤◌, ◌∙◌, sym, ap, arith}
use Rattle.std.proofs.Math.Nat.{add-div_right, add-mul-div_right, div-div-eq-div-mul, div-lt_iff_lt-mul, lt-mul-div-succ, mul-le-mul_right}
use Rattle.std.proofs.lemmas.Nat.{pow-add, pow_pos}
use Rattle.kh_types.specs.Bits.{bit}

half-same : (q : ℕ) → q % 2 ≡ 0 → (q + 1) / 2 ≡ q / 2
half-same q even = omega (arith, even)

odd-next : (q : ℕ) → q % 2 ≡ 0 → (q + 1) % 2 ≡ 1
odd-next q even = omega (arith, even)

same-by_two : (x y : ℕ) → (x + y * 2) % 2 ≡ x % 2
same-by_two x y = omega arith

-- the bit there becomes 1
pub bit-set_there : (state place : ℕ) → bit state place ≡ 0 → bit (state + 2 ^ place) place ≡ 1
bit-set_there state place is_zero = grind (arith, nat_tests, add-div_right, pow_pos, odd-next)

-- at a lower place a multiple of two is added
set-below : (state low rest : ℕ) → bit (state + 2 ^ (low + (rest + 1))) low ≡ bit state low
set-below state low rest =
    let power : 2 ^ (low + (rest + 1)) ≡ 2 ^ rest * 2 * 2 ^ low = grind (arith, pow-add 2 low (rest + 1), pow-add 2 rest 1) in
    ap (λ p. (state + p) / 2 ^ low % 2) power
    ∙ ap (λ q. q % 2) (add-mul-div_right state (2 ^ rest * 2) (pow_pos low))
    ∙ same-by_two (state / 2 ^ low) (2 ^ rest)

-- at a higher place the half of an even number stays
high-quotient : (state place rest : ℕ) → state / 2 ^ (place + (1 + rest)) ≡ state / 2 ^ place / 2 / 2 ^ rest
high-quotient state place rest = grind (arith, nat_tests, pow-add, div-div-eq-div-mul)

set-above : (state place rest : ℕ) → bit state place ≡ 0 → bit (state + 2 ^ place) (place + (1 + rest)) ≡ bit state (place + (1 + rest))
set-above state place rest is_zero = grind (arith, nat_tests, high-quotient, add-div_right, pow_pos, half-same)

pub lower_or_higher : (k place : ℕ) → k ≢ place → (k < place) ⊎ (place < k)
lower_or_higher k place other = grind arith

-- the other bits stay
pub bit-set_other : (state place : ℕ) → bit state place ≡ 0 → (k : ℕ) → k ≢ place → bit (state + 2 ^ place) k ≡ bit state k
bit-set_other state place is_zero k other = elim (lower_or_higher k place other) [
  | inl lower ↦
      let e : place ≡ k + (place - k - 1 + 1) = omega (arith, lower) in
      ap (λ p. bit (state + 2 ^ p) k) e ∙ set-below state k (place - k - 1)
  | inr higher ↦
      let e : k ≡ place + (1 + (k - place - 1)) = omega (arith, higher) in
      ap (λ j. bit (state + 2 ^ place) j) e ∙ set-above state place (k - place - 1) is_zero ∙ ap (λ j. bit state j) (sym e)
]

-- below a power of two it stays so
pub set-within : (state place count : ℕ) → place < count → state < 2 ^ count → bit state place ≡ 0 → state + 2 ^ place < 2 ^ count
set-within state place count within below is_zero =
    let unit = 2 ^ place in
    let quotient = state / unit in
    let rest = count - place - 1 in
    let half = 2 ^ rest in
    let split : count ≡ rest + 1 + place = omega (arith, within) in
    let power : 2 ^ count ≡ half * 2 * unit =
    ap (λ n. 2 ^ n) split ∙ pow-add 2 (rest + 1) place ∙ ap (λ p. p * unit) (pow-add 2 rest 1) in
    let few : quotient < half * 2 = (div-lt_iff_lt-mul (pow_pos place)).1 (omega (arith, below, power)) in
    let two_more : quotient + 2 ≤ half * 2 = even_below quotient half is_zero few in
    let whole = mul-le-mul_right unit two_more in
    omega (arith, power, whole, lt-mul-div-succ state (pow_pos place), ring quotient unit)
  where
    even_below : (q half : ℕ) → q % 2 ≡ 0 → q < half * 2 → q + 2 ≤ half * 2
    even_below q half even few = omega (arith, even, few)

    ring : (q unit : ℕ) → unit * (q + 1) + unit ≡ (q + 2) * unit
    ring q unit = omega arith
