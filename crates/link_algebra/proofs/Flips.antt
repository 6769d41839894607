-- Numbers below 2 ^ n with all bits exchanged.
use Rattle.std.proofs.lemmas.Bool.Decides.{nat_tests}
use Rattle.std.proofs.Common.{ap, arith, refl, suc, zero, ℕ, ◌%◌, ◌*◌, ◌+◌, ◌-◌, ◌/◌, ◌<◌, ◌^◌, ◌∙◌, ◌≡◌, ◌≤◌}
use Rattle.std.proofs.lemmas.Nat.{pow_pos}
use Rattle.std.proofs.lemmas.Nat.Bits.{bit_at-suc, bit_at_lowest}
use Rattle.kh_types.proofs.BitLemmas.{ones-more}
use Rattle.kh_types.specs.Bits.{bit, ones}

-- the number below 2 ^ n with all its bits exchanged
abbrev pub flipped : ℕ → ℕ → ℕ
flipped n s = 2 ^ n - 1 - s

pub flipped-below : (n s : ℕ) → flipped n s < 2 ^ n
flipped-below n s = let some : 0 < 2 ^ n = pow_pos n in omega arith

pub flipped-twice : (n s : ℕ) → s < 2 ^ n → flipped n (flipped n s) ≡ s
flipped-twice n s below = omega arith

half : (p s : ℕ) → s < 2 * p → (2 * p - 1 - s) / 2 ≡ p - 1 - s / 2
half p s below = omega (arith, below)

lowest : (p s : ℕ) → s < 2 * p → (2 * p - 1 - s) % 2 + s % 2 ≡ 1
lowest p s below = omega (arith, below)

pub bit-flipped : (n s k : ℕ) → s < 2 ^ n → k < n → bit (flipped n s) k + bit s k ≡ 1
bit-flipped zero s k below within = absurd (omega arith)
bit-flipped (suc n) s zero below within = grind (arith, nat_tests, bit_at_lowest, lowest)
bit-flipped (suc n) s (suc k) below within =
    let power : 2 ^ suc n ≡ 2 * 2 ^ n = omega arith in
    let e : flipped (suc n) s ≡ 2 * 2 ^ n - 1 - s = ap (λ p. p - 1 - s) power in
    let small : s < 2 * 2 ^ n = omega (arith, below, power) in
    let halved : bit (flipped (suc n) s) (suc k) ≡ bit (flipped n (s / 2)) k =
    ap (λ x. bit x (suc k)) e ∙ bit_at-suc (2 * 2 ^ n - 1 - s) k ∙ ap (λ x. bit x k) (half (2 ^ n) s small) in
    let later = bit-flipped n (s / 2) k (omega (arith, small)) (omega (arith, within)) in
    omega (arith, halved, later, bit_at-suc s k)

pub ones-flipped : (n s count : ℕ) → s < 2 ^ n → count ≤ n → ones count (flipped n s) + ones count s ≡ count
ones-flipped n s zero below within = refl
ones-flipped n s (suc count) below within =
    let e : suc count ≡ count + 1 = omega arith in
    let more : (x : ℕ) → ones (suc count) x ≡ ones count x + bit x count = λ x. ap (λ k. ones k x) e ∙ ones-more count x in
    omega (
      arith,
      more (flipped n s),
      more s,
      ones-flipped n s count below (omega (arith, within)),
      bit-flipped n s count below (omega (arith, within)),
    )
