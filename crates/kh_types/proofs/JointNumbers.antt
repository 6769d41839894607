-- Numbers of the bits of two: the first k of one, and behind them those of the other, t + 2 ^ k * s.
--
-- The state of all crossings is such a number of the state of the first k and of that of the others; labels of circles are too.
use Rattle.std.proofs.Common.{◌≡◌, ℕ, zero, suc, ◌+◌, ◌-◌, ◌*◌, ◌/◌, ◌%◌, ◌^◌, ◌<◌, ◌≤◌, ◌∙◌, sym, subst, ap, ap₂, arith}
use Rattle.std.proofs.Math.Nat.{add-mul-div_left, add-mul-mod_self_left, div-add-mod, div-eq_of_lt, div-lt_iff_lt-mul, mod-eq_of_lt, mul-le-mul_left}
use Rattle.std.proofs.lemmas.Nat.{mod_below, pow-add, pow_pos}
use Rattle.std.proofs.lemmas.Nat.Bits.{bit_at_cat_high, bit_at_cat_low}
use Rattle.std.specs.List.{range_with_len, sum_by}
use Rattle.kh_types.specs.Bits.{bit, ones}
use Rattle.kh_types.proofs.BitLemmas.{bit-past, ones-more}
use Rattle.kh_types.proofs.EdgeBits.{bit-set_other, bit-set_there}
use Rattle.kh_types.proofs.LabelDegrees.{sum_by-later}
use Rattle.kh_types.proofs.ListSums.{sum_by-range_alike}
use Rattle.kh_types.proofs.Ranges.{range-append}
use Rattle.std.proofs.lemmas.List.Sums.{sum_by-append}

turned : (t q s : ℕ) → t + q * s ≡ s * q + t
turned t q s = omega arith

pub joint-inside : (k t s : ℕ) → t < 2 ^ k → (t + 2 ^ k * s) % 2 ^ k ≡ t
joint-inside k t s below = add-mul-mod_self_left t (2 ^ k) s ∙ mod-eq_of_lt below

pub joint-outside : (k t s : ℕ) → t < 2 ^ k → (t + 2 ^ k * s) / 2 ^ k ≡ s
joint-outside k t s below =
    let e : t / 2 ^ k ≡ 0 = div-eq_of_lt below in add-mul-div_left t s (pow_pos k) ∙ ap (λ n. n + s) e ∙ omega arith

pub joint-parts : (k n : ℕ) → n ≡ n % 2 ^ k + 2 ^ k * (n / 2 ^ k)
joint-parts k n = sym (div-add-mod n (2 ^ k)) ∙ swapped (2 ^ k * (n / 2 ^ k)) (n % 2 ^ k)
  where
    swapped : (a b : ℕ) → a + b ≡ b + a
    swapped a b = omega arith

pub inside-below : (k n : ℕ) → n % 2 ^ k < 2 ^ k
inside-below k n = mod_below n (2 ^ k) (pow_pos k)

pub joint-below : (k m t s : ℕ) → t < 2 ^ k → s < 2 ^ m → t + 2 ^ k * s < 2 ^ (k + m)
joint-below k m t s t_below s_below =
    subst (λ (n : ℕ). t + 2 ^ k * s < n) (sym (pow-add 2 k m)) (within t s (2 ^ k) (2 ^ m) t_below s_below)
  where
    within : (a b q n : ℕ) → a < q → b < n → a + q * b < q * n
    within a b q n a_below b_below =
        let step : q * (b + 1) ≤ q * n = mul-le-mul_left q (omega (arith, b_below)) in omega (arith, a_below, step, spread q b)
      where
        spread : (q b : ℕ) → q * (b + 1) ≡ q * b + q
        spread q b = omega arith

pub outside-below : (k m n : ℕ) → n < 2 ^ (k + m) → n / 2 ^ k < 2 ^ m
outside-below k m n below =
    let e : 2 ^ (k + m) ≡ 2 ^ m * 2 ^ k = pow-add 2 k m ∙ swapped (2 ^ k) (2 ^ m) in
    (div-lt_iff_lt-mul (pow_pos k)).1 (subst (λ (x : ℕ). n < x) e below)
  where
    swapped : (a b : ℕ) → a * b ≡ b * a
    swapped a b = omega arith

-- bits
pub bit-inside : (k t s i : ℕ) → i < k → bit (t + 2 ^ k * s) i ≡ bit t i
bit-inside k t s i below = ap (λ n. bit n i) (turned t (2 ^ k) s) ∙ bit_at_cat_low s k t i below

pub bit-outside : (k t s i : ℕ) → t < 2 ^ k → bit (t + 2 ^ k * s) (k + i) ≡ bit s i
bit-outside k t s i below =
    let e : k + i - k ≡ i = omega arith in
    ap (λ n. bit n (k + i)) (turned t (2 ^ k) s) ∙ bit_at_cat_high s k t (k + i) below (omega arith) ∙ ap (λ j. bit s j) e

-- the bits of the parts of a number
pub bit-low : (k n i : ℕ) → i < k → bit (n % 2 ^ k) i ≡ bit n i
bit-low k n i below = sym (ap (λ m. bit m i) (joint-parts k n) ∙ bit-inside k (n % 2 ^ k) (n / 2 ^ k) i below)

pub bit-high : (k n i : ℕ) → bit (n / 2 ^ k) i ≡ bit n (k + i)
bit-high k n i = sym (ap (λ m. bit m (k + i)) (joint-parts k n) ∙ bit-outside k (n % 2 ^ k) (n / 2 ^ k) i (inside-below k n))

-- a bit more, which is the highest
pub bit-lower : (k n i : ℕ) → n < 2 ^ k → i < k → bit (2 ^ k + n) i ≡ bit n i
bit-lower k n i below lower =
    let swapped : 2 ^ k + n ≡ n + 2 ^ k = omega arith in
    ap (λ m. bit m i) swapped ∙ bit-set_other n k (bit-past n k k below (omega arith)) i (λ same. absurd (omega (arith, lower, same)))

pub bit-highest : (k n : ℕ) → n < 2 ^ k → bit (2 ^ k + n) k ≡ 1
bit-highest k n below =
    let swapped : 2 ^ k + n ≡ n + 2 ^ k = omega arith in
    ap (λ m. bit m k) swapped ∙ bit-set_there n k (bit-past n k k below (omega arith))

pub ones-inside : (k t s i : ℕ) → i ≤ k → ones i (t + 2 ^ k * s) ≡ ones i t
ones-inside k t s i most =
    sum_by-range_alike (bit (t + 2 ^ k * s)) (bit t) 0 i (λ j from below. bit-inside k t s j (omega (arith, below, most)))

pub ones-joint : (k t s m : ℕ) → t < 2 ^ k → ones (k + m) (t + 2 ^ k * s) ≡ ones k t + ones m s
ones-joint k t s m below =
    let number = t + 2 ^ k * s in
    let e : 0 + k ≡ k + 0 = omega arith in
    ap (sum_by (bit number)) (range-append 0 k m) ∙ sum_by-append (bit number) (range_with_len 0 k) (range_with_len (0 + k) m)
    ∙ ap₂ (λ a b. a + b) (ones-inside k t s k (omega arith))
    (ap (λ a. sum_by (bit number) (range_with_len a m)) e ∙ sum_by-later (bit number) k 0 m
    ∙ sum_by-range_alike (λ i. bit number (k + i)) (bit s) 0 m (λ i from within. bit-outside k t s i below))

-- a bit that is set outside, and one that is set inside
pub set-outside : (k t s i : ℕ) → t + 2 ^ k * s + 2 ^ (k + i) ≡ t + 2 ^ k * (s + 2 ^ i)
set-outside k t s i = ap (λ n. t + 2 ^ k * s + n) (pow-add 2 k i) ∙ spread t (2 ^ k) s (2 ^ i)
  where
    spread : (t q s n : ℕ) → t + q * s + q * n ≡ t + q * (s + n)
    spread t q s n = omega arith

pub set-inside : (k t s i : ℕ) → t + 2 ^ k * s + 2 ^ i ≡ t + 2 ^ i + 2 ^ k * s
set-inside k t s i = moved t (2 ^ k * s) (2 ^ i)
  where
    moved : (a b c : ℕ) → a + b + c ≡ a + c + b
    moved a b c = omega arith

-- the parts of a number are known
pub parts-known : (k t s u v : ℕ) → t < 2 ^ k → u < 2 ^ k → t + 2 ^ k * s ≡ u + 2 ^ k * v → (t ≡ u) × (s ≡ v)
parts-known k t s u v t_below u_below same = (
  sym (joint-inside k t s t_below) ∙ ap (λ n. n % 2 ^ k) same ∙ joint-inside k u v u_below,
  sym (joint-outside k t s t_below) ∙ ap (λ n. n / 2 ^ k) same ∙ joint-outside k u v u_below,
)
