-- Numbers put together of the low and the high bits of two: the low bits of the first, the low bits of the second, the high bits of the
-- first, the high bits of the second.
use Rattle.std.proofs.Common.{◌≡◌, ℕ, ◌+◌, ◌*◌, ◌/◌, ◌%◌, ◌^◌, ◌<◌, ◌∙◌, sym, subst, ap, ap₂, arith}
use Rattle.std.proofs.lemmas.Nat.{div-add-mod', div-mul-add, div_below, mod-mul-add, mod_below, mul-add-lt, pow-add, pow_pos}
use Rattle.kh_types.specs.Bits.{bit, ones}
use Rattle.kh_types.proofs.JointNumbers.{bit-inside, bit-outside, joint-parts, inside-below, outside-below, joint-inside, joint-outside, joint-below, bit-low, bit-high, ones-joint}
use Rattle.union_laws.specs.Cubes.{mixed}

pub ones-halves : (n m x : ℕ) → ones (n + m) x ≡ ones n (x % 2 ^ n) + ones m (x / 2 ^ n)
ones-halves n m x = ap (ones (n + m)) (joint-parts n x) ∙ ones-joint n (x % 2 ^ n) (x / 2 ^ n) m (inside-below n x)

-- `mixed` taken apart again
abbrev pub first_of : ℕ → ℕ → ℕ → ℕ → ℕ
first_of p q r u = u % 2 ^ p + 2 ^ p * (u / 2 ^ p / 2 ^ q % 2 ^ r)

abbrev pub second_of : ℕ → ℕ → ℕ → ℕ → ℕ
second_of p q r u = u / 2 ^ p % 2 ^ q + 2 ^ q * (u / 2 ^ p / 2 ^ q / 2 ^ r)

module _ (p q r x y : ℕ) where
  abbrev tops : ℕ
  tops = x / 2 ^ p + 2 ^ r * (y / 2 ^ q)

  abbrev rest : ℕ
  rest = y % 2 ^ q + 2 ^ q * tops

  pub mixed-first : (k : ℕ) → k < p → bit (mixed p q r x y) k ≡ bit x k
  mixed-first k below = bit-inside p (x % 2 ^ p) rest k below ∙ bit-low p x k below

  pub mixed-second : (k : ℕ) → k < q → bit (mixed p q r x y) (p + k) ≡ bit y k
  mixed-second k below =
      bit-outside p (x % 2 ^ p) rest k (inside-below p x) ∙ bit-inside q (y % 2 ^ q) tops k below ∙ bit-low q y k below

  pub mixed-third : (k : ℕ) → k < r → bit (mixed p q r x y) (p + (q + k)) ≡ bit x (p + k)
  mixed-third k below =
      bit-outside p (x % 2 ^ p) rest (q + k) (inside-below p x) ∙ bit-outside q (y % 2 ^ q) tops k (inside-below q y)
      ∙ bit-inside r (x / 2 ^ p) (y / 2 ^ q) k below ∙ bit-high p x k

  module _ (x_below : x < 2 ^ (p + r)) where
    pub mixed-fourth : (k : ℕ) → bit (mixed p q r x y) (p + (q + (r + k))) ≡ bit y (q + k)
    mixed-fourth k =
        bit-outside p (x % 2 ^ p) rest (q + (r + k)) (inside-below p x) ∙ bit-outside q (y % 2 ^ q) tops (r + k) (inside-below q y)
        ∙ bit-outside r (x / 2 ^ p) (y / 2 ^ q) k (outside-below p r x x_below) ∙ bit-high q y k

    pub ones-mixed : (t : ℕ) → ones (p + (q + (r + t))) (mixed p q r x y) ≡ ones (p + r) x + ones (q + t) y
    ones-mixed t =
        ones-joint p (x % 2 ^ p) rest (q + (r + t)) (inside-below p x)
        ∙ ap (λ n. ones p (x % 2 ^ p) + n)
        (ones-joint q (y % 2 ^ q) tops (r + t) (inside-below q y)
        ∙ ap (λ n. ones q (y % 2 ^ q) + n) (ones-joint r (x / 2 ^ p) (y / 2 ^ q) t (outside-below p r x x_below)))
        ∙ regrouped (ones p (x % 2 ^ p)) (ones q (y % 2 ^ q)) (ones r (x / 2 ^ p)) (ones t (y / 2 ^ q))
        ∙ sym (ap₂ (λ m n. m + n) (ones-halves p r x) (ones-halves q t y))
      where
        regrouped : (a b c d : ℕ) → a + (b + (c + d)) ≡ a + c + (b + d)
        regrouped a b c d = omega arith

    pub mixed-below : (t : ℕ) → y < 2 ^ (q + t) → mixed p q r x y < 2 ^ (p + (q + (r + t)))
    mixed-below t y_below =
        joint-below p (q + (r + t)) (x % 2 ^ p) rest (inside-below p x)
        (joint-below q (r + t) (y % 2 ^ q) tops (inside-below q y)
        (joint-below r t (x / 2 ^ p) (y / 2 ^ q) (outside-below p r x x_below) (outside-below q t y y_below)))

    high-mixed : mixed p q r x y / 2 ^ p ≡ rest
    high-mixed = joint-outside p (x % 2 ^ p) rest (inside-below p x)

    tops-mixed : mixed p q r x y / 2 ^ p / 2 ^ q ≡ tops
    tops-mixed = ap (λ n. n / 2 ^ q) high-mixed ∙ joint-outside q (y % 2 ^ q) tops (inside-below q y)

    pub first_of-mixed : first_of p q r (mixed p q r x y) ≡ x
    first_of-mixed =
        ap₂ (λ m n. m + 2 ^ p * n) (joint-inside p (x % 2 ^ p) rest (inside-below p x))
        (ap (λ n. n % 2 ^ r) tops-mixed ∙ joint-inside r (x / 2 ^ p) (y / 2 ^ q) (outside-below p r x x_below))
        ∙ sym (joint-parts p x)

    pub second_of-mixed : second_of p q r (mixed p q r x y) ≡ y
    second_of-mixed =
        ap₂ (λ m n. m + 2 ^ q * n) (ap (λ n. n % 2 ^ q) high-mixed ∙ joint-inside q (y % 2 ^ q) tops (inside-below q y))
        (ap (λ n. n / 2 ^ r) tops-mixed ∙ joint-outside r (x / 2 ^ p) (y / 2 ^ q) (outside-below p r x x_below))
        ∙ sym (joint-parts q y)

module _ (p q r u : ℕ) where
  abbrev middle : ℕ
  middle = u / 2 ^ p

  abbrev top : ℕ
  top = u / 2 ^ p / 2 ^ q

  pub mixed-apart : mixed p q r (first_of p q r u) (second_of p q r u) ≡ u
  mixed-apart =
      let x = first_of p q r u in
      let y = second_of p q r u in
      ap₂ (λ m n. m + 2 ^ p * n) (joint-inside p (u % 2 ^ p) (top % 2 ^ r) (inside-below p u))
      (ap₂ (λ m n. m + 2 ^ q * n) (joint-inside q (middle % 2 ^ q) (top / 2 ^ r) (inside-below q middle))
      (ap₂ (λ m n. m + 2 ^ r * n) (joint-outside p (u % 2 ^ p) (top % 2 ^ r) (inside-below p u))
      (joint-outside q (middle % 2 ^ q) (top / 2 ^ r) (inside-below q middle))
      ∙ sym (joint-parts r top))
      ∙ sym (joint-parts q middle))
      ∙ sym (joint-parts p u)

  pub first_of-below : first_of p q r u < 2 ^ (p + r)
  first_of-below = joint-below p r (u % 2 ^ p) (top % 2 ^ r) (inside-below p u) (inside-below r top)

  pub second_of-below : (t : ℕ) → u < 2 ^ (p + (q + (r + t))) → second_of p q r u < 2 ^ (q + t)
  second_of-below t below =
      joint-below q t (middle % 2 ^ q) (top / 2 ^ r) (inside-below q middle)
      (outside-below r t top (outside-below q (r + t) middle (outside-below p (q + (r + t)) u below)))
