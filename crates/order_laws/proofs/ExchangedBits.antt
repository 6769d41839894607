-- Numbers with two neighbouring bits exchanged, those at the places k and k + 1. All is by recursion on k: the lowest bit stays,
-- and the half of the number has its bits exchanged, until they are the two lowest. To exchange twice changes nothing, for
-- numbers as for places; each bit comes to where its place goes; numbers below a power of 2 that has room for both bits stay
-- below it; and to set a bit and exchange is to exchange and set the bit where it goes. Lower and higher places stay, so the ones
-- before a place are as many unless just one of the two bits is counted. Hence the ones before a 0 bit and those before where it
-- goes have the same parity, but for whether both bits are 1 before it is set, and after. The last lemma is the same exchange of
-- two neighbours in a list.
use Rattle.std.proofs.Common.{◌≡◌, ℕ, inl, inr, zero, suc, ◌+◌, ◌*◌, ◌/◌, ◌%◌, ◌^◌, ◌<◌, ◌≤◌, ◌∙◌, List, [], ◌∷◌, ◌++◌, length, get_or, refl, sym, ap, ap₂, arith}
use Rattle.std.proofs.lemmas.Bool.{cases_eq, cases_lt}
use Rattle.std.proofs.lemmas.Nat.Bits.{bit_at-suc, bit_at_lowest}
use Rattle.kh_types.specs.Bits.{bit, ones}
use Rattle.kh_types.proofs.BitLemmas.{ones-more, half-of}
use Rattle.kh_types.proofs.EdgeBits.{bit-set_other, bit-set_there}
use Rattle.kh_types.proofs.ListSums.{sum_by-range_alike}
use Rattle.cell_laws.proofs.Matched.{sum_by-paired}

-- the number with its bits at k and k + 1 exchanged
abbrev pub exchanged : ℕ → ℕ → ℕ
exchanged zero s = s / 4 * 4 + (s % 2 * 2 + s / 2 % 2)
exchanged (suc k) s = s % 2 + 2 * exchanged k (s / 2)

-- where a place goes, where those at k and k + 1 are exchanged
abbrev pub moved : ℕ → ℕ → ℕ
moved zero zero = 1
moved zero (suc zero) = 0
moved zero (suc (suc l)) = suc (suc l)
moved (suc k) zero = 0
moved (suc k) (suc l) = suc (moved k l)

low_even : (s e : ℕ) → (s % 2 + 2 * e) % 2 ≡ s % 2
low_even s e = omega arith

pub exchanged-twice : (k s : ℕ) → exchanged k (exchanged k s) ≡ s
exchanged-twice zero s = again s
  where
    again : (s : ℕ) → (s / 4 * 4 + (s % 2 * 2 + s / 2 % 2)) / 4 * 4 + ((s / 4 * 4 + (s % 2 * 2 + s / 2 % 2)) % 2 * 2 + (s / 4 * 4 + (s % 2 * 2 + s / 2 % 2)) / 2 % 2) ≡ s
    again s = omega arith
exchanged-twice (suc k) s =
    let e = exchanged k (s / 2) in
    ap₂ (λ a b. a + 2 * exchanged k b) (low_even s e) (half-of s e) ∙ ap (λ b. s % 2 + 2 * b) (exchanged-twice k (s / 2)) ∙ halves s
  where
    halves : (s : ℕ) → s % 2 + 2 * (s / 2) ≡ s
    halves s = omega arith

pub moved-twice : (k l : ℕ) → moved k (moved k l) ≡ l
moved-twice zero zero = refl
moved-twice zero (suc zero) = refl
moved-twice zero (suc (suc l)) = refl
moved-twice (suc k) zero = refl
moved-twice (suc k) (suc l) = ap suc (moved-twice k l)

pub bit-exchanged : (k s l : ℕ) → bit (exchanged k s) (moved k l) ≡ bit s l
bit-exchanged zero s zero =
    let x = exchanged zero s in
    bit_at-suc x 0 ∙ bit_at_lowest (x / 2) ∙ second s ∙ sym (bit_at_lowest s)
  where
    second : (s : ℕ) → (s / 4 * 4 + (s % 2 * 2 + s / 2 % 2)) / 2 % 2 ≡ s % 2
    second s = omega arith
bit-exchanged zero s (suc zero) =
    let x = exchanged zero s in
    bit_at_lowest x ∙ first s ∙ sym (bit_at-suc s 0 ∙ bit_at_lowest (s / 2))
  where
    first : (s : ℕ) → (s / 4 * 4 + (s % 2 * 2 + s / 2 % 2)) % 2 ≡ s / 2 % 2
    first s = omega arith
bit-exchanged zero s (suc (suc l)) =
    let x = exchanged zero s in
    bit_at-suc x (suc l) ∙ bit_at-suc (x / 2) l ∙ ap (λ n. bit n l) (fourth s) ∙ sym (bit_at-suc s (suc l) ∙ bit_at-suc (s / 2) l)
  where
    fourth : (s : ℕ) → (s / 4 * 4 + (s % 2 * 2 + s / 2 % 2)) / 2 / 2 ≡ s / 2 / 2
    fourth s = omega arith
bit-exchanged (suc k) s zero =
    bit_at_lowest (exchanged (suc k) s) ∙ low_even s (exchanged k (s / 2)) ∙ sym (bit_at_lowest s)
bit-exchanged (suc k) s (suc l) =
    bit_at-suc (exchanged (suc k) s) (moved k l) ∙ ap (λ n. bit n (moved k l)) (half-of s (exchanged k (s / 2)))
    ∙ bit-exchanged k (s / 2) l ∙ sym (bit_at-suc s l)

pub exchanged-below : (k rest s : ℕ) → s < 2 ^ (k + (2 + rest)) → exchanged k s < 2 ^ (k + (2 + rest))
exchanged-below zero rest s below =
    let power : 2 ^ (0 + (2 + rest)) ≡ 4 * 2 ^ rest = quadruple rest in
    omega (arith, power, quarter s (2 ^ rest) (omega (arith, below, power)))
  where
    quadruple : (rest : ℕ) → 2 ^ (0 + (2 + rest)) ≡ 4 * 2 ^ rest
    quadruple rest = let e : 0 + (2 + rest) ≡ suc (suc rest) = omega arith in ap (λ n. 2 ^ n) e ∙ omega arith

    quarter : (s m : ℕ) → s < 4 * m → s / 4 * 4 + (s % 2 * 2 + s / 2 % 2) < 4 * m
    quarter s m below = omega (arith, below)
exchanged-below (suc k) rest s below =
    let power : 2 ^ (suc k + (2 + rest)) ≡ 2 * 2 ^ (k + (2 + rest)) = twice k rest in
    let later = exchanged-below k rest (s / 2) (half s (2 ^ (k + (2 + rest))) (omega (arith, below, power))) in
    omega (arith, power, whole s (exchanged k (s / 2)) (2 ^ (k + (2 + rest))) later)
  where
    twice : (k rest : ℕ) → 2 ^ (suc k + (2 + rest)) ≡ 2 * 2 ^ (k + (2 + rest))
    twice k rest = let e : suc k + (2 + rest) ≡ suc (k + (2 + rest)) = omega arith in ap (λ n. 2 ^ n) e ∙ omega arith

    half : (s m : ℕ) → s < 2 * m → s / 2 < m
    half s m below = omega (arith, below)

    whole : (s e m : ℕ) → e < m → s % 2 + 2 * e < 2 * m
    whole s e m below = omega (arith, below)

pub exchanged-set : (k s l : ℕ) → bit s l ≡ 0 → exchanged k (s + 2 ^ l) ≡ exchanged k s + 2 ^ moved k l
exchanged-set zero s zero none = by s (sym (bit_at_lowest s) ∙ none)
  where
    by : (s : ℕ) → s % 2 ≡ 0 → (s + 1) / 4 * 4 + ((s + 1) % 2 * 2 + (s + 1) / 2 % 2) ≡ s / 4 * 4 + (s % 2 * 2 + s / 2 % 2) + 2
    by s none = omega (arith, none)
exchanged-set zero s (suc zero) none = by s (sym (bit_at-suc s 0 ∙ bit_at_lowest (s / 2)) ∙ none)
  where
    by : (s : ℕ) → s / 2 % 2 ≡ 0 → (s + 2) / 4 * 4 + ((s + 2) % 2 * 2 + (s + 2) / 2 % 2) ≡ s / 4 * 4 + (s % 2 * 2 + s / 2 % 2) + 1
    by s none = omega (arith, none)
exchanged-set zero s (suc (suc l)) none =
    let power : 2 ^ suc (suc l) ≡ 4 * 2 ^ l = omega arith in
    ap (λ m. exchanged zero (s + m)) power ∙ by s (2 ^ l) ∙ ap (λ m. exchanged zero s + m) (sym power)
  where
    by : (s m : ℕ) → (s + 4 * m) / 4 * 4 + ((s + 4 * m) % 2 * 2 + (s + 4 * m) / 2 % 2) ≡ s / 4 * 4 + (s % 2 * 2 + s / 2 % 2) + 4 * m
    by s m = omega arith
exchanged-set (suc k) s zero none =
    let even : s % 2 ≡ 0 = sym (bit_at_lowest s) ∙ none in
    let low : (s + 1) % 2 ≡ s % 2 + 1 = omega (arith, even) in
    let half : (s + 1) / 2 ≡ s / 2 = omega (arith, even) in
    ap₂ (λ a b. a + 2 * exchanged k b) low half ∙ regrouped (s % 2) (exchanged k (s / 2))
  where
    regrouped : (a e : ℕ) → a + 1 + 2 * e ≡ a + 2 * e + 1
    regrouped a e = omega arith
exchanged-set (suc k) s (suc l) none =
    let power : 2 ^ suc l ≡ 2 * 2 ^ l = omega arith in
    let later = exchanged-set k (s / 2) l (sym (bit_at-suc s l) ∙ none) in
    ap (λ m. exchanged (suc k) (s + m)) power
    ∙ ap₂ (λ a b. a + 2 * exchanged k b) (low s (2 ^ l)) (half s (2 ^ l))
    ∙ ap (λ b. s % 2 + 2 * b) later
    ∙ regrouped (s % 2) (exchanged k (s / 2)) (2 ^ moved k l)
    ∙ ap (λ m. exchanged (suc k) s + m) (sym (double (moved k l)))
  where
    double : (m : ℕ) → 2 ^ suc m ≡ 2 * 2 ^ m
    double m = omega arith

    low : (s m : ℕ) → (s + 2 * m) % 2 ≡ s % 2
    low s m = omega arith

    half : (s m : ℕ) → (s + 2 * m) / 2 ≡ s / 2 + m
    half s m = omega arith

    regrouped : (a e m : ℕ) → a + 2 * (e + m) ≡ a + 2 * e + 2 * m
    regrouped a e m = omega arith

-- where places go
pub moved-low : (k l : ℕ) → l < k → moved k l ≡ l
moved-low zero l below = absurd (omega (arith, below))
moved-low (suc k) zero below = refl
moved-low (suc k) (suc l) below = ap suc (moved-low k l (omega (arith, below)))

pub moved-first : (k : ℕ) → moved k k ≡ suc k
moved-first zero = refl
moved-first (suc k) = ap suc (moved-first k)

pub moved-second : (k : ℕ) → moved k (suc k) ≡ k
moved-second zero = refl
moved-second (suc k) = ap suc (moved-second k)

pub moved-high : (k l : ℕ) → suc k < l → moved k l ≡ l
moved-high zero zero above = absurd (omega (arith, above))
moved-high zero (suc zero) above = absurd (omega (arith, above))
moved-high zero (suc (suc l)) above = refl
moved-high (suc k) zero above = absurd (omega (arith, above))
moved-high (suc k) (suc l) above = ap suc (moved-high k l (omega (arith, above)))

pub moved-below : (k l n : ℕ) → k + 2 ≤ n → l < n → moved k l < n
moved-below k l n fits below = elim (cases_lt l k) [
  | inl less ↦ omega (arith, below, moved-low k l less)
  | inr not_less ↦ elim (cases_lt (suc k) l) [
    | inl more ↦ omega (arith, below, moved-high k l more)
    | inr not_more ↦ elim (cases_eq l k) [
      | inl is ↦ omega (arith, ap (moved k) is ∙ moved-first k, fits)
      | inr other ↦
          let is : l ≡ suc k = omega (arith, not_less, not_more, other) in
          omega (arith, ap (moved k) is ∙ moved-second k, fits)
    ]
  ]
]

-- counts of ones
pub ones-low : (k s count : ℕ) → count ≤ k → ones count (exchanged k s) ≡ ones count s
ones-low k s count low =
    sum_by-range_alike (bit (exchanged k s)) (bit s) 0 count
    (λ i from below.
    ap (bit (exchanged k s)) (sym (moved-low k i (omega (arith, below, low)))) ∙ bit-exchanged k s i)

pub ones-high : (k s count : ℕ) → k + 2 ≤ count → ones count (exchanged k s) ≡ ones count s
ones-high k s count high =
    sum_by-paired count count (moved k) (moved k) (bit (exchanged k s))
    (record {
      there_below = λ l below. moved-below k l count high below;
      back_below = λ l below. moved-below k l count high below;
      back_there = λ l below. moved-twice k l;
      there_back = λ l below. moved-twice k l;
    })
    ∙ sum_by-range_alike (λ l. bit (exchanged k s) (moved k l)) (bit s) 0 count (λ l from below. bit-exchanged k s l)

pub ones-middle : (k s : ℕ) → ones (suc k) (exchanged k s) ≡ ones k s + bit s (suc k)
ones-middle k s =
    let e : suc k ≡ k + 1 = omega arith in
    ap (λ n. ones n (exchanged k s)) e ∙ ones-more k (exchanged k s)
    ∙ ap₂ (λ a b. a + b) (ones-low k s k (omega arith))
    (ap (bit (exchanged k s)) (sym (moved-second k)) ∙ bit-exchanged k s (suc k))

-- whether both bits are 1
abbrev pub both_ones : ℕ → ℕ → ℕ
both_ones k s = bit s k * bit s (suc k)

-- the ones before a place are as many as those before where it goes, but for what the exchanged bits add before and after
pub ones-moved : (k s l : ℕ) → bit s l ≡ 0
    → ones l s % 2 ≡ (both_ones k s + (both_ones k (s + 2 ^ l) + ones (moved k l) (exchanged k s))) % 2
ones-moved k s l none = elim (cases_lt l k) [
  | inl less ↦
      same_both (both_ones k s) (both_ones k (s + 2 ^ l)) (ones l s) (ones (moved k l) (exchanged k s))
      (ap₂ (λ a b. a * b) (bit-set_other s l none k (omega (arith, less))) (bit-set_other s l none (suc k) (omega (arith, less))))
      (ap (λ n. ones n (exchanged k s)) (moved-low k l less) ∙ ones-low k s l (omega (arith, less)))
  | inr not_less ↦ elim (cases_lt (suc k) l) [
    | inl more ↦
        same_both (both_ones k s) (both_ones k (s + 2 ^ l)) (ones l s) (ones (moved k l) (exchanged k s))
        (ap₂ (λ a b. a * b) (bit-set_other s l none k (omega (arith, more))) (bit-set_other s l none (suc k) (omega (arith, more))))
        (ap (λ n. ones n (exchanged k s)) (moved-high k l more) ∙ ones-high k s l (omega (arith, more)))
    | inr not_more ↦ elim (cases_eq l k) [
      | inl is ↦
          at_first (bit s k) (bit s (suc k)) (bit (s + 2 ^ l) k) (bit (s + 2 ^ l) (suc k)) (ones l s) (ones (moved k l) (exchanged k s))
          (ap (bit s) (sym is) ∙ none) (ap (bit (s + 2 ^ l)) (sym is) ∙ bit-set_there s l none)
          (bit-set_other s l none (suc k) (omega (arith, is)))
          (ap (λ n. ones n (exchanged k s)) (ap (moved k) is ∙ moved-first k) ∙ ones-middle k s
          ∙ ap (λ n. ones n s + bit s (suc k)) (sym is))
      | inr other ↦
          let is : l ≡ suc k = omega (arith, not_less, not_more, other) in
          let e : l ≡ k + 1 = omega (arith, is) in
          at_second (bit s k) (bit s (suc k)) (bit (s + 2 ^ l) k) (bit (s + 2 ^ l) (suc k)) (ones l s) (ones (moved k l) (exchanged k s))
          (ones k s)
          (ap (bit s) (sym is) ∙ none) (ap (bit (s + 2 ^ l)) (sym is) ∙ bit-set_there s l none)
          (bit-set_other s l none k (omega (arith, is)))
          (ap (λ n. ones n s) e ∙ ones-more k s)
          (ap (λ n. ones n (exchanged k s)) (ap (moved k) is ∙ moved-second k) ∙ ones-low k s k (omega arith))
    ]
  ]
]
  where
    same_both : (b c m n : ℕ) → c ≡ b → n ≡ m → m % 2 ≡ (b + (c + n)) % 2
    same_both b c m n same equal = omega (arith, same, equal)

    at_first : (x y u v m n : ℕ) → x ≡ 0 → u ≡ 1 → v ≡ y → n ≡ m + y → m % 2 ≡ (x * y + (u * v + n)) % 2
    at_first x y u v m n is_x is_u is_v is_n =
        let first : x * y ≡ 0 = ap (λ z. z * y) is_x ∙ omega arith in
        let second : u * v ≡ y = ap₂ (λ z w. z * w) is_u is_v ∙ omega arith in
        omega (arith, first, second, is_n)

    at_second : (x y u v m n k : ℕ) → y ≡ 0 → v ≡ 1 → u ≡ x → m ≡ k + x → n ≡ k → m % 2 ≡ (x * y + (u * v + n)) % 2
    at_second x y u v m n k is_y is_v is_u is_m is_n =
        let first : x * y ≡ 0 = ap (λ z. x * z) is_y ∙ omega arith in
        let second : u * v ≡ x = ap₂ (λ z w. z * w) is_u is_v ∙ omega arith in
        omega (arith, first, second, is_m, is_n)

-- the elements of a list, of which two neighbours are exchanged
pub element-moved : {X : Type 0} (front back : List X) (a b d : X) (l : ℕ)
    → get_or (front ++ b ∷ a ∷ back) (moved (length front) l) d ≡ get_or (front ++ a ∷ b ∷ back) l d
element-moved [] back a b d zero = refl
element-moved [] back a b d (suc zero) = refl
element-moved [] back a b d (suc (suc l)) = refl
element-moved (x ∷ front) back a b d zero = refl
element-moved (x ∷ front) back a b d (suc l) = element-moved front back a b d l
