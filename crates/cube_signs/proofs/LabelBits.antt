-- The bits of a label without a bit and with a gap, and the numbers that have the bits of the labels behind an edge. Both are the
-- low bits of the label, and its high bits moved down or up by one place: so the bits below the place stay, those above are found
-- one place lower or higher, the gap has a 0, and the number has one bit less or more. If the circles a and b become one, a below
-- b, the circles above b go down by one, just as the bits do: so off b a label without the bit at b, or with a gap there, has the
-- bits of the circles under their other numbers. Each number but a comes from a circle that is neither; so bits that agree off a
-- and b, together with the bit at a, or with those at a and b, say which number it is.
use Rattle.std.proofs.Common.{◌≡◌, ◌≢◌, ℕ, ◌+◌, ◌-◌, ◌*◌, ◌/◌, ◌%◌, ◌^◌, ◌<◌, ◌≤◌, ◌∙◌, inl, inr, sym, ap, subst, arith}
use Rattle.std.proofs.lemmas.Bool.{cases_eq, cases_lt}
use Rattle.std.proofs.lemmas.Bool.Decides.{nat_tests}
use Rattle.std.proofs.lemmas.Nat.{pow-add, pow_pos}
use Rattle.std.proofs.lemmas.Nat.Bits.{bit_at_above, bit_at_cat_high, same_from_bits_below}
use Rattle.std.proofs.Math.Nat.{div-lt_iff_lt-mul, mod-lt}
use Rattle.std.proofs.Math.Pow.{pow-lt}
use Rattle.kh_types.specs.Bits.{bit}
use Rattle.kh_types.proofs.JointNumbers.{bit-high, bit-low, bit-inside, joint-below}
use Rattle.circle_smoothing.specs.Edges.{renumbered}
use Rattle.circle_smoothing.proofs.EdgeNumbers.{renumbered-low}
use Rattle.cube_signs.specs.Heads.{with_gap, without_bit}

-- a number by its low bits and the others

bit-joined_high : (low high size k : ℕ) → low < 2 ^ size → size ≤ k → bit (low + 2 ^ size * high) k ≡ bit high (k - size)
bit-joined_high low high size k small from =
    ap (λ n. bit n k) (let e : low + 2 ^ size * high ≡ high * 2 ^ size + low = omega arith in e)
    ∙ bit_at_cat_high high size low k small from

high-below : (number low rest : ℕ) → number < 2 ^ (rest + low) → number / 2 ^ low < 2 ^ rest
high-below number low rest small = (div-lt_iff_lt-mul (pow_pos low)).1 (omega (arith, pow-add 2 rest low, small))

-- without a bit

pub without-low : (place label k : ℕ) → k < place → bit (without_bit place label) k ≡ bit label k
without-low place label k below = grind (arith, nat_tests, bit-inside, bit-low)

without-high : (place label k : ℕ) → place ≤ k → bit (without_bit place label) k ≡ bit label (k + 1)
without-high place label k from =
    bit-joined_high (label % 2 ^ place) (label / 2 ^ (place + 1)) place k (mod-lt label (pow_pos place)) from
    ∙ bit-high (place + 1) label (k - place)
    ∙ ap (bit label) (omega (arith, from))

pub without-below : (place label size : ℕ) → place ≤ size → label < 2 ^ (size + 1) → without_bit place label < 2 ^ size
without-below place label size within small =
    let e : place + (size - place) ≡ size = omega (arith, within) in
    let f : size + 1 ≡ size - place + (place + 1) = omega (arith, within) in
    subst (λ (n : ℕ). without_bit place label < 2 ^ n) e
    (joint-below place (size - place) (label % 2 ^ place) (label / 2 ^ (place + 1)) (mod-lt label (pow_pos place))
    (high-below label (place + 1) (size - place) (subst (λ (n : ℕ). label < 2 ^ n) f small)))

-- with a gap

pub gap-low : (place label k : ℕ) → k < place → bit (with_gap place label) k ≡ bit label k
gap-low place label k below = grind (arith, nat_tests, bit-inside, bit-low)

low-small : (place label : ℕ) → label % 2 ^ place < 2 ^ (place + 1)
low-small place label = omega (arith, mod-lt label (pow_pos place), pow-lt (let e : place < place + 1 = omega arith in e))

pub gap-there : (place label : ℕ) → bit (with_gap place label) place ≡ 0
gap-there place label = grind (arith, nat_tests, bit-inside, bit_at_above, mod-lt, pow_pos)

gap-high : (place label k : ℕ) → place < k → bit (with_gap place label) k ≡ bit label (k - 1)
gap-high place label k above =
    bit-joined_high (label % 2 ^ place) (label / 2 ^ place) (place + 1) k (low-small place label) (omega (arith, above))
    ∙ bit-high place label (k - (place + 1))
    ∙ ap (bit label) (omega (arith, above))

pub gap-below : (place label size : ℕ) → place ≤ size → label < 2 ^ size → with_gap place label < 2 ^ (size + 1)
gap-below place label size within small =
    let e : place + 1 + (size - place) ≡ size + 1 = omega (arith, within) in
    let f : size ≡ size - place + place = omega (arith, within) in
    subst (λ (n : ℕ). with_gap place label < 2 ^ n) e
    (joint-below (place + 1) (size - place) (label % 2 ^ place) (label / 2 ^ place) (low-small place label)
    (high-below label place (size - place) (subst (λ (n : ℕ). label < 2 ^ n) f small)))

-- by the numbers of circles, of which a and b have become one

renumbered-high : (a b k : ℕ) → b < k → renumbered a b k ≡ k - 1
renumbered-high a b k above = grind (arith, nat_tests)

pub without-renumbered : (a b label k : ℕ) → k ≢ b → bit (without_bit b label) (renumbered a b k) ≡ bit label k
without-renumbered a b label k other = grind (arith, nat_tests, cases_lt, renumbered-low, without-low, renumbered-high, without-high)

pub gap-renumbered : (a b label k : ℕ) → k ≢ b → bit (with_gap b label) k ≡ bit label (renumbered a b k)
gap-renumbered a b label k other = grind (arith, nat_tests, cases_lt, gap-low, renumbered-low, gap-high, renumbered-high)

pub renumbered-other : (a b k : ℕ) → a < b → k ≢ a → k ≢ b → renumbered a b k ≢ a
renumbered-other a b k order not_a not_b = grind (arith, nat_tests)

-- each number but a comes from one that is neither a nor b
comes_from : (a b k : ℕ) → a < b → k ≢ a → (i : ℕ) × (i ≤ k + 1) × (i ≢ a) × (i ≢ b) × (renumbered a b i ≡ k)
comes_from a b k order other = elim (cases_lt k b) [
  | inl below ↦ (k, omega arith, other, omega (arith, below), renumbered-low a b k below)
  | inr from ↦
      let high = renumbered-high a b (k + 1) (omega (arith, from)) in
      (k + 1, omega arith, omega (arith, order, from), omega (arith, from), high ∙ omega arith)
]

-- off a and b the circles before and after have the same bits
pub record AgreeOff (count a b two one : ℕ) : Type 0 where
  pub at : (k : ℕ) → k < count → k ≢ a → k ≢ b → bit two k ≡ bit one (renumbered a b k)

-- that and the bits there say which number it is

pub one-number : (size a b two one other : ℕ) → a < b → AgreeOff (size + 1) a b two one → AgreeOff (size + 1) a b two other
    → one < 2 ^ size → other < 2 ^ size → bit one a ≡ bit other a → one ≡ other
one-number size a b two one other order agree agree_too one_small other_small same =
    same_from_bits_below size one other one_small other_small (λ k below. elim (cases_eq k a) [
      | inl is ↦ ap (bit one) is ∙ same ∙ ap (bit other) (sym is)
      | inr differs ↦
          let from = comes_from a b k order differs in
          let within : from.0 < size + 1 = omega (arith, below, from.1) in
          ap (bit one) (sym from.4) ∙ sym (agree.at from.0 within from.2 from.3) ∙ agree_too.at from.0 within from.2 from.3
          ∙ ap (bit other) from.4
    ])

pub two-number : (count a b two one other : ℕ) → AgreeOff count a b two one → AgreeOff count a b other one
    → two < 2 ^ count → other < 2 ^ count → bit two a ≡ bit other a → bit two b ≡ bit other b → two ≡ other
two-number count a b two one other agree agree_too two_small other_small same_a same_b =
    same_from_bits_below count two other two_small other_small (λ k below. elim (cases_eq k a) [
      | inl is ↦ ap (bit two) is ∙ same_a ∙ ap (bit other) (sym is)
      | inr not_a ↦ elim (cases_eq k b) [
        | inl is ↦ ap (bit two) is ∙ same_b ∙ ap (bit other) (sym is)
        | inr not_b ↦ agree.at k below not_a not_b ∙ sym (agree_too.at k below not_a not_b)
      ]
    ])
