-- The bits of marks: those of labels, and behind them other labels turned round.
use Rattle.std.proofs.Common.{◌≡◌, ℕ, ◌+◌, ◌*◌, ◌/◌, ◌%◌, ◌^◌, ◌<◌, ◌≤◌, ◌∙◌, sym, ap, ap₂, arith, w64}
use Rattle.std.specs.Int.{bit_not}
use Rattle.std.proofs.Math.Pow.{pow_mono}
use Rattle.std.proofs.lemmas.Nat.{pow_pos, shl_below, shl_whole, shr_split}
use Rattle.std.proofs.lemmas.Nat.Bits.{bit_at_cat_high, bit_at_cat_low, bit_at_not}
use Rattle.kh_types.specs.Bits.{bit}
use Rattle.crossing_maps.specs.AddedSeams.{AreMarks}

pub lowest_below : (number count : ℕ) → number % 2 ^ count < 2 ^ count
lowest_below number count = let some : 0 < 2 ^ count = pow_pos count in omega arith

lowest-bit : (number count place : ℕ) → place < count → bit (number % 2 ^ count) place ≡ bit number place
lowest-bit number count place within =
    sym (bit_at_cat_low (number / 2 ^ count) count (number % 2 ^ count) place within)
    ∙ ap (λ n. bit n place) (shr_split number count)

-- low bits and high ones fit in a machine number
pub marks-fit : (closed others low high : ℕ) → closed + others ≤ 48 → low < 2 ^ closed → high < 2 ^ others
    → (high * 2 ^ closed) % 2 ^ 64 + low < 2 ^ 64
marks-fit closed others low high few below above =
    let power : 2 ^ (others + closed) ≤ 2 ^ 48 = pow_mono {j = 48} (omega (arith, few)) in
    let shifted : high * 2 ^ closed < 2 ^ (others + closed) = shl_below high others closed above in
    omega (arith, shl_whole high others closed 64 above (omega (arith, few)), pow_mono {j = 48} (few-low closed others few))
  where
    few-low : (closed others : ℕ) → closed + others ≤ 48 → closed ≤ 48
    few-low closed others few = omega (arith, few)

pub marks-are : (closed others low high label other : ℕ) → closed + others ≤ 48 → other < 2 ^ 64 → low ≡ label % 2 ^ closed
    → high ≡ bit_not w64 other % 2 ^ others → AreMarks closed others label other ((high * 2 ^ closed) % 2 ^ 64 + low)
marks-are closed others low high label other few fits low_is high_is =
    let turned = bit_not w64 other in
    let front = label % 2 ^ closed in
    let back = turned % 2 ^ others in
    let made : (high * 2 ^ closed) % 2 ^ 64 + low ≡ back * 2 ^ closed + front =
    ap₂ (λ x y. (x * 2 ^ closed) % 2 ^ 64 + y) high_is low_is
    ∙ ap (λ n. n + front) (shl_whole back others closed 64 (lowest_below turned others) (omega (arith, few))) in
    record {
      before = λ place within.
          ap (λ n. bit n place) made ∙ bit_at_cat_low back closed front place within ∙ lowest-bit label closed place within;
      behind = λ place within.
          ap (λ n. bit n (closed + place)) made
          ∙ bit_at_cat_high back closed front (closed + place) (lowest_below label closed) (omega arith)
          ∙ ap (λ i. bit back i) (omega arith) ∙ lowest-bit turned others place within
          ∙ bit_at_not w64 other place fits (omega (arith, few, within));
    }
