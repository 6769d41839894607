-- Pascal's triangle, place by place.
use Rattle.std.proofs.lemmas.Bool.Decides.{nat_tests}
use Rattle.std.proofs.Common.{◌≡◌, ℕ, zero, suc, ◌+◌, ◌-◌, ◌*◌, ◌/◌, ◌%◌, ◌^◌, ◌<◌, ◌≤◌, ap, refl, arith}
use Rattle.std.proofs.Math.Nat.{two-pow-succ}
use Rattle.std.proofs.Math.Pow.{pow_mono}
use Rattle.std.proofs.lemmas.Nat.{pow_pos}
use Rattle.kh_types.specs.declared.limits.TheConstants.{CIRCLES}
use Rattle.circle_smoothing.specs.Binomials.{binomial, binomial_at}

-- a binomial coefficient is at most the number of all choices
pub binomial-le : (n chosen : ℕ) → binomial n chosen ≤ 2 ^ n
binomial-le n zero = pow_pos n
binomial-le zero (suc chosen) = omega arith
binomial-le (suc n) (suc chosen) = grind (arith, nat_tests, two-pow-succ, binomial-le n (suc chosen), binomial-le n chosen)

pub binomial-within : (n chosen : ℕ) → n ≤ CIRCLES → binomial n chosen ≤ 2 ^ CIRCLES
binomial-within n chosen few = grind (arith, nat_tests, pow_mono, binomial-le)

-- more things than there are
pub binomial-past : (n chosen : ℕ) → n < chosen → binomial n chosen ≡ 0
binomial-past n zero past = absurd (omega (arith, past))
binomial-past zero (suc chosen) past = refl
binomial-past (suc n) (suc chosen) past =
    omega (arith, binomial-past n chosen (omega (arith, past)), binomial-past n (suc chosen) (omega (arith, past)))

-- the place of a row and a column
pub binomial_at-place : (n chosen place : ℕ) → chosen ≤ CIRCLES → n * (CIRCLES + 1) + chosen ≡ place
    → binomial_at place ≡ binomial n chosen
binomial_at-place n chosen place few is = grind (arith, nat_tests)

-- the first column and the first row
pub binomial_at-first_column : (place : ℕ) → place % (CIRCLES + 1) ≡ 0 → binomial_at place ≡ 1
binomial_at-first_column place first = ap (binomial (place / (CIRCLES + 1))) first

pub binomial_at-first_row : (place : ℕ) → place < CIRCLES + 1 → 0 < place % (CIRCLES + 1) → binomial_at place ≡ 0
binomial_at-first_row place first later = grind (arith, nat_tests)

-- the others
pub binomial_at-later : (place before above : ℕ) → CIRCLES + 1 ≤ place → 0 < place % (CIRCLES + 1)
    → before ≡ place - (CIRCLES + 1) - 1 → above ≡ place - (CIRCLES + 1)
    → binomial_at before + binomial_at above ≡ binomial_at place
binomial_at-later place before above lower later is_before is_above =
    let n = place / (CIRCLES + 1) - 1 in
    let chosen = place % (CIRCLES + 1) - 1 in
    omega (
      arith,
      binomial_at-place (suc n) (suc chosen) place (omega arith) (omega arith),
      binomial_at-place n chosen before (omega arith) (omega arith),
      binomial_at-place n (suc chosen) above (omega arith) (omega arith),
    )

pub binomial_at-within : (place : ℕ) → place < (CIRCLES + 1) * (CIRCLES + 1) → binomial_at place ≤ 2 ^ CIRCLES
binomial_at-within place below = grind (arith, nat_tests, binomial-within)

pub ruleset steps = (binomial_at-first_column, binomial_at-first_row, binomial_at-later, binomial_at-within)

pub ruleset known = (binomial-past, binomial_at-place, binomial-within)
