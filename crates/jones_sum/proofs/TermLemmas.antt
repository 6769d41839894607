-- The terms of states.
use Rattle.std.proofs.Common.{◌≡◌, ℕ, ◌+◌, ◌-◌, ◌/◌, ◌%◌, ◌<◌, ◌≤◌, ◌∙◌, ap, refl, arith, ℤ, pos, neg_ℤ, ◌+ℤ◌, ◌-ℤ◌, cond, nat_eq}
use Rattle.std.proofs.lemmas.Int.{ints}
use Rattle.kh_types.specs.StateSum.{circle_coefficient, signed_by}
use Rattle.circle_smoothing.specs.Binomials.{binomial}
use Rattle.jones_sum.proofs.CircleLemmas.{circle_coefficient-below, circle_coefficient-odd, circle_coefficient-even}
use Rattle.kh_types.proofs.AlternatingSums.{signed_by-less}

-- what gives the exponent, as far as it is raised and lowered
pub circle_coefficient-lowered : (k raised lowered : ℕ) (exponent : ℤ) → exponent +ℤ pos (k + lowered) ≡ pos raised
    → raised < lowered → circle_coefficient k exponent ≡ 0
circle_coefficient-lowered k raised lowered exponent is below =
    circle_coefficient-below k (lowered - raised - 1) exponent (omega (arith, ints, is))

pub circle_coefficient-other_parity : (k raised lowered : ℕ) (exponent : ℤ) → exponent +ℤ pos (k + lowered) ≡ pos raised
    → lowered ≤ raised → (raised - lowered) % 2 ≡ 1 → circle_coefficient k exponent ≡ 0
circle_coefficient-other_parity k raised lowered exponent is above odd =
    circle_coefficient-odd k ((raised - lowered) / 2) exponent (omega (arith, ints, is))

pub circle_coefficient-raised : (k raised lowered : ℕ) (exponent : ℤ) → exponent +ℤ pos (k + lowered) ≡ pos raised
    → lowered ≤ raised → (raised - lowered) % 2 ≡ 0 → circle_coefficient k exponent ≡ binomial k ((raised - lowered) / 2)
circle_coefficient-raised k raised lowered exponent is above even =
    circle_coefficient-even k ((raised - lowered) / 2) exponent (omega (arith, ints, is))

pub ruleset ways = (circle_coefficient-lowered, circle_coefficient-other_parity, circle_coefficient-raised)

pub signed_by-even : (a b size : ℕ) → (a + b) % 2 ≡ 0 → signed_by (pos a -ℤ pos b) size ≡ pos size
signed_by-even a b size even =
    signed_by-less (pos a -ℤ pos b) a b size refl ∙ ap (λ bit. cond (nat_eq bit 0) (pos size) (neg_ℤ (pos size))) even

pub signed_by-odd : (a b size : ℕ) → (a + b) % 2 ≡ 1 → signed_by (pos a -ℤ pos b) size ≡ neg_ℤ (pos size)
signed_by-odd a b size odd =
    signed_by-less (pos a -ℤ pos b) a b size refl ∙ ap (λ bit. cond (nat_eq bit 0) (pos size) (neg_ℤ (pos size))) odd

pub ruleset signs = (signed_by-even, signed_by-odd)
