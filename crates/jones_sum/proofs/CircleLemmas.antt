-- The coefficients of (q + q^-1) ^ k are binomial coefficients.
use Rattle.std.proofs.Common.{◌≡◌, ℕ, zero, suc, ◌+◌, ◌-◌, ◌*◌, ◌/◌, ◌%◌, ◌^◌, ◌≤◌, ap, sym, refl, arith, ℤ, pos, negsuc, ◌+ℤ◌, ◌-ℤ◌, Bool, true, false, cond, inl, inr}
use Rattle.std.specs.Prelude.{◌≢◌}
use Rattle.std.specs.Ordering.{int_eq}
use Rattle.std.proofs.lemmas.Bool.{cases_lt}
use Rattle.std.proofs.lemmas.Bool.Decides.{Decides-int_eq}
use Rattle.std.proofs.lemmas.Int.{ints}
use Rattle.kh_types.specs.StateSum.{circle_coefficient}
use Rattle.circle_smoothing.specs.Binomials.{binomial}

-- the coefficient of (q + q^-1) ^ 0
at_zero : (b : Bool) (wanted : ℕ) → (b ≡ true → wanted ≡ 1) → (b ≡ false → wanted ≡ 0) → cond b 1 0 ≡ wanted
at_zero true wanted one none = sym (one refl)
at_zero false wanted one none = sym (none refl)

no_circles : (exponent : ℤ) → exponent ≢ pos 0 → circle_coefficient 0 exponent ≡ 0
no_circles exponent other =
    at_zero (int_eq exponent (pos 0)) 0 (λ same. absurd (other ((Decides-int_eq exponent (pos 0)).0 same))) (λ differs. refl)

-- exponents below -k
pub circle_coefficient-below : (k far : ℕ) (exponent : ℤ) → exponent +ℤ pos (k + far + 1) ≡ pos 0 → circle_coefficient k exponent ≡ 0
circle_coefficient-below zero far exponent is =
    no_circles exponent (λ same. let e : exponent ≡ pos 0 = same in omega (arith, ints, e, is))
circle_coefficient-below (suc k) far exponent is =
    omega (
      arith,
      circle_coefficient-below k (far + 2) (exponent -ℤ pos 1) (omega (arith, ints, is)),
      circle_coefficient-below k far (exponent +ℤ pos 1) (omega (arith, ints, is)),
    )

-- exponents above k
pub circle_coefficient-above : (k far : ℕ) (exponent : ℤ) → exponent ≡ pos (k + far + 1) → circle_coefficient k exponent ≡ 0
circle_coefficient-above zero far exponent is =
    no_circles exponent (λ same. let e : exponent ≡ pos 0 = same in omega (arith, ints, e, is))
circle_coefficient-above (suc k) far exponent is =
    omega (
      arith,
      circle_coefficient-above k far (exponent -ℤ pos 1) (omega (arith, ints, is)),
      circle_coefficient-above k (far + 2) (exponent +ℤ pos 1) (omega (arith, ints, is)),
    )

-- exponents of the other parity than k
pub circle_coefficient-odd : (k half : ℕ) (exponent : ℤ) → exponent +ℤ pos k ≡ pos (2 * half + 1)
    → circle_coefficient k exponent ≡ 0
circle_coefficient-odd zero half exponent is =
    no_circles exponent (λ same. let e : exponent ≡ pos 0 = same in omega (arith, ints, e, is))
circle_coefficient-odd (suc k) zero exponent is =
    omega (
      arith,
      circle_coefficient-below k 0 (exponent -ℤ pos 1) (omega (arith, ints, is)),
      circle_coefficient-odd k 0 (exponent +ℤ pos 1) (omega (arith, ints, is)),
    )
circle_coefficient-odd (suc k) (suc half) exponent is =
    omega (
      arith,
      circle_coefficient-odd k half (exponent -ℤ pos 1) (omega (arith, ints, is)),
      circle_coefficient-odd k (suc half) (exponent +ℤ pos 1) (omega (arith, ints, is)),
    )

-- the exponent 2c - k
pub circle_coefficient-even : (k chosen : ℕ) (exponent : ℤ) → exponent +ℤ pos k ≡ pos (2 * chosen)
    → circle_coefficient k exponent ≡ binomial k chosen
circle_coefficient-even zero zero exponent is =
    let here : exponent ≡ pos 0 = omega (arith, ints, is) in
    ap (λ b. cond b 1 0) ((Decides-int_eq exponent (pos 0)).1 here)
circle_coefficient-even zero (suc chosen) exponent is =
    no_circles exponent (λ same. let e : exponent ≡ pos 0 = same in omega (arith, ints, e, is))
circle_coefficient-even (suc k) zero exponent is =
    omega (
      arith,
      circle_coefficient-below k 1 (exponent -ℤ pos 1) (omega (arith, ints, is)),
      circle_coefficient-even k 0 (exponent +ℤ pos 1) (omega (arith, ints, is)),
    )
circle_coefficient-even (suc k) (suc chosen) exponent is =
    omega (
      arith,
      circle_coefficient-even k chosen (exponent -ℤ pos 1) (omega (arith, ints, is)),
      circle_coefficient-even k (suc chosen) (exponent +ℤ pos 1) (omega (arith, ints, is)),
    )

-- the law, of exponents 2c - k
pub circle_coefficient-ways : (k chosen : ℕ) → circle_coefficient k (pos (2 * chosen) -ℤ pos k) ≡ binomial k chosen
circle_coefficient-ways k chosen =
    circle_coefficient-even k chosen (pos (2 * chosen) -ℤ pos k) (omega (arith, ints))

-- the law, of other exponents, by how far the exponent is above -k
none_from : (k : ℕ) (exponent above : ℤ) → exponent +ℤ pos k ≡ above
    → ((chosen : ℕ) → chosen ≤ k → exponent ≢ pos (2 * chosen) -ℤ pos k) → circle_coefficient k exponent ≡ 0
none_from k exponent (negsuc far) is other = circle_coefficient-below k far exponent (omega (arith, ints, is))
none_from k exponent (pos above) is other =
    let half = above / 2 in
    elim (cases_lt 0 (above % 2)) [
      | inl odd ↦ circle_coefficient-odd k half exponent (omega (arith, ints, is))
      | inr even ↦ elim (cases_lt k half) [
        | inl past ↦ circle_coefficient-above k (half + half - k - k - 1) exponent (omega (arith, ints, is))
        | inr within ↦ absurd (other half (omega (arith, within)) (omega (arith, ints, is)))
      ]
    ]

pub circle_coefficient-none : (k : ℕ) (exponent : ℤ) → ((chosen : ℕ) → chosen ≤ k → exponent ≢ pos (2 * chosen) -ℤ pos k)
    → circle_coefficient k exponent ≡ 0
circle_coefficient-none k exponent = none_from k exponent (exponent +ℤ pos k) refl
