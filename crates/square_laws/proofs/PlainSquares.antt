-- The plain differential squares to zero: it is the deformed one where h is 0.
use Rattle.std.proofs.Common.{◌≡◌, ℕ, ◌*◌, ◌%◌, ◌<◌, ◌∙◌, inl, inr, ℤ, pos, ◌+ℤ◌, sym, ap, ap₂, arith, true, false, cond, IsTrue}
use Rattle.std.specs.List.{sum_by}
use Rattle.std.proofs.lemmas.Bool.{cases_Bool, cases_lt}
use Rattle.std.proofs.Math.Nat.{mod-one}
use Rattle.kh_types.specs.Acceptance.{accepted}
use Rattle.kh_types.specs.Code.{Code}
use Rattle.kh_types.specs.Differential.{coefficient}
use Rattle.square_laws.specs.Deformed.{deformed_coefficient}
use Rattle.kh_types.specs.Generators.{Generator, generators, generators_at, has_degrees}
use Rattle.kh_types.proofs.ListSums.{sum_by-alike, sum_by-filter}
use Rattle.kh_types.proofs.Sums.{times-zero}
use Rattle.square_laws.proofs.DeformedSquares.{deformed-square}
use Rattle.square_laws.proofs.Degrees.{coefficient-zero, degrees-from_test, has_degrees-from}
use Rattle.square_laws.proofs.RaisedDegrees.{deformed-plain}

-- the product of two coefficients, summed over all generators between
pub product_sum-zero : (p : ℕ) (code : Code) (tail head : Generator) → 0 < p → IsTrue (accepted code)
    → sum_by (λ middle. coefficient p code middle head * coefficient p code tail middle) (generators code) % p ≡ 0
product_sum-zero p code tail head positive is = elim (cases_lt 1 p) [
  | inl above ↦
      ap (λ s. s % p)
      (sum_by-alike (λ middle. coefficient p code middle head * coefficient p code tail middle)
      (λ middle. deformed_coefficient p 0 code middle head * deformed_coefficient p 0 code tail middle)
      (λ middle. sym (ap₂ (λ x y. x * y) (deformed-plain p code middle head above) (deformed-plain p code tail middle above)))
      (generators code))
      ∙ deformed-square p 0 code tail head positive is
  | inr small ↦ at-one p (sum_by (λ middle. coefficient p code middle head * coefficient p code tail middle) (generators code))
      (omega (arith, positive, small))
]
  where
    at-one : (p n : ℕ) → p ≡ 1 → n % p ≡ 0
    at-one p n is = ap (λ q. n % q) is ∙ mod-one n

-- so the product sums to 0 over the middle generators of the degrees between
pub product_sum-at : (p : ℕ) (code : Code) (i j : ℤ) (tail head : Generator) → 0 < p → IsTrue (accepted code)
    → has_degrees code i j tail ≡ true
    → sum_by (λ middle. coefficient p code middle head * coefficient p code tail middle) (generators_at code (i +ℤ pos 1) j) % p ≡ 0
product_sum-at p code i j tail head positive is passes =
    let next = i +ℤ pos 1 in
    let term = λ (middle : Generator). coefficient p code middle head * coefficient p code tail middle in
    let degrees = degrees-from_test code i j tail passes in
    ap (λ s. s % p)
    (sum_by-filter term (has_degrees code next j) (generators code)
    ∙ sum_by-alike (λ middle. cond (has_degrees code next j middle) (term middle) 0) term
    (λ middle. elim (cases_Bool (has_degrees code next j middle)) [
      | inl within ↦ ap (λ b. cond b (term middle) 0) within
      | inr outside ↦
          ap (λ b. cond b (term middle) 0) outside
          ∙ sym (times-zero (coefficient p code middle head) (coefficient p code tail middle)
          (coefficient-zero p code tail middle is (λ step.
          let so : true ≡ false =
          sym (has_degrees-from code next j middle (step.homological ∙ ap (λ z. z +ℤ pos 1) degrees.0) (step.quantum ∙ degrees.1))
          ∙ outside in
          absurd (cc))))
    ])
    (generators code))
    ∙ product_sum-zero p code tail head positive is
