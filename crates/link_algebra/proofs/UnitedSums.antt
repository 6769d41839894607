-- The state sum of a disjoint union is the product of the two state sums.
use Rattle.std.proofs.lemmas.Bool.Decides.{nat_tests}
use Rattle.std.proofs.Common.{IsTrue, ap, ap₂, arith, length, pos, refl, sym, ℕ, ℤ, ◌*ℤ◌, ◌*◌, ◌+◌, ◌-ℤ◌, ◌-◌, ◌<◌, ◌^◌, ◌∙◌, ◌≡◌, ◌≤◌}
use Rattle.std.proofs.lemmas.Int.{ints}
use Rattle.std.proofs.lemmas.Nat.{pow-add}
use Rattle.std.specs.List.{range_with_len}
use Rattle.kh_types.proofs.QuantumDegrees.{one_count-le, plus_count-le}
use Rattle.kh_types.specs.Acceptance.{accepted}
use Rattle.kh_types.specs.Bits.{ones}
use Rattle.kh_types.specs.Circles.{circle_count}
use Rattle.kh_types.specs.Code.{Code}
use Rattle.kh_types.specs.Directions.{minus_count, plus_count}
use Rattle.kh_types.specs.Generators.{one_count, states}
use Rattle.kh_types.specs.StateSum.{state_sum, state_term, term_of}
use Rattle.kh_types.specs.Table.{from_minus}
use Rattle.kh_types.proofs.JointNumbers.{ones-joint}
use Rattle.link_algebra.proofs.IntSums.{sum-alike, sum-blocks, sum-range_alike, sum-times, sum-times_right, sum-turned, sum_over}
use Rattle.link_algebra.proofs.TermProducts.{Fits, terms-product}
use Rattle.link_algebra.proofs.UnitedCircles.{circle_count-both, length-both, state_of_both}
use Rattle.link_algebra.specs.Unions.{product_coefficient, union_of}

-- the signs of both
pub minus-both : (first second : Code) → plus_count (union_of first second).crossings ≡ plus_count first.crossings + plus_count second.crossings
    → minus_count (union_of first second).crossings ≡ minus_count first.crossings + minus_count second.crossings
minus-both first second plus = grind (arith, nat_tests, length-both, plus_count-le)

-- the exponents of a state's term are within the bound
Fits-state : (code : Code) (most state : ℕ) → circle_count code state + 2 * length code.crossings ≤ most
    → Fits most (circle_count code state) (pos (one_count code state + plus_count code.crossings) -ℤ pos (2 * minus_count code.crossings))
Fits-state code most state fits =
    fit (length code.crossings) (circle_count code state) (one_count code state) (plus_count code.crossings)
    (minus_count code.crossings) most (one_count-le code state) (plus_count-le code.crossings) refl fits
  where
    fit : (n c r p m most : ℕ) → r ≤ n → p ≤ n → m ≡ n - p → c + 2 * n ≤ most → Fits most c (pos (r + p) -ℤ pos (2 * m))
    fit n c r p m most ones few rest fits =
        record {
          low = r + p + most - (2 * m + c);
          from = omega (arith, ints, ones, few, rest, fits);
          within = omega (arith, ones, few, rest, fits);
        }

pub state_sum-united : (first second : Code) (most : ℕ) (e : ℤ) → IsTrue (accepted first) → IsTrue (accepted second)
    → plus_count (union_of first second).crossings ≡ plus_count first.crossings + plus_count second.crossings
    → ((state : ℕ) → circle_count first state + 2 * length first.crossings ≤ most)
    → state_sum (union_of first second) e ≡ product_coefficient most (state_sum first) (state_sum second) e
state_sum-united first second most e first_is second_is plus fits =
    let n = length first.crossings in
    let k = length second.crossings in
    let both = union_of first second in
    let left : ℕ → ℤ → ℤ = λ a x. state_term first x a in
    let right : ℕ → ℤ → ℤ = λ b x. state_term second x b in
    let product : ℕ → ℕ → ℤ → ℤ = λ b a x. left a x *ℤ right b (e -ℤ x) in
    let minus = minus-both first second plus in
    let size : 2 ^ length both.crossings ≡ 2 ^ n * 2 ^ k = ap (λ m. 2 ^ m) (length-both first second) ∙ pow-add 2 n k in
    let term : (a b : ℕ) → a < 2 ^ n → state_term both e (state_of_both first a b) ≡ sum_over (product b a) (from_minus most) =
    λ a b small.
    ap₂ (λ p m. term_of p m e (one_count both (state_of_both first a b)) (circle_count both (state_of_both first a b))) plus minus
    ∙ ap₂ (λ r c. term_of (plus_count first.crossings + plus_count second.crossings)
    (minus_count first.crossings + minus_count second.crossings) e r c)
    (ap (λ m. ones m (state_of_both first a b)) (length-both first second) ∙ ones-joint n a b k small)
    (circle_count-both first second a b first_is second_is small)
    ∙ sym (terms-product most (plus_count first.crossings) (minus_count first.crossings) (plus_count second.crossings)
    (minus_count second.crossings) e (one_count first a) (one_count second b) (circle_count first a) (circle_count second b)
    (Fits-state first most a (fits a))) in
    ap (λ m. sum_over (state_term both e) (range_with_len 0 m)) size
    ∙ sum-blocks (state_term both e) (2 ^ n) (2 ^ k)
    ∙ sum-alike (λ b. sum_over (λ a. state_term both e (state_of_both first a b)) (states first))
    (λ b. sum_over (λ x. sum_over (λ a. product b a x) (states first)) (from_minus most)) (states second)
    (λ b.
    sum-range_alike (λ a. state_term both e (state_of_both first a b)) (λ a. sum_over (product b a) (from_minus most)) 0 (2 ^ n)
    (λ a from below. term a b (omega (arith, below)))
    ∙ sum-turned (product b) (states first) (from_minus most))
    ∙ sum-turned (λ b x. sum_over (λ a. product b a x) (states first)) (states second) (from_minus most)
    ∙ sum-alike (λ x. sum_over (λ b. sum_over (λ a. product b a x) (states first)) (states second))
    (λ x. state_sum first x *ℤ state_sum second (e -ℤ x)) (from_minus most)
    (λ x.
    sum-alike (λ b. sum_over (λ a. product b a x) (states first)) (λ b. state_sum first x *ℤ right b (e -ℤ x)) (states second)
    (λ b. sum-times_right (λ a. left a x) (right b (e -ℤ x)) (states first))
    ∙ sum-times (state_sum first x) (λ b. right b (e -ℤ x)) (states second))
