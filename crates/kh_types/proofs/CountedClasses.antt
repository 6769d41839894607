-- Classes that correspond are as many.
use Rattle.std.proofs.lemmas.Bool.Decides.{nat_tests}
use Rattle.std.proofs.Common.{List, ap, ap₂, arith, inl, inr, map, refl, subst, suc, sym, zero, ℕ, ◌*◌, ◌+◌, ◌<◌, ◌∙◌, ◌≡◌, ◌≤◌}
use Rattle.std.proofs.lemmas.Bool.{cases_eq, eq-eqb, ne_eqb}
use Rattle.std.proofs.lemmas.List.Sums.{length-filter}
use Rattle.std.specs.List.{range_with_len, sum_by}
use Rattle.std.specs.Prelude.{nat_eq, slice_index}
use Rattle.kh_types.proofs.ListSums.{sum_by-none, sum_by-range_alike, sum_by-single, sum_by-turned}
use Rattle.kh_types.specs.Classes.{AreBelow, IsNamed, Respects, class_count}
use Rattle.kh_types.specs.Bits.{one_if}

-- numbers below m stand for numbers below n, and back, so that they are together here where they are together there
pub record AreAlike (m n : ℕ) (f back : ℕ → ℕ) (first second : List ℕ) : Type 0 where
  pub below : (x : ℕ) → x < m → f x < n
  pub back_below : (y : ℕ) → y < n → back y < m
  pub here : (y : ℕ) → y < n → f (back y) ≡ y
  pub onward : (x y : ℕ) → x < m → y < m → slice_index first x ≡ slice_index first y
      → slice_index second (f x) ≡ slice_index second (f y)
  pub backward : (x y : ℕ) → x < m → y < m → slice_index second (f x) ≡ slice_index second (f y)
      → slice_index first x ≡ slice_index first y

counted : (m : ℕ) (classes : List ℕ) → IsNamed m classes
    → class_count classes ≡ sum_by (λ x. one_if (nat_eq (slice_index classes x) x)) (range_with_len 0 m)
counted m classes named = grind (arith, nat_tests, length-filter)

small : (n : ℕ) (classes : List ℕ) (x : ℕ) → IsNamed n classes → x < n → slice_index classes x < n
small n classes x named below = omega (arith, named.least x below, below)

pub class_count-alike : (m n : ℕ) (f back : ℕ → ℕ) (first second : List ℕ) → IsNamed m first → IsNamed n second
    → AreAlike m n f back first second → class_count first ≡ class_count second
class_count-alike m n f back first second first_named second_named alike =
    let own : ℕ → ℕ = λ x. one_if (nat_eq (slice_index first x) x) in
    let other : ℕ → ℕ = λ y. one_if (nat_eq (slice_index second y) y) in
    let meets : ℕ → ℕ → ℕ = λ x y. own x * one_if (nat_eq (slice_index second (f x)) y) in
    counted m first first_named
    ∙ sum_by-range_alike own (λ x. sum_by (meets x) (range_with_len 0 n)) 0 m
    (λ x from below.
    let y = slice_index second (f x) in
    sym (sum_by-single (meets x) 0 n y (omega arith)
    (omega (arith, small n second (f x) second_named (alike.below x (omega (arith, below)))))
    (λ z z_from z_below differs. ap (λ b. own x * one_if b) (ne_eqb y z (λ same. differs (sym same))) ∙ nothing (own x))
    ∙ ap (λ b. own x * one_if b) (eq-eqb y y refl) ∙ once (own x)))
    ∙ sum_by-turned meets (range_with_len 0 m) (range_with_len 0 n)
    ∙ sum_by-range_alike (λ y. sum_by (λ x. meets x y) (range_with_len 0 m)) other 0 n
    (λ y from y_below. elim (cases_eq (slice_index second y) y) [
      | inr not_own ↦
          sum_by-none (λ x. meets x y) 0 m
          (λ x x_from x_below.
          ap (λ b. own x * one_if b) (ne_eqb (slice_index second (f x)) y
          (λ same. not_own (ap (slice_index second) (sym same)
          ∙ second_named.own (f x) (alike.below x (omega (arith, x_below))) ∙ same)))
          ∙ nothing (own x))
          ∙ sym (ap one_if (ne_eqb (slice_index second y) y not_own))
      | inl is_own ↦
          let inside : y < n = omega (arith, y_below) in
          let z = back y in
          let z_below = alike.back_below y inside in
          let x0 = slice_index first z in
          let x0_below = small m first z first_named z_below in
          let x0_own = first_named.own z z_below in
          let there : slice_index second (f x0) ≡ y =
          alike.onward x0 z x0_below z_below x0_own ∙ ap (slice_index second) (alike.here y inside) ∙ is_own in
          sum_by-single (λ x. meets x y) 0 m x0 (omega arith) (omega (arith, x0_below))
          (λ x x_from x_below differs. elim (cases_eq (slice_index first x) x) [
            | inr not_name ↦
                ap (λ b. one_if b * one_if (nat_eq (slice_index second (f x)) y)) (ne_eqb (slice_index first x) x not_name)
                ∙ none (one_if (nat_eq (slice_index second (f x)) y))
            | inl name ↦
                ap (λ b. own x * one_if b) (ne_eqb (slice_index second (f x)) y
                (λ same. differs (sym name
                ∙ alike.backward x x0 (omega (arith, x_below)) x0_below (same ∙ sym there) ∙ x0_own)))
                ∙ nothing (own x)
          ])
          ∙ ap₂ (λ a b. one_if a * one_if b) (eq-eqb (slice_index first x0) x0 x0_own) (eq-eqb (slice_index second (f x0)) y there)
          ∙ sym (ap one_if (eq-eqb (slice_index second y) y is_own))
    ])
    ∙ sym (counted n second second_named)
  where
    nothing : (a : ℕ) → a * 0 ≡ 0
    nothing a = omega arith

    none : (a : ℕ) → 0 * a ≡ 0
    none a = omega arith

    once : (a : ℕ) → a * 1 ≡ a
    once a = omega arith

-- pairs of a function over a range
pub respects-at : (g : ℕ → ℕ) (h : ℕ → ℕ × ℕ) (a n : ℕ) → Respects g (map h (range_with_len a n)) → (q : ℕ) → a ≤ q → q < a + n
    → g (h q).0 ≡ g (h q).1
respects-at g h a zero respects q from below = absurd (omega (arith, from, below))
respects-at g h a (suc n) respects q from below = elim (cases_eq q a) [
  | inl is ↦ subst (λ (k : ℕ). g (h k).0 ≡ g (h k).1) (sym is) respects.0
  | inr other ↦ respects-at g h (a + 1) n respects.1 q (omega (arith, from, other)) (omega (arith, below))
]

pub at-respects : (g : ℕ → ℕ) (h : ℕ → ℕ × ℕ) (a n : ℕ) → ((q : ℕ) → a ≤ q → q < a + n → g (h q).0 ≡ g (h q).1)
    → Respects g (map h (range_with_len a n))
at-respects g h a zero each = tt
at-respects g h a (suc n) each =
    (each a (omega arith) (omega arith), at-respects g h (a + 1) n (λ q from below. each q (omega arith) (omega arith)))

pub below-range : (f : ℕ → ℕ × ℕ) (bound a k : ℕ) → ((q : ℕ) → a ≤ q → q < a + k → ((f q).0 < bound) × ((f q).1 < bound))
    → AreBelow bound (map f (range_with_len a k))
below-range f bound a zero below = tt
below-range f bound a (suc k) below =
    (below a (omega arith) (omega arith), below-range f bound (a + 1) k (λ q from inside. below q (omega arith) (omega arith)))
