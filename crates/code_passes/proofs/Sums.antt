-- Sums over lists, and of a function that is 0 but at one number of a range.
use Rattle.std.proofs.lemmas.Bool.Decides.{nat_tests}
use Rattle.std.proofs.Common.{◌≡◌, ◌≢◌, ℕ, zero, suc, inl, inr, ◌+◌, ◌*◌, ◌<◌, ◌≤◌, ◌∙◌, List, [], ◌∷◌, length, refl, sym, ap, arith, Bool, false, cond}
use Rattle.std.specs.Prelude.{nat_eq}
use Rattle.std.specs.List.{sum_by, count_by, list_any, range_with_len}
use Rattle.std.proofs.lemmas.Bool.{cases_eq, eq-eqb, ne_eqb, or_parts}
use Rattle.std.proofs.lemmas.List.Sums.{sum_by-cons}

pub sum_by-none : {X : Type 0} (xs : List X) → sum_by (λ x. 0) xs ≡ 0
sum_by-none [] = refl
sum_by-none (x ∷ xs) = omega (arith, sum_by-cons (λ y. 0) x xs, sum_by-none xs)

pub sum_by-ones : {X : Type 0} (xs : List X) → sum_by (λ x. 1) xs ≡ length xs
sum_by-ones [] = refl
sum_by-ones (x ∷ xs) = omega (arith, sum_by-cons (λ y. 1) x xs, sum_by-ones xs)

-- a value where a test holds, and else 0
abbrev pub value_if : ℕ → Bool → ℕ
value_if value holds = cond holds value 0

-- a function that has a value at one number, and is 0 at all others
abbrev pub only_at : ℕ → ℕ → ℕ → ℕ
only_at k value x = value_if value (nat_eq x k)

sum-only_past : (k value a n : ℕ) → k < a → sum_by (only_at k value) (range_with_len a n) ≡ 0
sum-only_past k value a zero past = refl
sum-only_past k value a (suc n) past = grind (arith, nat_tests, ne_eqb, sum_by-cons, sum-only_past k value (a + 1) n (omega (arith, past)))

pub sum-only : (k value a n : ℕ) → a ≤ k → k < a + n → sum_by (only_at k value) (range_with_len a n) ≡ value
sum-only k value a zero from below = absurd (omega (arith, from, below))
sum-only k value a (suc n) from below = elim (cases_eq a k) [
  | inl same ↦
      let one : only_at k value a ≡ value = ap (value_if value) (eq-eqb a k same) in
      omega (
        arith,
        one,
        sum-only_past k value (a + 1) n (omega (arith, same)),
        sum_by-cons (only_at k value) a (range_with_len (a + 1) n),
      )
  | inr other ↦
      let none : only_at k value a ≡ 0 = ap (value_if value) (ne_eqb a k other) in
      let later : a + 1 ≤ k = after a k from other in
      omega (
        arith,
        none,
        sum-only k value (a + 1) n later (omega (arith, below)),
        sum_by-cons (only_at k value) a (range_with_len (a + 1) n),
      )
]
  where
    after : (x y : ℕ) → x ≤ y → x ≢ y → x + 1 ≤ y
    after x y le other = omega arith

-- n numbers that are at most 2 and together 2n are each 2
pub sum-at_most_two : (f : ℕ → ℕ) (a n : ℕ) → ((k : ℕ) → a ≤ k → k < a + n → f k ≤ 2)
    → sum_by f (range_with_len a n) ≤ 2 * n
sum-at_most_two f a zero most = omega arith
sum-at_most_two f a (suc n) most =
    grind (arith, nat_tests, sum_by-cons, sum-at_most_two f (a + 1) n (λ k from below. most k (omega (arith, from)) (omega (arith, below))))

pub each-two : (f : ℕ → ℕ) (a n : ℕ) → ((k : ℕ) → a ≤ k → k < a + n → f k ≤ 2) → 2 * n ≤ sum_by f (range_with_len a n)
    → (k : ℕ) → a ≤ k → k < a + n → f k ≡ 2
each-two f a zero most all k from below = absurd (omega (arith, from, below))
each-two f a (suc n) most all k from below =
    let later : (j : ℕ) → a + 1 ≤ j → j < a + 1 + n → f j ≤ 2 =
    λ j j_from j_below. most j (omega (arith, j_from)) (omega (arith, j_below)) in
    let cut = sum_by-cons f a (range_with_len (a + 1) n) in
    let here = most a (omega arith) (omega arith) in
    elim (cases_eq a k) [
      | inl same ↦
          let first : f a ≡ 2 = omega (arith, all, cut, here, sum-at_most_two f (a + 1) n later) in ap f (sym same) ∙ first
      | inr other ↦ each-two f (a + 1) n later (omega (arith, all, cut, here)) k (omega (arith, from, other)) (omega (arith, below))
    ]

-- where no element passes, none is counted
pub count_by-none : {X : Type 0} (p : X → Bool) (xs : List X) → list_any p xs ≡ false → count_by p xs ≡ 0
count_by-none p [] none = refl
count_by-none p (x ∷ xs) none =
    let both = or_parts (p x) (list_any p xs) none in
    let here : value_if 1 (p x) ≡ 0 = ap (value_if 1) both.0 in
    omega (arith, here, sum_by-cons (λ y. cond (p y) 1 0) x xs, count_by-none p xs both.1)
