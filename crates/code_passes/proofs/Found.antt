-- A search by a test (`find`), where one element meets it or some do; for CrossingPasses.
use Rattle.std.proofs.lemmas.Bool.Decides.{nat_tests}
use Rattle.std.proofs.Common.{◌≡◌, ℕ, zero, suc, inl, inr, ◌+◌, ◌<◌, ◌∙◌, List, [], ◌∷◌, length, get_or, refl, sym, subst, ap, arith, Bool, true, false, cond, unwrap_or}
use Rattle.std.specs.Prelude.{Some}
use Rattle.std.specs.List.{find, sum_by, count_by, AllByRecursion}
use Rattle.std.proofs.lemmas.Bool.{cases_Bool}
use Rattle.std.proofs.lemmas.List.Sums.{sum_by-cons, get_or-le-sum_by}
use Rattle.code_passes.proofs.Sums.{value_if}

-- the element that a search finds, and a default where it finds none
abbrev pub found : {X : Type 0} → (X → Bool) → List X → X → X
found p xs default = unwrap_or (find p xs) default

module _ {X : Type 0} (p : X → Bool) (default : X) where
  first-found : (x : X) (xs : List X) → p x ≡ true → found p (x ∷ xs) default ≡ x
  first-found x xs passes = ap (λ b. unwrap_or (cond b (Some x) (find p xs)) default) passes

  later-found : (x : X) (xs : List X) → p x ≡ false → found p (x ∷ xs) default ≡ found p xs default
  later-found x xs fails = ap (λ b. unwrap_or (cond b (Some x) (find p xs)) default) fails

  first-counted : (x : X) (xs : List X) → p x ≡ true → count_by p (x ∷ xs) ≡ 1 + count_by p xs
  first-counted x xs passes = sum_by-cons (λ y. value_if 1 (p y)) x xs ∙ ap (λ b. value_if 1 b + count_by p xs) passes

  later-counted : (x : X) (xs : List X) → p x ≡ false → count_by p (x ∷ xs) ≡ count_by p xs
  later-counted x xs fails = grind (arith, nat_tests)

  -- what is found meets the test, and has any property that all have
  pub found-passes : (xs : List X) → 0 < count_by p xs → p (found p xs default) ≡ true
  found-passes [] some = absurd (omega (arith, some))
  found-passes (x ∷ xs) some = elim (cases_Bool (p x)) [
    | inl passes ↦ ap p (first-found x xs passes) ∙ passes
    | inr fails ↦ ap p (later-found x xs fails) ∙ found-passes xs (omega (arith, some, later-counted x xs fails))
  ]

  pub found-holds : (P : X → Type 0) (xs : List X) → AllByRecursion P xs → 0 < count_by p xs → P (found p xs default)
  found-holds P [] all some = absurd (omega (arith, some))
  found-holds P (x ∷ xs) all some = elim (cases_Bool (p x)) [
    | inl passes ↦ subst P (sym (first-found x xs passes)) all.0
    | inr fails ↦ subst P (sym (later-found x xs fails))
        (found-holds P xs all.1 (omega (arith, some, later-counted x xs fails)))
  ]

  -- a sum over those that pass
  sum-none : (f : X → ℕ) (xs : List X) → count_by p xs ≡ 0 → sum_by (λ x. value_if (f x) (p x)) xs ≡ 0
  sum-none f [] none = refl
  sum-none f (x ∷ xs) none = elim (cases_Bool (p x)) [
    | inl passes ↦ absurd (omega (arith, none, first-counted x xs passes))
    | inr fails ↦
        let here : value_if (f x) (p x) ≡ 0 = ap (value_if (f x)) fails in
        omega (
          arith,
          here,
          sum-none f xs (omega (arith, none, later-counted x xs fails)),
          sum_by-cons (λ y. value_if (f y) (p y)) x xs,
        )
  ]

  pub sum-found : (f : X → ℕ) (xs : List X) → count_by p xs ≡ 1 → sum_by (λ x. value_if (f x) (p x)) xs ≡ f (found p xs default)
  sum-found f [] one = absurd (omega (arith, one))
  sum-found f (x ∷ xs) one = elim (cases_Bool (p x)) [
    | inl passes ↦
        let here : value_if (f x) (p x) ≡ f x = ap (value_if (f x)) passes in
        omega (
          arith,
          here,
          sum-none f xs (omega (arith, one, first-counted x xs passes)),
          sum_by-cons (λ y. value_if (f y) (p y)) x xs,
          ap f (first-found x xs passes),
        )
    | inr fails ↦
        let here : value_if (f x) (p x) ≡ 0 = ap (value_if (f x)) fails in
        omega (
          arith,
          here,
          sum-found f xs (omega (arith, one, later-counted x xs fails)),
          sum_by-cons (λ y. value_if (f y) (p y)) x xs,
          ap f (later-found x xs fails),
        )
  ]

  -- where only one passes, it is found
  some-counted : (xs : List X) (at : ℕ) (d : X) → at < length xs → p (get_or xs at d) ≡ true → 0 < count_by p xs
  some-counted xs at d below passes = grind (arith, nat_tests, value_if, get_or-le-sum_by)

  pub found-only : (xs : List X) (at : ℕ) (d : X) → count_by p xs ≡ 1 → at < length xs → p (get_or xs at d) ≡ true
      → found p xs default ≡ get_or xs at d
  found-only [] at d one below passes = absurd (omega (arith, below))
  found-only (x ∷ xs) zero d one below passes = first-found x xs passes
  found-only (x ∷ xs) (suc at) d one below passes = elim (cases_Bool (p x)) [
    | inl first ↦
        absurd (omega (arith, one, first-counted x xs first, some-counted xs at d (omega (arith, below)) passes))
    | inr fails ↦ later-found x xs fails
        ∙ found-only xs at d (omega (arith, one, later-counted x xs fails)) (omega (arith, below)) passes
  ]
