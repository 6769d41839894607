-- Searches and tests, in general.
use Rattle.std.proofs.lemmas.Bool.Decides.{nat_tests}
use Rattle.std.proofs.Common.{◌≡◌, ◌≢◌, ℕ, zero, suc, inl, inr, ◌+◌, ◌<◌, ◌≤◌, ◌∙◌, ℤ, List, [], ◌∷◌, map, refl, ap, arith, Bool, true, false, ◌||◌}
use Rattle.std.specs.Prelude.{Some, cond, MatchBool}
use Rattle.std.specs.List.{find, list_any, range_with_len}
use Rattle.std.proofs.lemmas.Bool.{cases_Bool, both_ways}
use Rattle.kh_types.proofs.RangeCounts.{list_any-one}

-- one of two facts, by a test
pub matched_true : (b : Bool) (P Q : Type 0) → MatchBool b P Q → b ≡ true → P
matched_true b P Q is holds = grind (arith, nat_tests)

pub matched_false : (b : Bool) (P Q : Type 0) → MatchBool b P Q → b ≡ false → Q
matched_false b P Q is fails = grind (arith, nat_tests)

-- the first number of a range that passes
pub find-first : (p : ℕ → Bool) (a n k : ℕ) → a ≤ k → k < a + n → p k ≡ true → ((j : ℕ) → a ≤ j → j < k → p j ≡ false)
    → find p (range_with_len a n) ≡ Some k
find-first p a zero k from below passes fails = absurd (omega (arith, from, below))
find-first p a (suc n) k from below passes fails = elim (cases_Bool (p a)) [
  | inl here ↦
      let same : a ≡ k = only a k (p a) here from (λ before. fails a (omega arith) before) in
      ap (λ b. cond b (Some a) (find p (range_with_len (a + 1) n))) here ∙ ap Some same
  | inr not_here ↦
      let differ : a ≢ k = λ same. both_ways (p a) not_here (ap p same ∙ passes) in
      ap (λ b. cond b (Some a) (find p (range_with_len (a + 1) n))) not_here
      ∙ find-first p (a + 1) n k (omega (arith, from, differ)) (omega (arith, below)) passes
      (λ j j_from before. fails j (omega (arith, j_from)) before)
]
  where
    only : (x y : ℕ) (b : Bool) → b ≡ true → x ≤ y → (x < y → b ≡ false) → x ≡ y
    only x y b pass from fail = grind (arith, nat_tests)

-- a test that no number of a range passes, nor what a function makes of one
pub list_any-map : (p : ℤ → Bool) (f : ℕ → ℤ) (xs : List ℕ) → list_any p (map f xs) ≡ list_any (λ x. p (f x)) xs
list_any-map p f [] = refl
list_any-map p f (x ∷ xs) = ap (λ b. p (f x) || b) (list_any-map p f xs)

pub list_any-none : (p : ℕ → Bool) (a n : ℕ) → ((x : ℕ) → a ≤ x → x < a + n → p x ≡ false) → list_any p (range_with_len a n) ≡ false
list_any-none p a n fails = grind (arith, nat_tests, cases_Bool, list_any-one, both_ways)
