-- What holds of all images of a range, and of each.
use Rattle.std.proofs.lemmas.Bool.Decides.{nat_tests}
use Rattle.std.proofs.Common.{◌≡◌, ℕ, zero, suc, inl, inr, ◌+◌, ◌<◌, ◌≤◌, map, refl, subst, arith}
use Rattle.std.specs.List.{AllByRecursion, range_with_len}
use Rattle.std.proofs.lemmas.Bool.{cases_eq}

-- what holds of each image of a range holds of all
pub all-map_range : {X : Type 0} (P : X → Type 0) (f : ℕ → X) (a n : ℕ) → ((k : ℕ) → k < a + n → P (f k))
    → AllByRecursion P (map f (range_with_len a n))
all-map_range P f a zero holds = tt
all-map_range P f a (suc n) holds = grind (arith, nat_tests, all-map_range P f (a + 1) n (λ k below. holds k (omega (arith, below))))

-- what holds of all images of a range holds of each
pub map_range-at : {X : Type 0} (P : X → Type 0) (f : ℕ → X) (a n k : ℕ) → AllByRecursion P (map f (range_with_len a n)) → a ≤ k → k < a + n
    → P (f k)
map_range-at P f a zero k holds from below = absurd (omega (arith, from, below))
map_range-at P f a (suc n) k holds from below = elim (cases_eq a k) [
  | inl same ↦ subst (λ (m : ℕ). P (f m)) same holds.0
  | inr apart ↦ map_range-at P f (a + 1) n k holds.1 (omega (arith, from, apart)) (omega (arith, below))
]

-- functions that agree on a range have the same images
pub map_range-agree : {X : Type 0} (f g : ℕ → X) (a n : ℕ) → ((k : ℕ) → k < a + n → f k ≡ g k)
    → map f (range_with_len a n) ≡ map g (range_with_len a n)
map_range-agree f g a zero same = refl
map_range-agree {X} f g a (suc n) same = grind (arith, nat_tests, map_range-agree f g (a + 1) n (λ k below. same k (omega (arith, below))))
