-- A test that agrees on a range keeps the same numbers, and what holds of each list holds of all put together.
use Rattle.std.proofs.Common.{◌≡◌, ℕ, suc, ◌+◌, ◌<◌, ◌≤◌, List, [], ◌∷◌, sym, length, get_or, subst, arith}
use Rattle.std.proofs.Common.{Bool}
use Rattle.std.specs.List.{filter, flat_map, enumerate_from, range_with_len, AllByRecursion}
use Rattle.kh_types.proofs.Lists.{filter-range_agree, AllByRecursion-append}

pub filter-same : (p q : ℕ → Bool) (a n : ℕ) → ((x : ℕ) → a ≤ x → x < a + n → q x ≡ p x)
    → filter q (range_with_len a n) ≡ filter p (range_with_len a n)
filter-same p q a n same = filter-range_agree q p a n same

pub all_from : (P : ℕ × ℕ → Type 0) (g : ℕ × List ℕ → List (ℕ × ℕ)) (at : ℕ) (xs : List (List ℕ))
    → ((k : ℕ) → k < length xs → AllByRecursion P (g (at + k, get_or xs k []))) → AllByRecursion P (flat_map g (enumerate_from at xs))
all_from P g at [] holds = tt
all_from P g at (x ∷ xs) holds =
    let none : at + 0 ≡ at = omega arith in
    AllByRecursion-append P (g (at, x)) (flat_map g (enumerate_from (at + 1) xs))
    (subst (λ (n : ℕ). AllByRecursion P (g (n, x))) none (holds 0 (omega arith)))
    (all_from P g (at + 1) xs
    (λ k below.
    let one : at + 1 + k ≡ at + suc k = omega arith in
    subst (λ (n : ℕ). AllByRecursion P (g (n, get_or xs k []))) (sym one) (holds (suc k) (omega arith))))
