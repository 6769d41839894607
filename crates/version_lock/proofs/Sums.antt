-- Sums over lists that change at one place, and facts on each element.
use Rattle.std.proofs.Common.{◌≡◌, ℕ, zero, suc, ◌+◌, ◌<◌, ◌≤◌, ◌≢◌, List, [], ◌∷◌, ◌++◌, set, sym, refl, ap, arith}
use mathlib.Core.Option.{some, some-injective, some-ne-none}
use lib.ListN.{get_elem?}
use Rattle.version_lock.specs.Places.{total, Each, IsAscending}

module _ {A : Type 0} where
  pub Each-map : (P Q : A → Type 0) → ((a : A) → P a → Q a) → (xs : List A) → Each P xs → Each Q xs
  Each-map P Q f [] h = tt
  Each-map P Q f (x ∷ xs) h = (f x h.0, Each-map P Q f xs h.1)

  pub Each-push : (P : A → Type 0) (xs : List A) (a : A) → Each P xs → P a → Each P (xs ++ a ∷ [])
  Each-push P [] a h p = (p, tt)
  Each-push P (x ∷ xs) a h p = (h.0, Each-push P xs a h.1 p)

  module _ (g : A → ℕ) where
    pub total-append : (l m : List A) → total g (l ++ m) ≡ total g l + total g m
    total-append [] m = omega arith
    total-append (x ∷ xs) m = omega (arith, total-append xs m)

    pub total-set : (l : List A) (j : ℕ) (v w : A) → get_elem? l j ≡ some v → total g (set l j w) + g v ≡ total g l + g w
    total-set [] j v w e = absurd (some-ne-none v (sym e))
    total-set (x ∷ xs) zero v w e = omega (arith, ap g (some-injective x v e))
    total-set (x ∷ xs) (suc j) v w e = omega (arith, total-set xs j v w e)

    pub term_le : (l : List A) (j : ℕ) (v : A) → get_elem? l j ≡ some v → g v ≤ total g l
    term_le [] j v e = absurd (some-ne-none v (sym e))
    term_le (x ∷ xs) zero v e = omega (arith, ap g (some-injective x v e))
    term_le (x ∷ xs) (suc j) v e = omega (arith, term_le xs j v e)

    pub terms_le : (l : List A) (j k : ℕ) (v u : A) → k ≢ j → get_elem? l j ≡ some v → get_elem? l k ≡ some u → g v + g u ≤ total g l
    terms_le [] j k v u n e d = absurd (some-ne-none v (sym e))
    terms_le (x ∷ xs) zero zero v u n e d = absurd (n refl)
    terms_le (x ∷ xs) zero (suc k) v u n e d = omega (arith, ap g (some-injective x v e), term_le xs k u d)
    terms_le (x ∷ xs) (suc j) zero v u n e d = omega (arith, ap g (some-injective x u d), term_le xs j v e)
    terms_le (x ∷ xs) (suc j) (suc k) v u n e d = omega (arith, terms_le xs j k v u (λ h. n (ap suc h)) e d)

pub IsAscending-push : (xs : List ℕ) (n : ℕ) → IsAscending xs → Each (λ x. x < n) xs → IsAscending (xs ++ n ∷ [])
IsAscending-push [] n h b = (tt, tt)
IsAscending-push (x ∷ xs) n h b = (Each-push (λ y. x < y) xs n h.0 b.0, IsAscending-push xs n h.1 b.1)

module _ {A : Type 0} (f g : A → ℕ) where
  pub total-zero : (l : List A) → total f l ≡ 0 → ((j : ℕ) (u : A) → get_elem? l j ≡ some u → f u ≡ 0 → g u ≡ 0) → total g l ≡ 0
  total-zero [] z h = refl
  total-zero (x ∷ xs) z h = omega (arith, h 0 x refl (omega (arith, z)), total-zero xs (omega (arith, z)) (λ j u e. h (suc j) u e))

  -- one element has the whole sum of f, so it has the whole sum of g
  pub total-alone : (l : List A) (j : ℕ) (v : A) → get_elem? l j ≡ some v → total f l ≡ f v → ((k : ℕ) (u : A) → get_elem? l k ≡ some u → f u ≡ 0 → g u ≡ 0) → total g l ≡ g v
  total-alone [] j v e z h = absurd (some-ne-none v (sym e))
  total-alone (x ∷ xs) zero v e z h = omega (arith, ap g (some-injective x v e), total-zero xs (omega (arith, z, ap f (some-injective x v e))) (λ k u d. h (suc k) u d))
  total-alone (x ∷ xs) (suc j) v e z h = let least = term_le f xs j v e in
      omega (arith, h 0 x refl (omega (arith, z, least)), total-alone xs j v e (omega (arith, z, least)) (λ k u d. h (suc k) u d))
