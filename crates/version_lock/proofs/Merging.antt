-- Ascending lists that are merged.
use Rattle.std.proofs.Common.{◌≡◌, ◌≢◌, ℕ, Bool, true, false, ◌+◌, ◌<◌, ◌≤◌, ◌⊎◌, inl, inr, List, [], ◌∷◌, length, refl, ap, arith, nat_lt, nat_le, nat_eq, if◌then◌else◌, eq-eqb, ne_eqb}
use Rattle.std.proofs.lemmas.Bool.{ltb-true, ltb-false, leb-true, leb-false}
use native.Mathlib.Decide.{ℕ_discrete}
use mathlib.Core.Logic.{dite}
use Rattle.kh_types.specs.Bits.{one_if}
use Rattle.version_lock.specs.Places.{Each, IsAscending, copies, inserted, merged_places, longer}
use Rattle.kh_types.proofs.Prefixes.{prefix_shorter}
use mathlib.Core.List.{IsPrefix}
use Rattle.version_lock.proofs.Sums.{Each-map}

Each-inserted : (P : ℕ → Type 0) (n : ℕ) (xs : List ℕ) → P n → Each P xs → Each P (inserted n xs)
Each-inserted P n [] p h = (p, tt)
Each-inserted P n (x ∷ xs) p h = by_case (Each-inserted P n xs p h.1) (nat_lt n x) where
  by_case : Each P (inserted n xs) → (b : Bool) → Each P (if b then n ∷ x ∷ xs else x ∷ inserted n xs)
  by_case below true = (p, h)
  by_case below false = (h.0, below)

pub Each-merged_places : (P : ℕ → Type 0) (xs ys : List ℕ) → Each P xs → Each P ys → Each P (merged_places xs ys)
Each-merged_places P [] ys h k = k
Each-merged_places P (x ∷ xs) ys h k = Each-inserted P x (merged_places xs ys) h.0 (Each-merged_places P xs ys h.1 k)

copies-inserted : (place n : ℕ) (xs : List ℕ) → copies place (inserted n xs) ≡ one_if (nat_eq n place) + copies place xs
copies-inserted place n [] = refl
copies-inserted place n (x ∷ xs) = by_case (copies-inserted place n xs) (nat_lt n x) where
  by_case : copies place (inserted n xs) ≡ one_if (nat_eq n place) + copies place xs → (b : Bool)
      → copies place (if b then n ∷ x ∷ xs else x ∷ inserted n xs) ≡ one_if (nat_eq n place) + (one_if (nat_eq x place) + copies place xs)
  by_case below true = refl
  by_case below false = omega (arith, below)

length-inserted : (n : ℕ) (xs : List ℕ) → length (inserted n xs) ≡ length xs + 1
length-inserted n [] = refl
length-inserted n (x ∷ xs) = by_case (length-inserted n xs) (nat_lt n x) where
  by_case : length (inserted n xs) ≡ length xs + 1 → (b : Bool) → length (if b then n ∷ x ∷ xs else x ∷ inserted n xs) ≡ length (x ∷ xs) + 1
  by_case rest true = omega arith
  by_case rest false = omega (arith, rest)

pub length-merged_places : (xs ys : List ℕ) → length (merged_places xs ys) ≡ length xs + length ys
length-merged_places [] ys = omega arith
length-merged_places (x ∷ xs) ys = omega (arith, length-inserted x (merged_places xs ys), length-merged_places xs ys)

pub copies-merged_places : (place : ℕ) (xs ys : List ℕ) → copies place (merged_places xs ys) ≡ copies place xs + copies place ys
copies-merged_places place [] ys = omega arith
copies-merged_places place (x ∷ xs) ys = omega (arith, copies-inserted place x (merged_places xs ys), copies-merged_places place xs ys)

pub copies-none : (place : ℕ) (xs : List ℕ) → Each (λ x. x ≢ place) xs → copies place xs ≡ 0
copies-none place [] h = refl
copies-none place (x ∷ xs) h = omega (arith, ap one_if (ne_eqb x place h.0), copies-none place xs h.1)

pub copies-ascending : (place : ℕ) (xs : List ℕ) → IsAscending xs → copies place xs ≤ 1
copies-ascending place [] h = omega arith
copies-ascending place (x ∷ xs) h = dite (ℕ_discrete x place)
    (λ e. omega (arith, ap one_if (eq-eqb x place e), copies-none place xs (Each-map (λ y. x < y) (λ y. y ≢ place) (λ y l same. omega (arith, l, same, e)) xs h.0)))
    (λ n. omega (arith, ap one_if (ne_eqb x place n), copies-ascending place xs h.1))

IsAscending-inserted : (n : ℕ) (xs : List ℕ) → copies n xs ≡ 0 → IsAscending xs → IsAscending (inserted n xs)
IsAscending-inserted n [] z h = (tt, tt)
IsAscending-inserted n (x ∷ xs) z h = by_case (IsAscending-inserted n xs (omega (arith, z)) h.1) (nat_lt n x) refl where
  by_case : IsAscending (inserted n xs) → (b : Bool) → nat_lt n x ≡ b → IsAscending (if b then n ∷ x ∷ xs else x ∷ inserted n xs)
  by_case below true e = let less : n < x = ltb-true n x e in ((less, Each-map (λ y. x < y) (λ y. n < y) (λ y l. omega (arith, l, less)) xs h.0), h)
  by_case below false e = let more : x ≤ n = ltb-false n x e in let apart : x ≢ n = λ same. omega (arith, z, ap one_if (eq-eqb x n same)) in
      (Each-inserted (λ y. x < y) n xs (omega (arith, more, apart)) h.0, below)

pub IsAscending-merged_places : (xs ys : List ℕ) → ((place : ℕ) → copies place xs + copies place ys ≤ 1) → IsAscending xs → IsAscending ys → IsAscending (merged_places xs ys)
IsAscending-merged_places [] ys once h k = k
IsAscending-merged_places (x ∷ xs) ys once h k = IsAscending-inserted x (merged_places xs ys) (omega (arith, once x, ap one_if (eq-eqb x x refl), copies-merged_places x xs ys))
    (IsAscending-merged_places xs ys (λ place. omega (arith, once place)) h.1 k)

-- of two beginnings of one list the longer is kept
pub longer_seen : {E : Type 0} (xs ys log new : List E) → new ≡ longer xs ys → IsPrefix xs log → IsPrefix ys log → ((new ≡ xs) × IsPrefix ys xs) ⊎ ((new ≡ ys) × IsPrefix xs ys)
longer_seen {E} xs ys log new e p q = by_case (nat_le (length ys) (length xs)) refl e where
  by_case : (b : Bool) → nat_le (length ys) (length xs) ≡ b → new ≡ (if b then xs else ys) → ((new ≡ xs) × IsPrefix ys xs) ⊎ ((new ≡ ys) × IsPrefix xs ys)
  by_case true l e = inl (e, prefix_shorter ys xs log q p (leb-true _ _ l))
  by_case false l e = let m = leb-false _ _ l in inr (e, prefix_shorter xs ys log p q (omega (arith, m)))

pub apart : (place : ℕ) (xs ys zs : List ℕ) → zs ≡ merged_places xs ys → IsAscending zs → copies place xs + copies place ys ≤ 1
apart place xs ys zs e h = omega (arith, copies-ascending place zs h, ap (copies place) e, copies-merged_places place xs ys)
