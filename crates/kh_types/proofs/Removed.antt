-- A list after one of its elements is removed, and a matrix after a row and a column of zeros are.
use Rattle.std.proofs.lemmas.Bool.Decides.{nat_tests}
use Rattle.std.proofs.Common.{◌≡◌, ℕ, zero, suc, ◌+◌, ◌*◌, ◌≤◌, ◌<◌, ◌⊎◌, inl, inr, List, [], ◌∷◌, get_or, refl, ap, arith}
use Rattle.std.specs.List.{remove}
use Rattle.kh_types.specs.Residues.{Same}
use Rattle.kh_types.specs.Products.{sum_below, Factors}
use Rattle.kh_types.specs.MatrixRanks.{HasRank}
use Rattle.kh_types.proofs.Sums.{sum_below-zeros}
use Rattle.kh_types.proofs.PivotLemmas.{rank-like}

-- the place that an element had, before the element at a place was removed
abbrev pub place_before : ℕ → ℕ → ℕ
place_before zero k = suc k
place_before (suc a) zero = zero
place_before (suc a) (suc k) = suc (place_before a k)

pub place_before-below : (a k n : ℕ) → k + 1 < n → place_before a k < n
place_before-below a k n below = omega (arith, at_most a k)
  where
    at_most : (a k : ℕ) → place_before a k ≤ k + 1
    at_most zero k = omega arith
    at_most (suc a) zero = omega arith
    at_most (suc a) (suc k) = omega (arith, at_most a k)

pub get_or-remove : {X : Type 0} (xs : List X) (a k : ℕ) (d : X) → get_or (remove xs a) k d ≡ get_or xs (place_before a k) d
get_or-remove [] zero k d = refl
get_or-remove [] (suc a) k d = refl
get_or-remove (x ∷ xs) zero k d = refl
get_or-remove (x ∷ xs) (suc a) zero d = refl
get_or-remove (x ∷ xs) (suc a) (suc k) d = get_or-remove xs a k d

-- a place is the one removed, or it stands there after
abbrev pub Placed : ℕ → ℕ → Type 0
Placed a i = (i ≡ a) ⊎ ((k : ℕ) × (place_before a k ≡ i))

pub placed : (a i : ℕ) → Placed a i
placed zero zero = inl refl
placed zero (suc i) = inr (i, refl)
placed (suc a) zero = inr (0, refl)
placed (suc a) (suc i) = placed_later a i (placed a i)
  where
    placed_later : (a i : ℕ) → Placed a i → Placed (suc a) (suc i)
    placed_later a i (inl same) = inl (ap suc same)
    placed_later a i (inr later) = inr (suc later.0, ap suc later.1)

-- the value at a place, 0 at the one removed
abbrev filled : (a i : ℕ) → Placed a i → (ℕ → ℕ) → ℕ
filled a i (inl same) f = 0
filled a i (inr later) f = f later.0

-- the matrix without a row and a column
abbrev pub without : ℕ → ℕ → (ℕ → ℕ → ℕ) → ℕ → ℕ → ℕ
without a b matrix row column = matrix (place_before a row) (place_before b column)

factors-without : (p s a b : ℕ) (M : ℕ → ℕ → ℕ) → Factors p M s → Factors p (without a b M) s
factors-without p s a b M f =
    record {
      left = λ i k. f.left (place_before a i) k;
      right = λ k j. f.right k (place_before b j);
      product = λ i j. f.product (place_before a i) (place_before b j);
    }

factors-filled : (p s a b : ℕ) (M : ℕ → ℕ → ℕ) → ((j : ℕ) → Same p (M a j) 0) → ((i : ℕ) → Same p (M i b) 0)
    → Factors p (without a b M) s → Factors p M s
factors-filled p s a b M row column f =
    record {
      left = λ i k. filled a i (placed a i) (λ l. f.left l k);
      right = λ k j. filled b j (placed b j) (λ l. f.right k l);
      product = λ i j. at i j (placed a i) (placed b j);
    }
  where
    at : (i j : ℕ) (row_placed : Placed a i) (column_placed : Placed b j)
        → Same p (sum_below s (λ k. filled a i row_placed (λ l. f.left l k) * filled b j column_placed (λ l. f.right k l))) (M i j)
    at i j (inl same) column_placed = grind (arith, nat_tests, sum_below-zeros)
    at i j (inr later) (inl same) = grind (arith, nat_tests, sum_below-zeros)
    at i j (inr later) (inr after) = grind (arith, nat_tests)

-- a row and a column of zeros do not count
pub rank-without : (p r a b : ℕ) (M : ℕ → ℕ → ℕ) → ((j : ℕ) → Same p (M a j) 0) → ((i : ℕ) → Same p (M i b) 0)
    → HasRank p (without a b M) r → HasRank p M r
rank-without p r a b M row column = grind (arith, nat_tests, rank-like, factors-filled, factors-without)
