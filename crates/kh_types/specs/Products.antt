-- Products of matrices modulo p. A matrix is here its entries by row and column, with 0 past its end, so that it needs no size.
use Rattle.std.specs.Prelude.{ℕ, zero, suc, ◌+◌, ◌*◌}
use Rattle.kh_types.specs.Residues.{Same}

-- the sum of f at the numbers below n
abbrev pub sum_below : ℕ → (ℕ → ℕ) → ℕ
sum_below zero f = 0
sum_below (suc n) f = f 0 + sum_below n (λ k. f (suc k))

-- an entry of the product of two matrices with n columns in the first and n rows in the second
abbrev pub product_at : ℕ → (ℕ → ℕ → ℕ) → (ℕ → ℕ → ℕ) → ℕ → ℕ → ℕ
product_at n left right row column = sum_below n (λ k. left row k * right k column)

-- the matrix is a product with s columns in the first factor and s rows in the second
pub record Factors (p : ℕ) (matrix : ℕ → ℕ → ℕ) (s : ℕ) : Type 0 where
  pub left : ℕ → ℕ → ℕ
  pub right : ℕ → ℕ → ℕ
  pub product : (row column : ℕ) → Same p (product_at s left right row column) (matrix row column)
