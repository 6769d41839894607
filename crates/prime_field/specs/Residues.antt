-- The numbers modulo p as a field: sums, negatives, products and inverses of residues (any textbook of algebra).
use Rattle.std.specs.Prelude.{◌≡◌, ◌≢◌, ℕ, ◌+◌, ◌-◌, ◌*◌, ◌%◌, ◌^◌, ◌<◌, ◌⊎◌}

-- the sum of x and y modulo p
abbrev pub sum_mod : ℕ → ℕ → ℕ → ℕ
sum_mod p x y = (x + y) % p

-- the negative of x modulo p
abbrev pub negative_mod : ℕ → ℕ → ℕ
negative_mod p x = (p - x % p) % p

-- the product of x and y modulo p
abbrev pub product_mod : ℕ → ℕ → ℕ → ℕ
product_mod p x y = x * y % p

-- the inverse of x modulo a prime p: its power p - 2, by Fermat's theorem
abbrev pub inverse_mod : ℕ → ℕ → ℕ
inverse_mod p x = x ^ (p - 2) % p

-- p is 2, 3, 5 or 7
abbrev pub IsSmallPrime : ℕ → Type 0
IsSmallPrime p = (p ≡ 2) ⊎ ((p ≡ 3) ⊎ ((p ≡ 5) ⊎ (p ≡ 7)))

-- p is above 1, and the numbers below p are a field under sums and products modulo p
pub record IsField (p : ℕ) : Type 0 where
  pub above_one : 1 < p
  pub sums_associate : (x y z : ℕ) → sum_mod p (sum_mod p x y) z ≡ sum_mod p x (sum_mod p y z)
  pub sums_commute : (x y : ℕ) → sum_mod p x y ≡ sum_mod p y x
  pub zero_adds_nothing : (x : ℕ) → x < p → sum_mod p x 0 ≡ x
  pub negatives_cancel : (x : ℕ) → sum_mod p x (negative_mod p x) ≡ 0
  pub products_associate : (x y z : ℕ) → product_mod p (product_mod p x y) z ≡ product_mod p x (product_mod p y z)
  pub products_commute : (x y : ℕ) → product_mod p x y ≡ product_mod p y x
  pub one_changes_nothing : (x : ℕ) → x < p → product_mod p x 1 ≡ x
  pub products_distribute : (x y z : ℕ) → product_mod p x (sum_mod p y z) ≡ sum_mod p (product_mod p x y) (product_mod p x z)
  pub inverses_cancel : (x : ℕ) → x % p ≢ 0 → product_mod p x (inverse_mod p x) ≡ 1
