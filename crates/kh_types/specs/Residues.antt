-- Numbers modulo p.
use Rattle.std.specs.Prelude.{◌≡◌, ◌≢◌, ℕ, ◌*◌, ◌%◌, ◌<◌}
use Rattle.kh_types.specs.Rank.{inverse}

-- x and y have the same remainder modulo p
abbrev pub Same : ℕ → ℕ → ℕ → Type 0
Same p x y = x % p ≡ y % p

-- p is above 1, and what is not 0 modulo p has its power p - 2 for an inverse, as modulo each prime (Fermat's theorem)
pub record HasInverses (p : ℕ) : Type 0 where
  pub above_one : 1 < p
  pub inverses_cancel : (x : ℕ) → x % p ≢ 0 → x * inverse p x % p ≡ 1
