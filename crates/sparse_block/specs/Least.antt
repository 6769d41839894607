-- The least number of which something holds, found or not.
use Rattle.std.specs.Prelude.{ℕ, ◌≤◌, Option, MatchOption}

-- the least number of which this holds
pub record IsLeast (P : ℕ → Type 0) (least : ℕ) : Type 0 where
  pub holds : P least
  pub first : (n : ℕ) → P n → least ≤ n

-- a number is found where there is one of which this holds, and it is the least
abbrev pub FindsLeast : (ℕ → Type 0) → Option ℕ → Type 0
FindsLeast P found = MatchOption found ((n : ℕ) → ¬ P n) (IsLeast P)
