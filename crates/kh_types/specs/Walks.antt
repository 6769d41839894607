-- How far walks round the cycles of a permutation have come.
use Rattle.std.specs.Prelude.{◌≡◌, ◌<◌, ◌≤◌, ℕ, List, length, slice_index}

-- all cycles whose least number is below p have been walked: their numbers have the classes of the cycles, and all others are
-- alone
pub record IsWalked (cycles classes : List ℕ) (p : ℕ) : Type 0 where
  pub size : length classes ≡ length cycles
  pub before : (x : ℕ) → x < length cycles → slice_index cycles x < p → slice_index classes x ≡ slice_index cycles x
  pub behind : (x : ℕ) → x < length cycles → p ≤ slice_index cycles x → slice_index classes x ≡ x
