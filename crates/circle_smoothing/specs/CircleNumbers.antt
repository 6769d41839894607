-- A state of a code.
use Rattle.std.specs.Prelude.{ℕ}
use Rattle.kh_types.specs.Code.{Code}

-- a code with one of its states
pub record Resolution : Type 0 where
  pub code : Code
  pub state : ℕ
