-- The edges out of the states, as lists.
use Rattle.std.specs.Prelude.{◌≡◌, ℕ, ◌+◌, ◌<◌, List, [], length, map, slice_index_or, Option, None, Some}
use Rattle.arrayvec.specs.ArrayVec.{ArrayVec}
use Rattle.kh_types.specs.declared.limits.TheConstants.{CIRCLES}
use Rattle.kh_types.specs.Bits.{bit}
use Rattle.kh_types.specs.Code.{Code}
use Rattle.circle_smoothing.specs.Edges.{HasNumbersBelow, IsEdge}
use Rattle.circle_smoothing.specs.declared.change.Edge.{Edge}

-- what the edge out of a state does at the crossing of a place, if one begins there: where the crossing has its 0-smoothing
abbrev pub IsStep : Code → ℕ → ℕ → Option Edge → Type 0
IsStep code state place None = bit state place ≡ 1
IsStep code state place (Some change) =
    (bit state place ≡ 0) × IsEdge code state (place + 1) change × HasNumbersBelow CIRCLES change

-- the steps out of a state, up to a number of crossings
pub record HasSteps (code : Code) (state count : ℕ) (steps : List (Option Edge)) : Type 0 where
  pub size : length steps ≡ count
  pub each : (place : ℕ) → place < count → IsStep code state place (slice_index_or steps place None)

-- the steps out of the first states
pub record HaveSteps (code : Code) (count : ℕ) (rows : List (List (Option Edge))) : Type 0 where
  pub size : length rows ≡ count
  pub each : (state : ℕ) → state < count → HasSteps code state (length code.crossings) (slice_index_or rows state [])

-- the steps in memory
abbrev pub steps_in : List (ArrayVec (Option Edge)) → List (List (Option Edge))
steps_in rows = map (λ row. row.items) rows
