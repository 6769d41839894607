-- Arcs of directed codes in which no component has a single arc, on which a move can be made.
use Rattle.std.specs.Prelude.{ℕ, ◌≢◌, List}
use Rattle.kh_types.specs.Code.{IsArc}
use Rattle.kh_types.specs.Directions.{HasNoSingleArcs}
use Rattle.kh_types.specs.Accepted.{IsDirected}

-- an arc of a directed code in which no component has a single arc, as is each accepted code
pub record IsKinkable (crossings : List (List ℕ)) (a : ℕ) : Type 0 where
  pub directed : IsDirected crossings
  pub no_single : HasNoSingleArcs crossings
  pub arc : IsArc crossings a

-- two different arcs of a directed code in which no component has a single arc, as is each accepted code
pub record AreFingerable (crossings : List (List ℕ)) (a b : ℕ) : Type 0 where
  pub directed : IsDirected crossings
  pub no_single : HasNoSingleArcs crossings
  pub over : IsArc crossings a
  pub under : IsArc crossings b
  pub apart : a ≢ b
