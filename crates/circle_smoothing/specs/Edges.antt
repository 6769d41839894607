-- What an edge of the cube does to the numbers of circles.
use Rattle.std.specs.Prelude.{◌≡◌, ℕ, ◌-◌, ◌<◌, List, [], ◌∷◌, map, nat_eq, nat_lt, if◌then◌else◌}
use Rattle.kh_types.specs.Code.{Code}
use Rattle.kh_types.specs.CircleNumbers.{IsName, number_of, circle_number}
use Rattle.kh_types.specs.Differential.{touched}
use Rattle.kh_types.specs.Edges.{state_behind}
use Rattle.circle_smoothing.specs.declared.change.Edge.{Edge}
use Rattle.circle_smoothing.specs.declared.change.Edge.TheVariants.{Merge, Split}

-- the numbers of the circles that a crossing touches in a state, ascending
abbrev pub touched_numbers : Code → ℕ → ℕ → List ℕ
touched_numbers code state crossing = map (number_of code state) (touched code state crossing)

-- from one state to another two circles become one: the crossing touches the circles a and b before, a below b, and the circle
-- `to` after
pub record HaveMerged (code : Code) (before after crossing a b to : ℕ) : Type 0 where
  pub two : touched_numbers code before crossing ≡ a ∷ b ∷ []
  pub order : a < b
  pub one : touched_numbers code after crossing ≡ to ∷ []

-- what an edge does, by the numbers of circles before it and behind it: a merge, or a split, which is a merge backwards
-- (Bar-Natan 2002, section 3)
abbrev pub IsEdge : Code → ℕ → ℕ → Edge → Type 0
IsEdge code state crossing (Merge a b to) = HaveMerged code state (state_behind state crossing) crossing a b to
IsEdge code state crossing (Split from a b) = HaveMerged code (state_behind state crossing) state crossing a b from

-- the number of a circle after the circles a and b have become one, a below b: b has become a, and the numbers above b are one less
abbrev pub renumbered : ℕ → ℕ → ℕ → ℕ
renumbered a b number = if nat_eq number b then a else if nat_lt b number then number - 1 else number

-- from one state to another the circles a and b have become one: each arc and each loop is on the circle that its number says
abbrev pub AreRenumbered : Code → ℕ → ℕ → ℕ → ℕ → Type 0
AreRenumbered code before after a b =
    (name : ℕ) → IsName code name → circle_number code after name ≡ renumbered a b (circle_number code before name)

-- along an edge that merges a and b their circle has the number a and the numbers above b are one less, and along one that splits
-- a circle this is so backwards
abbrev pub Renumbers : Code → ℕ → ℕ → Edge → Type 0
Renumbers code state crossing (Merge a b to) =
    (to ≡ a) × AreRenumbered code state (state_behind state crossing) a b
Renumbers code state crossing (Split from a b) =
    (from ≡ a) × AreRenumbered code (state_behind state crossing) state a b

-- the numbers of circles that an edge names are below a limit
abbrev pub HasNumbersBelow : ℕ → Edge → Type 0
HasNumbersBelow limit (Merge a b to) = (a < limit) × (b < limit) × (to < limit)
HasNumbersBelow limit (Split from a b) = (from < limit) × (a < limit) × (b < limit)
