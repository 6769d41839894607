-- The bottoms of a closed braid, and the components that pass through them.
use Rattle.std.specs.Prelude.{◌≡◌, ◌≤◌, ℕ, ℤ, List, length, false, IsTrue}
use Rattle.orient_arcs.specs.Renumbered.{is_in}
use Rattle.braid_maker.specs.Braids.{is_straight, left_of}
use Rattle.braid_maker.specs.Closures.{arc_name, bottom_arc}

-- an arc goes through the bottom of a position: it is one of the strands' positions, and a crossing is passed there
pub record HasBottom (strands : ℕ) (letters : List ℤ) (position : ℕ) : Type 0 where
  pub positive : 1 ≤ position
  pub within : position ≤ strands
  pub crossed : is_straight letters position ≡ false

-- the name of this arc
abbrev pub bottom_name : ℕ → List ℤ → ℕ → ℕ
bottom_name strands letters position = arc_name (length letters) (left_of letters) strands (bottom_arc (length letters) (left_of letters) position)

-- the least position through whose bottom a component passes, which is given by its names
pub record IsLeastBottom (strands : ℕ) (letters : List ℤ) (names : List ℕ) (position : ℕ) : Type 0 where
  pub has : HasBottom strands letters position
  pub passed : IsTrue (is_in names (bottom_name strands letters position))
  pub least : (other : ℕ) → HasBottom strands letters other → IsTrue (is_in names (bottom_name strands letters other)) → position ≤ other
