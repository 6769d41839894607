-- Squares of the cube: the circles along two crossings that are switched in the one order and in the other.
use Rattle.std.specs.Prelude.{◌≡◌, ◌⊎◌, ℕ, Bool, true, false}
use Rattle.kh_types.specs.Code.{Code}
use Rattle.kh_types.specs.Circles.{circles_of, circle_of}
use Rattle.kh_types.specs.Permutations.{AreJoined}
use Rattle.kh_types.specs.Edges.{arc_at_slot, state_behind}

-- from one state to another two circles are merged at a crossing: those of the arcs at its slots 0 and 2, the ends of its under pass
abbrev pub Merges : Code → ℕ → ℕ → ℕ → Type 0
Merges code before after crossing =
    AreJoined (circles_of code before) (circles_of code after) (arc_at_slot code crossing 0) (arc_at_slot code crossing 2)

-- what switching a crossing does to the circles: it merges two of them, or it splits one, which is a merge backwards
-- (Bar-Natan 2002, section 3)
abbrev pub Switches : Bool → Code → ℕ → ℕ → ℕ → Type 0
Switches true code before after crossing = Merges code before after crossing
Switches false code before after crossing = Merges code after before crossing

-- the circle of the arc at a slot of a crossing
abbrev pub circle_at_slot : Code → ℕ → ℕ → ℕ → ℕ
circle_at_slot code state crossing slot = circle_of (circles_of code state) (arc_at_slot code crossing slot)

-- the under passes of two crossings end on the same two circles
abbrev pub EndOnTwo : Code → ℕ → ℕ → ℕ → Type 0
EndOnTwo code state a b =
    let of_a = circle_at_slot code state a in
    let of_b = circle_at_slot code state b in
    ((of_a 0 ≡ of_b 0) × (of_a 2 ≡ of_b 2)) ⊎ ((of_a 0 ≡ of_b 2) × (of_a 2 ≡ of_b 0))

-- the under passes of two crossings end on one circle
pub record EndOnOne (code : Code) (state a b : ℕ) : Type 0 where
  pub first : circle_at_slot code state a 0 ≡ circle_at_slot code state a 2
  pub second : circle_at_slot code state b 0 ≡ circle_at_slot code state b 2
  pub one : circle_at_slot code state a 0 ≡ circle_at_slot code state b 0

-- each crossing does the same in both orders
pub record DoTheSame (a_first b_second b_first a_second : Bool) : Type 0 where
  pub a : a_first ≡ a_second
  pub b : b_first ≡ b_second

-- both crossings merge first and split second, and they split the one circle into the same two
pub record MergeAndSplit (code : Code) (last a b : ℕ) (a_first b_second b_first a_second : Bool) : Type 0 where
  pub a_merges : a_first ≡ true
  pub b_merges : b_first ≡ true
  pub b_splits : b_second ≡ false
  pub a_splits : a_second ≡ false
  pub ends : EndOnTwo code last a b

-- both crossings split first and merge second, and they touch one circle in the end
pub record SplitAndMerge (code : Code) (last a b : ℕ) (a_first b_second b_first a_second : Bool) : Type 0 where
  pub a_splits : a_first ≡ false
  pub b_splits : b_first ≡ false
  pub b_merges : b_second ≡ true
  pub a_merges : a_second ≡ true
  pub ends : EndOnOne code last a b

-- the kinds of squares, by which of the four edges merge
abbrev pub IsKind : Code → ℕ → ℕ → ℕ → Bool → Bool → Bool → Bool → Type 0
IsKind code last a b a_first b_second b_first a_second =
    DoTheSame a_first b_second b_first a_second ⊎ MergeAndSplit code last a b a_first b_second b_first a_second
    ⊎ SplitAndMerge code last a b a_first b_second b_first a_second

-- the square of the cube at a state and two crossings, by which of its four edges merge circles
pub record IsSquare (code : Code) (state a b : ℕ) : Type 0 where
  pub a_first : Bool
  pub b_second : Bool
  pub b_first : Bool
  pub a_second : Bool
  pub first_a : Switches a_first code state (state_behind state a) a
  pub then_b : Switches b_second code (state_behind state a) (state_behind (state_behind state a) b) b
  pub first_b : Switches b_first code state (state_behind state b) b
  pub then_a : Switches a_second code (state_behind state b) (state_behind (state_behind state a) b) a
  pub kind : IsKind code (state_behind (state_behind state a) b) a b a_first b_second b_first a_second
