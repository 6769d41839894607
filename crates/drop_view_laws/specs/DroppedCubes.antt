-- The views of a code whose kink or bigon has been brought to the front, and of the code that is left without it: what they see alike.
use Rattle.std.specs.Prelude.{◌≡◌, ◌⊎◌, ℕ, ◌+◌, ◌-◌, ◌*◌, ◌^◌, ◌<◌, IsTrue, length, nat_eq}
use Rattle.kh_types.specs.Acceptance.{accepted}
use Rattle.kh_types.specs.Code.{Code}
use Rattle.order_laws.specs.Orders.{IsReordered, listed_by}
use Rattle.gluing_laws.specs.Arcs.{arc_by_place}
use Rattle.kink_and_finger_laws.specs.DropCircles.{closing_at, through_at}
use Rattle.kink_and_finger_laws.specs.Drops.{is_of_two}
use Rattle.view_laws.specs.Views.{IsView, SeeAlike, View, joint_state}
use Rattle.drop_view_laws.specs.DropSigns.{AreBigonSigns, AreKinkSigns}
use Rattle.drop_view_laws.specs.DroppedFirst.{two_first, view_but, view_left}
use Rattle.view_laws.specs.Fronts.{first_to}
use Rattle.drop_view_laws.specs.NamesLeft.{number_left}

-- the code with the crossing of a kink first
abbrev pub kink_first : Code → ℕ → Code
kink_first code c = listed_by code (first_to c code.crossings)

-- its view: all arcs and loops but the kink's arc, which closes at one of the two inner states
abbrev pub kink_view : Code → ℕ → ℕ → View
kink_view code c p =
    view_but (kink_first code c) 1 (arc_by_place code.crossings c p) (arc_by_place code.crossings c p) (closing_at p)

-- the view of the code that is left
abbrev pub kink_left : Code → ℕ → ℕ → View
kink_left code c p =
    view_left (kink_first code c) (arc_by_place code.crossings c p) (arc_by_place code.crossings c p) (number_left code (nat_eq c))

-- both are views, and see alike at both inner states
pub record IsKinkCut (code new : Code) (c p : ℕ) : Type 0 where
  pub order : IsReordered code.crossings (kink_first code c).crossings
  pub first_accepted : IsTrue (accepted (kink_first code c))
  pub view : IsView (kink_first code c) (kink_view code c p)
  pub left : IsView new (kink_left code c p)
  pub size : length code.crossings ≡ length new.crossings + 1
  pub first_size : length (kink_first code c).crossings ≡ length code.crossings
  pub alike : (inside outside : ℕ) → inside < 2 → outside < 2 ^ length new.crossings
      → SeeAlike (kink_first code c) (kink_view code c p) (joint_state (kink_view code c p) inside outside)
      new (kink_left code c p) (joint_state (kink_left code c p) 0 outside)

-- the code with the two crossings of a bigon first, the second before the first
abbrev pub bigon_first : Code → ℕ → ℕ → Code
bigon_first code c d = listed_by code (two_first c d code.crossings)

-- the state of these two that closes both: the lowest bit is that of the second crossing
abbrev pub bigon_closing : ℕ → ℕ → ℕ
bigon_closing p q = closing_at q + 2 * closing_at p

-- the state that goes through both
abbrev pub bigon_through : ℕ → ℕ → ℕ
bigon_through p q = through_at q + 2 * through_at p

-- the view: all arcs and loops but the two sides, of which the first stands for the circle that closes
abbrev pub bigon_view : Code → ℕ → ℕ → ℕ → ℕ → View
bigon_view code c d p q =
    view_but (bigon_first code c d) 2 (arc_by_place code.crossings c p) (arc_by_place code.crossings d q) (bigon_closing p q)

-- the view of the code that is left
abbrev pub bigon_left : Code → ℕ → ℕ → ℕ → ℕ → View
bigon_left code c d p q =
    view_left (bigon_first code c d) (arc_by_place code.crossings c p) (arc_by_place code.crossings d q) (number_left code (is_of_two c d))

-- both are views; the inner states 0 and 3 see what that sees which closes both, and the fourth sees what is left
pub record IsBigonCut (code new : Code) (c d p q : ℕ) : Type 0 where
  pub order : IsReordered code.crossings (first_to c code.crossings)
      × IsReordered (first_to c code.crossings) (bigon_first code c d).crossings
  pub first_accepted : IsTrue (accepted (bigon_first code c d))
  pub view : IsView (bigon_first code c d) (bigon_view code c d p q)
  pub left : IsView new (bigon_left code c d p q)
  pub size : length code.crossings ≡ length new.crossings + 2
  pub first_size : length (bigon_first code c d).crossings ≡ length code.crossings
  pub one_bit : (bigon_closing p q ≡ 1) ⊎ (bigon_closing p q ≡ 2)
  pub other_bit : bigon_through p q ≡ 3 - bigon_closing p q
  pub zero_alike : (outside : ℕ) → outside < 2 ^ length new.crossings
      → SeeAlike (bigon_first code c d) (bigon_view code c d p q) (joint_state (bigon_view code c d p q) (bigon_closing p q) outside)
      (bigon_first code c d) (bigon_view code c d p q) (joint_state (bigon_view code c d p q) 0 outside)
  pub three_alike : (outside : ℕ) → outside < 2 ^ length new.crossings
      → SeeAlike (bigon_first code c d) (bigon_view code c d p q) (joint_state (bigon_view code c d p q) (bigon_closing p q) outside)
      (bigon_first code c d) (bigon_view code c d p q) (joint_state (bigon_view code c d p q) 3 outside)
  pub fourth_alike : (outside : ℕ) → outside < 2 ^ length new.crossings
      → SeeAlike (bigon_first code c d) (bigon_view code c d p q) (joint_state (bigon_view code c d p q) (bigon_through p q) outside)
      new (bigon_left code c d p q) (joint_state (bigon_left code c d p q) 0 outside)

-- a code is what is left of another where a kink is dropped, at a slot p
pub record IsKinkDrop (code new : Code) (c : ℕ) : Type 0 where
  pub slot : ℕ
  pub slot_below : slot < 4
  pub cut : IsKinkCut code new c slot
  pub signs : AreKinkSigns code new slot

-- or where two crossings are dropped that meet in a bigon, from slots p and q
pub record IsFingerDrop (code new : Code) (c d : ℕ) : Type 0 where
  pub slot : ℕ
  pub other_slot : ℕ
  pub slot_below : slot < 4
  pub other_below : other_slot < 4
  pub cut : IsBigonCut code new c d slot other_slot
  pub signs : AreBigonSigns code new
