-- A finger that is added and dropped leaves the code that was.
use Rattle.std.proofs.Common.{◌≡◌, ◌≢◌, ℕ, ◌+◌, ◌∙◌, List, length, refl, ap, ap₂, subst, arith, Bool, true, IsTrue}
use Rattle.std.specs.Prelude.{Option, None, Result, Ok}
use Rattle.std.specs.Option.{option_or}
use Rattle.std.specs.List.{AllByRecursion}
use Rattle.kh_types.specs.Acceptance.{accepted}
use Rattle.kh_types.specs.Code.{Code, place_of, IsArc}
use Rattle.orient_arcs.specs.Renumbered.{renumber}
use Rattle.kink_and_finger_laws.specs.Drops.{is_bigon, is_of_two, without_finger}
use Rattle.kink_and_finger_laws.specs.Dropping.{HasBigonAt}
use Rattle.kink_and_finger_laws.specs.FingerAdd.{differ, fingered, head_number, opened, with_finger}
use Rattle.kink_and_finger_laws.proofs.FingeredCodes.{AreFingerable-accepted, IsAdded-finger, finger_sign}
use Rattle.kink_and_finger_laws.proofs.AddedSums.{AreAddedGone-finger, HasBigonAt-fingered}
use Rattle.kink_and_finger_laws.proofs.MovableArcs.{AreFingerable}
use Rattle.kink_and_finger_laws.proofs.Opened.{low}
use Rattle.kink_and_finger_laws.proofs.FingerSlots.{first_slot, length-fingered, second_slot}
use Rattle.kink_and_finger_laws.proofs.Sound.{IsSound-finger}
use Rattle.diagram_moves.specs.declared.change.Side.{Side}
use Rattle.diagram_moves.specs.declared.change.Move.TheVariants.{FingerAdd, FingerDrop}
use Rattle.diagram_moves.specs.declared.fault.MoveFault.{MoveFault}
use Rattle.diagram_moves.specs.declared.fault.MoveFault.TheVariants.{NoBigon, NoCrossing}
use Rattle.diagram_moves.specs.Moved.{answered, is_left, moved}
use Rattle.diagram_moves.specs.MoveFaults.{finger_add_fault, finger_drop_fault, finger_place_fault, wrong_genus}
use Rattle.diagram_moves.proofs.AddLemmas.{fingers_are_taken, fingers_on_the_sphere_are_accepted}
use Rattle.diagram_moves.proofs.BackAgain.{added-back, answered-ok}
use Rattle.diagram_moves.proofs.DropRefusals.{is_bigon-has}
use Rattle.diagram_moves.proofs.FaultLemmas.{both-none}
use Rattle.diagram_moves.proofs.KinksBack.{held-none, within-none}

module _ (code : Code) (a b : ℕ) (positive ordered : Bool) (holds : IsTrue (accepted code)) (over_arc : IsArc code.crossings a)
    (under_arc : IsArc code.crossings b) (apart : a ≢ b) (holds-new : IsTrue (accepted (fingered code a b positive ordered))) where
  abbrev new : Code
  new = fingered code a b positive ordered

  abbrev n : ℕ
  n = length code.crossings

  size : length (fingered code a b positive ordered).crossings ≡ length code.crossings + 2
  size = length-fingered code.crossings a b positive ordered

  place-first : place_of (length code.crossings + 1) ≡ length code.crossings
  place-first = omega arith

  place-second : place_of (length code.crossings + 2) ≡ length code.crossings + 1
  place-second = omega arith

  can : AreFingerable code.crossings a b
  can = AreFingerable-accepted code a b holds over_arc under_arc apart

  bigon : HasBigonAt (fingered code a b positive ordered).crossings (length code.crossings) (length code.crossings + 1)
      (first_slot positive ordered) (second_slot positive ordered)
  bigon = HasBigonAt-fingered code.crossings a b positive ordered can

  none : finger_drop_fault (fingered code a b positive ordered) (length code.crossings + 1) (length code.crossings + 2) ≡ None
  none =
      let meets : is_bigon (fingered code a b positive ordered).crossings (place_of (length code.crossings + 1)) (place_of (length code.crossings + 2)) ≡ true =
      ap₂ (λ c d. is_bigon (fingered code a b positive ordered).crossings c d) place-first place-second
      ∙ is_bigon-has new.crossings n (n + 1) (first_slot positive ordered) (second_slot positive ordered) bigon in
      ap₂ (λ (x y : Option MoveFault). option_or x y)
      (within-none (length code.crossings + 1) (length (fingered code a b positive ordered).crossings) (NoCrossing (length code.crossings + 1))
      (omega arith) (omega (arith, size)))
      (ap₂ (λ (x y : Option MoveFault). option_or x y)
      (within-none (length code.crossings + 2) (length (fingered code a b positive ordered).crossings) (NoCrossing (length code.crossings + 2))
      (omega arith) (omega (arith, size)))
      (held-none (is_bigon (fingered code a b positive ordered).crossings (place_of (length code.crossings + 1)) (place_of (length code.crossings + 2)))
      (NoBigon (length code.crossings + 1) (length code.crossings + 2)) meets))

  pub finger-back : AllByRecursion (λ (slots : List ℕ). length slots ≡ 4) code.crossings
      → moved (fingered code a b positive ordered) (FingerDrop (length code.crossings + 1) (length code.crossings + 2)) ≡ Ok code
  unfolding moved
  finger-back four =
      let same : renumber (without_finger (fingered code a b positive ordered) (length code.crossings) (length code.crossings + 1)) ≡ code =
      added-back code new (opened a b) (head_number a b) (low a b) (finger_sign code.crossings positive)
      (is_of_two (length code.crossings) (length code.crossings + 1)) (IsAdded-finger code.crossings a b positive ordered can)
      (AreAddedGone-finger code.crossings a b positive ordered) refl four
      (IsSound-finger new n (n + 1) (first_slot positive ordered) (second_slot positive ordered) holds-new bigon).paired in
      ap (λ (fault : Option MoveFault). answered fault (renumber (without_finger new (place_of (n + 1)) (place_of (n + 2))))) none
      ∙ ap₂ (λ (k l : ℕ). okay (renumber (without_finger new k l))) place-first place-second ∙ ap okay same
    where
      okay : Code → Result Code MoveFault
      okay c = Ok c

pub added_fingers_are_dropped : (code new : Code) (a : ℕ) (a_side : Side) (b : ℕ) (b_side : Side) → IsTrue (accepted code)
    → AllByRecursion (λ (slots : List ℕ). length slots ≡ 4) code.crossings
    → moved code (FingerAdd a a_side b b_side) ≡ Ok new
    → moved new (FingerDrop (length code.crossings + 1) (length code.crossings + 2)) ≡ Ok code
unfolding moved
added_fingers_are_dropped code new a a_side b b_side holds four is =
    let made = answered-ok (finger_add_fault code a (is_left a_side) b (is_left b_side)) (with_finger code a (is_left a_side) b (is_left b_side)) new is in
    let places = both-none (finger_place_fault code a b) (wrong_genus (with_finger code a (is_left a_side) b (is_left b_side)).crossings) made.0 in
    let taken = fingers_are_taken code a b places.0 in
    let accepted_new = fingers_on_the_sphere_are_accepted code a b (is_left a_side) (is_left b_side) holds taken places.1 in
    subst (λ (c : Code). moved c (FingerDrop (length code.crossings + 1) (length code.crossings + 2)) ≡ Ok code) made.1
    (finger-back code a b (is_left b_side) (differ (is_left a_side) (is_left b_side)) holds taken.over_arc taken.under_arc taken.apart
    accepted_new four)
