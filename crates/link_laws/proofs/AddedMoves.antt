-- Every move keeps the link: where a kink or a finger is added, it is dropped again, and what is left has the old arcs.
use Rattle.std.proofs.Common.{◌≡◌, ◌≢◌, ℕ, ◌+◌, ◌-◌, ◌<◌, ◌∙◌, length, refl, ap, ap₂, subst, arith, Bool, true, not, IsTrue}
use Rattle.std.specs.Option.{option_or}
use Rattle.std.specs.Prelude.{nat_eq, Option, None, Ok, Result}
use Rattle.std.proofs.lemmas.Bool.Decides.{nat_tests}
use Rattle.kh_types.specs.Acceptance.{accepted}
use Rattle.kh_types.specs.Code.{Code, IsArc, place_of}
use Rattle.kh_types.specs.Directions.{is_positive}
use Rattle.gluing_laws.specs.Codes.{IsRenumbered}
use Rattle.orient_arcs.specs.Renumbered.{renumber}
use Rattle.kink_and_finger_laws.specs.Dropping.{HasBigonAt, HasKinkAt}
use Rattle.kink_and_finger_laws.specs.Drops.{is_bigon, is_of_two, without_finger, without_kink}
use Rattle.kink_and_finger_laws.specs.FingerAdd.{differ, fingered, head_number, opened, with_finger}
use Rattle.kink_and_finger_laws.specs.KinkAdds.{raised, with_kink}
use Rattle.kink_and_finger_laws.specs.Pulls.{early, late}
use Rattle.kink_and_finger_laws.proofs.AddedCodes.{IsAdded}
use Rattle.kink_and_finger_laws.proofs.AddedSigns.{sign-old}
use Rattle.kink_and_finger_laws.proofs.AddedSums.{AreAddedGone-finger, AreAddedGone-kink, HasBigonAt-fingered, HasKinkAt-kinked}
use Rattle.kink_and_finger_laws.proofs.FingerSlots.{first_slot, length-fingered, second_slot}
use Rattle.kink_and_finger_laws.proofs.FingeredCodes.{AreFingerable-accepted, IsAdded-finger, finger_sign}
use Rattle.kink_and_finger_laws.proofs.KinkFaces.{accepted-kinked}
use Rattle.kink_and_finger_laws.proofs.KinkSlots.{inner_slot, last, length-kinked}
use Rattle.kink_and_finger_laws.proofs.KinkedCodes.{IsAdded-kink, IsKinkable-accepted}
use Rattle.kink_and_finger_laws.proofs.MovableArcs.{AreFingerable}
use Rattle.kink_and_finger_laws.proofs.Opened.{low, lowered}
use Rattle.kink_and_finger_laws.proofs.Sound.{IsSound-finger, IsSound-kink}
use Rattle.diagram_moves.specs.Kept.{IsKeptCode}
use Rattle.diagram_moves.specs.MoveFaults.{finger_add_fault, finger_drop_fault, finger_place_fault, kink_add_fault, kink_drop_fault, wrong_genus}
use Rattle.diagram_moves.specs.Moved.{answered, is_left, moved}
use Rattle.diagram_moves.specs.declared.change.Move.{Move}
use Rattle.diagram_moves.specs.declared.change.Move.TheVariants.{FingerAdd, FingerDrop, KinkAdd, KinkDrop, Slide}
use Rattle.diagram_moves.specs.declared.change.Side.{Side}
use Rattle.diagram_moves.specs.declared.fault.MoveFault.{MoveFault}
use Rattle.diagram_moves.specs.declared.fault.MoveFault.TheVariants.{NoBigon, NoCrossing}
use Rattle.diagram_moves.proofs.AddLemmas.{fingers_are_taken, fingers_on_the_sphere_are_accepted, kinks_are_taken}
use Rattle.diagram_moves.proofs.BackAgain.{answered-ok}
use Rattle.diagram_moves.proofs.DropRefusals.{is_bigon-has, is_kink-at}
use Rattle.diagram_moves.proofs.DroppedCodes.{IsKept-finger, IsKept-kink}
use Rattle.diagram_moves.proofs.FaultLemmas.{both-none}
use Rattle.diagram_moves.proofs.KinksBack.{held-none, within-none}
use Rattle.drop_view_laws.proofs.DroppedMoves.{IsFingerDrop-moved, IsKinkDrop-moved}
use Rattle.drop_view_laws.proofs.FrontCircles.{early-low}
use Rattle.slide_view_laws.proofs.Moves.{IsSlidFrom-moved}
use Rattle.link_laws.specs.Links.{AreOneLink, arcs_renumbered, bigon_dropped, kink_dropped, strand_slid}
use Rattle.link_laws.proofs.Paths.{link-back, link-change, link-onward}
use Rattle.link_laws.proofs.Restored.{restored}

late-next : (n : ℕ) → late n (n + 1) (n + 1) ≡ n
late-next n = grind (arith, nat_tests)

-- what is left when something added is dropped again has the arcs and the signs of the code
link-left : (code left : Code) → IsTrue (accepted code) → IsTrue (accepted left) → IsRenumbered (λ x. x) code left
    → ((place : ℕ) → place < length code.crossings → is_positive left.crossings (place + 1) ≡ is_positive code.crossings (place + 1))
    → AreOneLink code left
link-left code left holds left_holds same signs =
    link-change code left holds left_holds
    (arcs_renumbered
    (record {
      number = λ x. x;
      renumbered = same;
      signs = λ crossing is.
          let e : crossing - 1 + 1 ≡ crossing = omega (arith, is.positive) in
          subst (λ (c : ℕ). is_positive left.crossings c ≡ is_positive code.crossings c) e
          (signs (crossing - 1) (omega (arith, is.positive, is.within)));
    }))

abbrev okay : Code → Result Code MoveFault
okay code = Ok code

-- a kink
module _ (code : Code) (a : ℕ) (over positive : Bool) (holds : IsTrue (accepted code)) (arc : IsArc code.crossings a) where
  abbrev kinked : Code
  kinked = with_kink over positive a code

  abbrev count : ℕ
  count = length code.crossings

  kinked-size : length (with_kink over positive a code).crossings ≡ length code.crossings + 1
  kinked-size = length-kinked code.crossings a over positive

  kinked-at : HasKinkAt (with_kink over positive a code).crossings (length code.crossings) (inner_slot over positive)
  kinked-at = HasKinkAt-kinked code.crossings a over positive

  kinked-holds : IsTrue (accepted (with_kink over positive a code))
  kinked-holds = accepted-kinked code a over positive holds arc

  kinked-added : IsAdded code.crossings (with_kink over positive a code).crossings (raised a) (last a) (lowered a) (λ k. positive)
  kinked-added = IsAdded-kink code.crossings a over positive (IsKinkable-accepted code a holds arc)

  -- the code without the kink again
  abbrev unkinked : Code
  unkinked = renumber (without_kink (with_kink over positive a code) (length code.crossings))

  kinked-kept : IsKeptCode (with_kink over positive a code)
      (renumber (without_kink (with_kink over positive a code) (length code.crossings)))
      (early (length code.crossings) (length (with_kink over positive a code).crossings - 1))
      (length (with_kink over positive a code).crossings - 1)
  kinked-kept = IsKept-kink kinked count (inner_slot over positive) kinked-holds kinked-at

  unkinked-signs : (place : ℕ) → place < length code.crossings
      → is_positive (renumber (without_kink (with_kink over positive a code) (length code.crossings))).crossings (place + 1)
      ≡ is_positive code.crossings (place + 1)
  unkinked-signs place below =
      kinked-kept.signs place (omega (arith, below, kinked-size))
      ∙ ap (λ (k : ℕ). is_positive kinked.crossings (k + 1)) (early-low count (length kinked.crossings - 1) place below)
      ∙ sign-old kinked-added (place + 1) 1 (record { positive = omega arith; within = omega (arith, below) }) kinked-size

  unkinked-same : IsRenumbered (λ x. x) code (renumber (without_kink (with_kink over positive a code) (length code.crossings)))
  unkinked-same =
      restored code kinked (raised a) (last a) (lowered a) (λ k. positive) (nat_eq count) kinked-added
      (AreAddedGone-kink code.crossings a over positive) refl
      (IsSound-kink kinked count (inner_slot over positive) kinked-holds kinked-at).paired

  place-last : place_of (length code.crossings + 1) ≡ length code.crossings
  place-last = omega arith

  kinked-none : kink_drop_fault (with_kink over positive a code) (length code.crossings + 1) ≡ None
  kinked-none = grind (arith, nat_tests, within-none, kinked-size, held-none, place-last, is_kink-at, inner_slot, kinked-at)

  kinked-drop : moved (with_kink over positive a code) (KinkDrop (length code.crossings + 1))
      ≡ Ok (renumber (without_kink (with_kink over positive a code) (length code.crossings)))
  unfolding moved
  kinked-drop =
      ap (λ (fault : Option MoveFault). answered fault (renumber (without_kink kinked (place_of (count + 1))))) kinked-none
      ∙ ap (λ (k : ℕ). okay (renumber (without_kink kinked k))) place-last

  pub link-kinked : AreOneLink code (with_kink over positive a code)
  link-kinked =
      link-onward code unkinked kinked (link-left code unkinked holds kinked-kept.accepted_too unkinked-same unkinked-signs)
      (link-back kinked unkinked
      (link-change kinked unkinked kinked-holds kinked-kept.accepted_too (kink_dropped (count + 1) kinked-drop)))

-- a finger
module _ (code : Code) (a b : ℕ) (positive ordered : Bool) (holds : IsTrue (accepted code)) (over_arc : IsArc code.crossings a)
    (under_arc : IsArc code.crossings b) (apart : a ≢ b) (new_holds : IsTrue (accepted (fingered code a b positive ordered))) where
  abbrev finger : Code
  finger = fingered code a b positive ordered

  abbrev few : ℕ
  few = length code.crossings

  finger-size : length (fingered code a b positive ordered).crossings ≡ length code.crossings + 2
  finger-size = length-fingered code.crossings a b positive ordered

  can : AreFingerable code.crossings a b
  can = AreFingerable-accepted code a b holds over_arc under_arc apart

  finger-at : HasBigonAt (fingered code a b positive ordered).crossings (length code.crossings) (length code.crossings + 1)
      (first_slot positive ordered) (second_slot positive ordered)
  finger-at = HasBigonAt-fingered code.crossings a b positive ordered can

  finger-added : IsAdded code.crossings (fingered code a b positive ordered).crossings (opened a b) (head_number a b) (low a b)
      (finger_sign code.crossings positive)
  finger-added = IsAdded-finger code.crossings a b positive ordered can

  -- the code without the finger again
  abbrev unfingered : Code
  unfingered = renumber (without_finger (fingered code a b positive ordered) (length code.crossings) (length code.crossings + 1))

  -- the place before of a crossing that is left
  abbrev place_before : ℕ → ℕ
  place_before i =
      early (length code.crossings) (length (fingered code a b positive ordered).crossings - 2 + 1)
      (early
      (late (length code.crossings) (length (fingered code a b positive ordered).crossings - 2 + 1) (length code.crossings + 1))
      (length (fingered code a b positive ordered).crossings - 2) i)

  finger-kept : IsKeptCode (fingered code a b positive ordered) unfingered place_before
      (length (fingered code a b positive ordered).crossings - 2)
  finger-kept = IsKept-finger finger few (few + 1) (first_slot positive ordered) (second_slot positive ordered) new_holds finger-at

  place-before : (i : ℕ) → i < length code.crossings → place_before i ≡ i
  place-before i below =
      let size : length finger.crossings - 2 ≡ few = omega (arith, finger-size) in
      ap (λ (k : ℕ). early few (k + 1) (early (late few (k + 1) (few + 1)) k i)) size
      ∙ ap (λ (k : ℕ). early few (few + 1) (early k few i)) (late-next few)
      ∙ ap (early few (few + 1)) (early-low few few i below)
      ∙ early-low few (few + 1) i below

  unfingered-signs : (place : ℕ) → place < length code.crossings
      → is_positive unfingered.crossings (place + 1) ≡ is_positive code.crossings (place + 1)
  unfingered-signs place below =
      finger-kept.signs place (omega (arith, below, finger-size))
      ∙ ap (λ (k : ℕ). is_positive finger.crossings (k + 1)) (place-before place below)
      ∙ sign-old finger-added (place + 1) 2 (record { positive = omega arith; within = omega (arith, below) }) finger-size

  unfingered-same : IsRenumbered (λ x. x) code unfingered
  unfingered-same =
      restored code finger (opened a b) (head_number a b) (low a b) (finger_sign code.crossings positive) (is_of_two few (few + 1))
      finger-added (AreAddedGone-finger code.crossings a b positive ordered) refl
      (IsSound-finger finger few (few + 1) (first_slot positive ordered) (second_slot positive ordered) new_holds finger-at).paired

  place-first : place_of (length code.crossings + 1) ≡ length code.crossings
  place-first = omega arith

  place-second : place_of (length code.crossings + 2) ≡ length code.crossings + 1
  place-second = omega arith

  finger-none : finger_drop_fault (fingered code a b positive ordered) (length code.crossings + 1) (length code.crossings + 2) ≡ None
  finger-none =
      let meets : is_bigon finger.crossings (place_of (few + 1)) (place_of (few + 2)) ≡ true =
      ap₂ (λ c d. is_bigon finger.crossings c d) place-first place-second
      ∙ is_bigon-has finger.crossings few (few + 1) (first_slot positive ordered) (second_slot positive ordered) finger-at in
      ap₂ (λ (x y : Option MoveFault). option_or x y)
      (within-none (few + 1) (length finger.crossings) (NoCrossing (few + 1)) (omega arith) (omega (arith, finger-size)))
      (ap₂ (λ (x y : Option MoveFault). option_or x y)
      (within-none (few + 2) (length finger.crossings) (NoCrossing (few + 2)) (omega arith) (omega (arith, finger-size)))
      (held-none (is_bigon finger.crossings (place_of (few + 1)) (place_of (few + 2))) (NoBigon (few + 1) (few + 2)) meets))

  finger-drop : moved (fingered code a b positive ordered) (FingerDrop (length code.crossings + 1) (length code.crossings + 2))
      ≡ Ok unfingered
  unfolding moved
  finger-drop =
      ap (λ (fault : Option MoveFault). answered fault (renumber (without_finger finger (place_of (few + 1)) (place_of (few + 2)))))
      finger-none
      ∙ ap₂ (λ (k l : ℕ). okay (renumber (without_finger finger k l))) place-first place-second

  pub link-fingered : AreOneLink code (fingered code a b positive ordered)
  link-fingered =
      link-onward code unfingered finger
      (link-left code unfingered holds finger-kept.accepted_too unfingered-same unfingered-signs)
      (link-back finger unfingered
      (link-change finger unfingered new_holds finger-kept.accepted_too (bigon_dropped (few + 1) (few + 2) finger-drop)))

-- all moves
link-kink_add : (code new : Code) (arc : ℕ) (under_first positive : Bool) → IsTrue (accepted code)
    → moved code (KinkAdd arc under_first positive) ≡ Ok new → AreOneLink code new
unfolding moved
link-kink_add code new arc under_first positive holds is =
    let made = answered-ok (kink_add_fault code arc) (with_kink (not under_first) positive arc code) new is in
    subst (λ (made : Code). AreOneLink code made) made.1
    (link-kinked code arc (not under_first) positive holds (kinks_are_taken code arc made.0).is_arc)

link-finger_add : (code new : Code) (over : ℕ) (over_side : Side) (under : ℕ) (under_side : Side) → IsTrue (accepted code)
    → moved code (FingerAdd over over_side under under_side) ≡ Ok new → AreOneLink code new
unfolding moved
link-finger_add code new over over_side under under_side holds is =
    let added = with_finger code over (is_left over_side) under (is_left under_side) in
    let made = answered-ok (finger_add_fault code over (is_left over_side) under (is_left under_side)) added new is in
    let places = both-none (finger_place_fault code over under) (wrong_genus added.crossings) made.0 in
    let taken = fingers_are_taken code over under places.0 in
    subst (λ (made : Code). AreOneLink code made) made.1
    (link-fingered code over under (is_left under_side) (differ (is_left over_side) (is_left under_side)) holds taken.over_arc
    taken.under_arc taken.apart
    (fingers_on_the_sphere_are_accepted code over under (is_left over_side) (is_left under_side) holds taken places.1))

pub link-moved : (code new : Code) (change : Move) → IsTrue (accepted code) → moved code change ≡ Ok new → AreOneLink code new
link-moved code new (KinkAdd arc under_first positive) holds is = link-kink_add code new arc under_first positive holds is
link-moved code new (KinkDrop crossing) holds is =
    link-change code new holds (IsKinkDrop-moved code new crossing holds is).signs.accepted_too (kink_dropped crossing is)
link-moved code new (FingerAdd over over_side under under_side) holds is =
    link-finger_add code new over over_side under under_side holds is
link-moved code new (FingerDrop first second) holds is =
    link-change code new holds (IsFingerDrop-moved code new first second holds is).signs.accepted_too (bigon_dropped first second is)
link-moved code new (Slide first second third) holds is =
    link-change code new holds (IsSlidFrom-moved code new first second third holds is).accepted_too (strand_slid first second third is)
