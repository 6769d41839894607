-- A kink that is added and dropped leaves the code that was.
use Rattle.std.proofs.Common.{◌≡◌, ℕ, ◌+◌, ◌≤◌, ◌∙◌, List, length, refl, ap, subst, arith, Bool, true, not, ◌||◌, IsTrue}
use Rattle.std.specs.Prelude.{nat_eq, nat_lt, Option, None, Result, Ok}
use Rattle.std.specs.List.{AllByRecursion}
use Rattle.std.proofs.lemmas.Bool.Decides.{nat_tests}
use Rattle.kh_types.specs.Acceptance.{accepted}
use Rattle.kh_types.specs.Code.{Code, place_of, IsArc}
use Rattle.orient_arcs.specs.Renumbered.{renumber}
use Rattle.kink_and_finger_laws.specs.Drops.{without_kink}
use Rattle.kink_and_finger_laws.specs.Dropping.{HasKinkAt}
use Rattle.kink_and_finger_laws.specs.KinkAdds.{raised, with_kink}
use Rattle.kink_and_finger_laws.proofs.AddedSums.{AreAddedGone-kink, HasKinkAt-kinked}
use Rattle.kink_and_finger_laws.proofs.Opened.{lowered}
use Rattle.kink_and_finger_laws.proofs.KinkFaces.{accepted-kinked}
use Rattle.kink_and_finger_laws.proofs.KinkedCodes.{IsAdded-kink, IsKinkable-accepted}
use Rattle.kink_and_finger_laws.proofs.KinkSlots.{inner_slot, last, length-kinked}
use Rattle.kink_and_finger_laws.proofs.Sound.{IsSound-kink}
use Rattle.diagram_moves.specs.declared.change.Move.TheVariants.{KinkAdd, KinkDrop}
use Rattle.diagram_moves.specs.declared.fault.MoveFault.{MoveFault}
use Rattle.diagram_moves.specs.Moved.{answered, moved}
use Rattle.diagram_moves.specs.MoveFaults.{kink_add_fault, kink_drop_fault, refused_where}
use Rattle.diagram_moves.proofs.AddLemmas.{kinks_are_taken}
use Rattle.diagram_moves.proofs.BackAgain.{added-back, answered-ok}
use Rattle.diagram_moves.proofs.DropRefusals.{is_kink-at}

pub within-none : (x most : ℕ) (fault : MoveFault) → 1 ≤ x → x ≤ most → refused_where (nat_eq x 0 || nat_lt most x) fault ≡ None
within-none x most fault positive within = grind (arith, nat_tests)

pub held-none : (b : Bool) (fault : MoveFault) → b ≡ true → refused_where (not b) fault ≡ None
held-none b fault holds = grind (arith, nat_tests)

module _ (code : Code) (a : ℕ) (over positive : Bool) (holds : IsTrue (accepted code)) (arc : IsArc code.crossings a) where
  abbrev new : Code
  new = with_kink over positive a code

  abbrev n : ℕ
  n = length code.crossings

  size : length (with_kink over positive a code).crossings ≡ length code.crossings + 1
  size = length-kinked code.crossings a over positive

  place-last : place_of (length code.crossings + 1) ≡ length code.crossings
  place-last = omega arith

  at : HasKinkAt (with_kink over positive a code).crossings (length code.crossings) (inner_slot over positive)
  at = HasKinkAt-kinked code.crossings a over positive

  none : kink_drop_fault (with_kink over positive a code) (length code.crossings + 1) ≡ None
  none = grind (arith, nat_tests, within-none, size, held-none, place-last, is_kink-at, inner_slot, at)

  holds-new : IsTrue (accepted (with_kink over positive a code))
  holds-new = accepted-kinked code a over positive holds arc

  pub kink-back : AllByRecursion (λ (slots : List ℕ). length slots ≡ 4) code.crossings
      → moved (with_kink over positive a code) (KinkDrop (length code.crossings + 1)) ≡ Ok code
  unfolding moved
  kink-back four =
      let same : renumber (without_kink (with_kink over positive a code) (length code.crossings)) ≡ code =
      added-back code new (raised a) (last a) (lowered a) (λ k. positive) (nat_eq (length code.crossings))
      (IsAdded-kink code.crossings a over positive (IsKinkable-accepted code a holds arc))
      (AreAddedGone-kink code.crossings a over positive) refl four
      (IsSound-kink new n (inner_slot over positive) holds-new at).paired in
      ap (λ (fault : Option MoveFault). answered fault (renumber (without_kink new (place_of (n + 1))))) none
      ∙ ap (λ (k : ℕ). okay (renumber (without_kink new k))) place-last ∙ ap okay same
    where
      okay : Code → Result Code MoveFault
      okay c = Ok c

pub added_kinks_are_dropped : (code new : Code) (arc : ℕ) (under_first positive : Bool) → IsTrue (accepted code)
    → AllByRecursion (λ (slots : List ℕ). length slots ≡ 4) code.crossings
    → moved code (KinkAdd arc under_first positive) ≡ Ok new → moved new (KinkDrop (length code.crossings + 1)) ≡ Ok code
unfolding moved
added_kinks_are_dropped code new arc under_first positive holds four is =
    let made = answered-ok (kink_add_fault code arc) (with_kink (not under_first) positive arc code) new is in
    let taken = kinks_are_taken code arc made.0 in
    subst (λ (c : Code). moved c (KinkDrop (length code.crossings + 1)) ≡ Ok code) made.1
    (kink-back code arc (not under_first) positive holds taken.is_arc four)
