-- What a move leaves: an accepted code with the same state sum.
use Rattle.std.proofs.Common.{◌≡◌, IsTrue, refl, not, subst}
use Rattle.std.specs.Prelude.{Option, Some, None, Result, Ok, Err, IfOk, ℤ}
use Rattle.kh_types.specs.Acceptance.{accepted}
use Rattle.kh_types.specs.Code.{Code, place_of}
use Rattle.kh_types.specs.StateSum.{state_sum}
use Rattle.kink_and_finger_laws.specs.Drops.{without_finger, without_kink}
use Rattle.kink_and_finger_laws.specs.FingerAdd.{with_finger}
use Rattle.kink_and_finger_laws.specs.KinkAdds.{with_kink}
use Rattle.diagram_moves.specs.declared.change.Move.{Move}
use Rattle.diagram_moves.specs.declared.change.Move.TheVariants.{KinkAdd, KinkDrop, FingerAdd, FingerDrop, Slide}
use Rattle.diagram_moves.specs.declared.fault.MoveFault.{MoveFault}
use Rattle.orient_arcs.specs.Renumbered.{renumber}
use Rattle.diagram_moves.specs.Moved.{answered, is_left, moved, slid_at}
use Rattle.diagram_moves.specs.MoveFaults.{wrong_genus, kink_add_fault, kink_drop_fault, finger_place_fault, finger_add_fault, finger_drop_fault, slide_fault}
use Rattle.diagram_moves.proofs.AddLemmas.{accepted_kinked, fingers_are_taken, fingers_on_the_sphere_are_accepted, kinks_are_taken}
use Rattle.diagram_moves.proofs.ApplyLemmas.{moves_keep_the_state_sum}
use Rattle.diagram_moves.proofs.DropLemmas.{fingers_are_ready, kinks_are_ready, without_one}
use Rattle.diagram_moves.proofs.FaultLemmas.{both-none}
use Rattle.diagram_moves.proofs.SlideLemmas.{slides_are_ready}
use Rattle.undo_stack.specs.Sums.{HasSumOf}

-- a code is accepted
abbrev IsAccepted : Code → Type 0
IsAccepted code = IsTrue (accepted code)

-- what holds of the code where no fault comes holds of the answer
answered-accepted : (fault : Option MoveFault) (code : Code) → (fault ≡ None → IsAccepted code) → IfOk (answered fault code) IsAccepted
answered-accepted None code holds = holds refl
answered-accepted (Some fault) code holds = tt

moves_are_accepted : (code : Code) (change : Move) → IsTrue (accepted code) → IfOk (moved code change) IsAccepted
unfolding moved
moves_are_accepted code (KinkAdd arc under_first positive) holds =
    answered-accepted (kink_add_fault code arc) (with_kink (not under_first) positive arc code)
    (λ none. accepted_kinked code arc (not under_first) positive holds (kinks_are_taken code arc none))
moves_are_accepted code (KinkDrop crossing) holds =
    answered-accepted (kink_drop_fault code crossing) (renumber (without_kink code (place_of crossing)))
    (λ none.
    subst (λ s. IsAccepted (renumber s)) (without_one code (place_of crossing)) (kinks_are_ready code crossing holds none).accepted_code)
moves_are_accepted code (FingerAdd over over_side under under_side) holds =
    answered-accepted (finger_add_fault code over (is_left over_side) under (is_left under_side))
    (with_finger code over (is_left over_side) under (is_left under_side))
    (λ none.
    let both = both-none (finger_place_fault code over under)
    (wrong_genus (with_finger code over (is_left over_side) under (is_left under_side)).crossings) none in
    fingers_on_the_sphere_are_accepted code over under (is_left over_side) (is_left under_side) holds
    (fingers_are_taken code over under both.0) both.1)
moves_are_accepted code (FingerDrop first second) holds =
    answered-accepted (finger_drop_fault code first second)
    (renumber (without_finger code (place_of first) (place_of second)))
    (λ none. (fingers_are_ready code first second holds none).accepted_code)
moves_are_accepted code (Slide first second third) holds =
    answered-accepted (slide_fault code first second third) (slid_at code first second third)
    (λ none. (slides_are_ready code first second third holds none).ready.accepted_code)

both-hold : (code : Code) (r : Result Code MoveFault) → IfOk r IsAccepted
    → IfOk r (λ new. (exponent : ℤ) → state_sum new exponent ≡ state_sum code exponent) → IfOk r (HasSumOf code)
both-hold code (Ok new) accepted sums = record { accepted = accepted; same = sums }
both-hold code (Err fault) accepted sums = tt

-- a move of an accepted code leaves an accepted code with the same state sum
pub moves_have_the_sum : (code : Code) (change : Move) → IsTrue (accepted code) → IfOk (moved code change) (HasSumOf code)
moves_have_the_sum code change holds =
    both-hold code (moved code change) (moves_are_accepted code change holds) (moves_keep_the_state_sum code change holds)
