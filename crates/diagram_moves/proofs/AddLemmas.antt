-- Kinks and fingers as they are added.
use Rattle.std.proofs.lemmas.Bool.Decides.{nat_tests}
use Rattle.std.proofs.Common.{◌≡◌, ℕ, ◌+◌, ◌<◌, ◌∙◌, ℤ, List, [], ◌∷◌, ◌++◌, length, map, arith, Bool, false, IsTrue}
use Rattle.std.specs.Prelude.{None, get_or}
use Rattle.std.specs.List.{range_with_len}
use Rattle.std.proofs.lemmas.List.{length-map}
use Rattle.std.proofs.lemmas.List.FromFn.{get_or-map-range_with_len, length-map-range_with_len, length-range_with_len, map-range_with_len_more}
use Rattle.kh_types.specs.Acceptance.{accepted}
use Rattle.kh_types.specs.Code.{Code}
use Rattle.kh_types.specs.Directions.{positive_at}
use Rattle.kh_types.specs.StateSum.{state_sum}
use Rattle.kink_and_finger_laws.proofs.AddedSums.{state_sum-fingered}
use Rattle.kink_and_finger_laws.specs.FingerAdd.{moved_slots, with_finger, differ}
use Rattle.kink_and_finger_laws.specs.KinkAdds.{with_kink}
use Rattle.kink_and_finger_laws.proofs.FingeredCodes.{AreFingerable-accepted}
use Rattle.kink_and_finger_laws.proofs.FingerPlanar.{accepted-fingered}
use Rattle.kink_and_finger_laws.proofs.KinkFaces.{accepted-kinked}
use Rattle.diagram_moves.specs.AddSteps.{IsTakenArc, AreTakenArcs, kinked_there}
use Rattle.diagram_moves.proofs.MadeSoFar.{kinked_to, fingered_to}
use Rattle.diagram_moves.specs.MoveFaults.{kink_add_fault, finger_place_fault, wrong_genus}
use Rattle.diagram_moves.proofs.FaultLemmas.{none-same}

pub sign_there : (crossings : List (List ℕ)) (place : ℕ) → place < length crossings
    → get_or (map (positive_at crossings) (range_with_len 0 (length crossings))) place false ≡ positive_at crossings place
sign_there crossings place below = get_or-map-range_with_len (positive_at crossings) 0 (length crossings) place place false below (omega arith)

pub length_signs : (crossings : List (List ℕ))
    → length (map (positive_at crossings) (range_with_len 0 (length crossings))) ≡ length crossings
length_signs crossings = length-map-range_with_len (positive_at crossings) 0 (length crossings)

pub kinked_more : (crossings : List (List ℕ)) (a k : ℕ)
    → kinked_to crossings a (k + 1) ≡ kinked_to crossings a k ++ kinked_there crossings a k ∷ []
kinked_more crossings a k = map-range_with_len_more (kinked_there crossings a) 0 k k (omega arith)

pub length_kinked : (crossings : List (List ℕ)) (a k : ℕ) → length (kinked_to crossings a k) ≡ k
length_kinked crossings a k = length-map (range_with_len 0 k) (kinked_there crossings a) ∙ length-range_with_len 0 k

pub fingered_more : (crossings : List (List ℕ)) (a b k : ℕ)
    → fingered_to crossings a b (k + 1) ≡ fingered_to crossings a b k ++ moved_slots crossings a b (k + 1) ∷ []
fingered_more crossings a b k = map-range_with_len_more (moved_slots crossings a b) 1 k (k + 1) (omega arith)

pub length_fingered : (crossings : List (List ℕ)) (a b k : ℕ) → length (fingered_to crossings a b k) ≡ k
length_fingered crossings a b k = length-map (range_with_len 1 k) (moved_slots crossings a b) ∙ length-range_with_len 1 k

pub accepted_kinked : (code : Code) (a : ℕ) (over positive : Bool) → IsTrue (accepted code) → IsTakenArc code a
    → IsTrue (accepted (with_kink over positive a code))
accepted_kinked code a over positive holds taken = accepted-kinked code a over positive holds taken.is_arc

pub kinks_are_taken : (code : Code) (a : ℕ) → kink_add_fault code a ≡ None → IsTakenArc code a
kinks_are_taken code a none = grind (arith, nat_tests)

pub fingers_are_taken : (code : Code) (a b : ℕ) → finger_place_fault code a b ≡ None → AreTakenArcs code a b
fingers_are_taken code a b none = grind (arith, nat_tests)

pub fingers_on_the_sphere_are_accepted : (code : Code) (a b : ℕ) (a_left b_left : Bool) → IsTrue (accepted code)
    → AreTakenArcs code a b → wrong_genus (with_finger code a a_left b b_left).crossings ≡ None
    → IsTrue (accepted (with_finger code a a_left b b_left))
fingers_on_the_sphere_are_accepted code a b a_left b_left holds taken none = grind (arith, nat_tests, accepted-fingered, none-same)

pub sum-fingered : (code : Code) (a b : ℕ) (a_left b_left : Bool) → IsTrue (accepted code) → AreTakenArcs code a b → (exponent : ℤ)
    → state_sum (with_finger code a a_left b b_left) exponent ≡ state_sum code exponent
sum-fingered code a b a_left b_left holds taken exponent =
    state_sum-fingered code a b b_left (differ a_left b_left)
    (AreFingerable-accepted code a b holds taken.over_arc taken.under_arc taken.apart) exponent
