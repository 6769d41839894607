-- What moves keep, and when they leave the sphere. The answer is the first fault or the code that the move leaves, so what holds
-- of this code where no fault comes holds of the answer. With what is known of each of the five moves, all of them keep the state
-- sum, and the number of components and loops together. A number of faces is the fault of no test but the last one of a finger
-- that is added: so a move leaves the sphere exactly where it adds a finger, its arcs can be taken, and the code that results has
-- other than the faces of a drawing on the sphere. A finger that joins two pieces never does, as the result has these faces.
use Rattle.std.proofs.Common.{◌≡◌, ◌≢◌, ℕ, ◌+◌, ◌∙◌, ℤ, sym, ap, arith, Bool, not, IsTrue}
use Rattle.std.specs.Prelude.{◌↔◌, nat_eq, is_none, Option, Some, None, Err, IfOk}
use Rattle.std.specs.Option.{option_or}
use Rattle.std.proofs.lemmas.Bool.Decides.{nat_tests}
use Rattle.kh_types.specs.Acceptance.{accepted}
use Rattle.kh_types.specs.Code.{Code, place_of}
use Rattle.kh_types.specs.Components.{component_count}
use Rattle.kh_types.specs.Faces.{face_count, planar_face_count}
use Rattle.kh_types.specs.StateSum.{state_sum}
use Rattle.kink_and_finger_laws.specs.Drops.{is_bigon, is_kink, without_finger, without_kink}
use Rattle.kink_and_finger_laws.specs.FingerAdd.{with_finger, differ}
use Rattle.kink_and_finger_laws.specs.KinkAdds.{with_kink}
use Rattle.code_passes.specs.Parts.{slots_in}
use Rattle.orient_arcs.specs.Renumbered.{renumber}
use Rattle.kink_and_finger_laws.proofs.FingeredCodes.{AreFingerable-accepted, component_count-fingered}
use Rattle.kink_and_finger_laws.proofs.KinkedCodes.{IsKinkable-accepted, component_count-kinked}
use Rattle.kink_and_finger_laws.proofs.FingerPlanar.{planar-two_pieces}
use Rattle.kink_and_finger_laws.proofs.AddedSums.{state_sum-kinked}
use Rattle.slide_laws.specs.Triangles.{has_triangle, slide_slot}
use Rattle.diagram_moves.specs.declared.change.Move.{Move}
use Rattle.diagram_moves.specs.declared.change.Move.TheVariants.{KinkAdd, KinkDrop, FingerAdd, FingerDrop, Slide}
use Rattle.diagram_moves.specs.declared.fault.MoveFault.{MoveFault}
use Rattle.diagram_moves.specs.declared.fault.MoveFault.TheVariants.{NoKink, NoBigon, NoTriangle, Heights, Genus}
use Rattle.diagram_moves.proofs.KeptComponents.{HasComponents}
use Rattle.diagram_moves.specs.Moved.{answered, is_left, moved, slid_at, HasWrongFaces, JoinsPieces, LeavesSphere}
use Rattle.diagram_moves.specs.MoveFaults.{no_arc, no_crossing, crossing_limit_fault, on_loop, no_kink, no_bigon, no_triangle, no_heights, wrong_genus, refused_where, kink_add_fault, kink_drop_fault, finger_place_fault, finger_add_fault, finger_drop_fault, slide_fault}
use Rattle.diagram_moves.proofs.AddLemmas.{fingers_are_taken, kinks_are_taken, sum-fingered}
use Rattle.diagram_moves.proofs.DropLemmas.{components-finger_dropped, components-kink_dropped, finger-dropped, kink-dropped}
use Rattle.diagram_moves.proofs.SlideLemmas.{components-slid_at, sum-slid_at}
use Rattle.diagram_moves.proofs.FaultLemmas.{both-none, neither-fault, other-fault}

-- what holds of the code where no fault comes holds of the answer
pub answered-keeps : (P : Code → Type 0) (fault : Option MoveFault) (code : Code) → (fault ≡ None → P code) → IfOk (answered fault code) P
answered-keeps P fault code holds = grind (arith, nat_tests)

-- a code has the state sum of another
abbrev HasSum : Code → Code → Type 0
HasSum code new = (exponent : ℤ) → state_sum new exponent ≡ state_sum code exponent

pub moves_keep_the_state_sum : (code : Code) (change : Move) → IsTrue (accepted code)
    → IfOk (moved code change) (λ new. (exponent : ℤ) → state_sum new exponent ≡ state_sum code exponent)
unfolding moved
moves_keep_the_state_sum code (KinkAdd arc under_first positive) holds =
    answered-keeps (HasSum code) (kink_add_fault code arc) (with_kink (not under_first) positive arc code)
    (λ none exponent. state_sum-kinked code arc (not under_first) positive holds (kinks_are_taken code arc none).is_arc exponent)
moves_keep_the_state_sum code (KinkDrop crossing) holds =
    answered-keeps (HasSum code) (kink_drop_fault code crossing) (renumber (without_kink code (place_of crossing)))
    (λ none exponent. kink-dropped code crossing holds none exponent)
moves_keep_the_state_sum code (FingerAdd over over_side under under_side) holds =
    answered-keeps (HasSum code) (finger_add_fault code over (is_left over_side) under (is_left under_side))
    (with_finger code over (is_left over_side) under (is_left under_side))
    (λ none exponent.
    let places = both-none (finger_place_fault code over under)
    (wrong_genus (with_finger code over (is_left over_side) under (is_left under_side)).crossings) none in
    let taken = fingers_are_taken code over under places.0 in
    sum-fingered code over under (is_left over_side) (is_left under_side) holds taken exponent)
moves_keep_the_state_sum code (FingerDrop first second) holds =
    answered-keeps (HasSum code) (finger_drop_fault code first second)
    (renumber (without_finger code (place_of first) (place_of second)))
    (λ none exponent. finger-dropped code first second holds none exponent)
moves_keep_the_state_sum code (Slide first second third) holds =
    answered-keeps (HasSum code) (slide_fault code first second third) (slid_at code first second third)
    (λ none exponent. sum-slid_at code first second third holds none exponent)

pub moves_keep_components : (code : Code) (change : Move) → IsTrue (accepted code)
    → IfOk (moved code change) (λ new. component_count new.crossings + new.loops ≡ component_count code.crossings + code.loops)
unfolding moved
moves_keep_components code (KinkAdd arc under_first positive) holds =
    answered-keeps (HasComponents code) (kink_add_fault code arc) (with_kink (not under_first) positive arc code)
    (λ none.
    let can = IsKinkable-accepted code arc holds (kinks_are_taken code arc none).is_arc in
    ap (λ (k : ℕ). k + code.loops) (component_count-kinked code.crossings arc (not under_first) positive can))
moves_keep_components code (KinkDrop crossing) holds =
    answered-keeps (HasComponents code) (kink_drop_fault code crossing) (renumber (without_kink code (place_of crossing)))
    (components-kink_dropped code crossing holds)
moves_keep_components code (FingerAdd over over_side under under_side) holds =
    answered-keeps (HasComponents code) (finger_add_fault code over (is_left over_side) under (is_left under_side))
    (with_finger code over (is_left over_side) under (is_left under_side))
    (λ none.
    let places = both-none (finger_place_fault code over under)
    (wrong_genus (with_finger code over (is_left over_side) under (is_left under_side)).crossings) none in
    let taken = fingers_are_taken code over under places.0 in
    let can = AreFingerable-accepted code over under holds taken.over_arc taken.under_arc taken.apart in
    ap (λ (k : ℕ). k + code.loops)
    (component_count-fingered code.crossings over under (is_left under_side) (differ (is_left over_side) (is_left under_side)) can))
moves_keep_components code (FingerDrop first second) holds =
    answered-keeps (HasComponents code) (finger_drop_fault code first second)
    (renumber (without_finger code (place_of first) (place_of second)))
    (components-finger_dropped code first second holds)
moves_keep_components code (Slide first second third) holds =
    answered-keeps (HasComponents code) (slide_fault code first second third) (slid_at code first second third)
    (components-slid_at code first second third holds)

-- the answer is a fault exactly where the fault comes
answered-fault : (found : Option MoveFault) (code : Code) (fault : MoveFault) → (answered found code ≡ Err fault) ↔ (found ≡ Some fault)
answered-fault found code fault = grind (arith, nat_tests)

-- a fault that is not that of the faces
no-genus : (found : Option MoveFault) (code : Code) (faces wanted : ℕ) → ¬ (found ≡ Some (Genus faces wanted))
    → (answered found code ≡ Err (Genus faces wanted)) ↔ ⊥
no-genus found code faces wanted other = grind (arith, nat_tests)

arc-other : (code : Code) (arc faces wanted : ℕ) → ¬ (no_arc code arc ≡ Some (Genus faces wanted))
arc-other code arc faces wanted = grind (arith, nat_tests)

crossing-other : (code : Code) (crossing faces wanted : ℕ) → ¬ (no_crossing code crossing ≡ Some (Genus faces wanted))
crossing-other code crossing faces wanted = grind (arith, nat_tests)

limit-other : (code : Code) (more faces wanted : ℕ) → ¬ (crossing_limit_fault code more ≡ Some (Genus faces wanted))
limit-other code more faces wanted = grind (arith, nat_tests)

loop-other : (code : Code) (arc faces wanted : ℕ) → ¬ (on_loop code arc ≡ Some (Genus faces wanted))
loop-other code arc faces wanted = grind (arith, nat_tests)

place-other : (code : Code) (over under faces wanted : ℕ) → ¬ (finger_place_fault code over under ≡ Some (Genus faces wanted))
place-other code over under faces wanted = grind (arith, nat_tests)

-- the fault of the faces, with the two numbers of the code that results
genus-exactly : (count most faces wanted : ℕ)
    → (refused_where (not (nat_eq count most)) (Genus count most) ≡ Some (Genus faces wanted))
    ↔ ((faces ≡ count) × (wanted ≡ most) × (faces ≢ wanted))
genus-exactly count most faces wanted = grind (arith, nat_tests)

or-some : (x y : Option MoveFault) (fault : MoveFault) → ¬ (x ≡ Some fault) → option_or x y ≡ Some fault → (x ≡ None) × (y ≡ Some fault)
or-some x y fault other same = grind (arith, nat_tests)

finger-leaves : (code : Code) (over under : ℕ) (over_left under_left : Bool) (faces wanted : ℕ)
    → (answered (finger_add_fault code over over_left under under_left) (with_finger code over over_left under under_left)
    ≡ Err (Genus faces wanted))
    ↔ HasWrongFaces code over over_left under under_left faces wanted
finger-leaves code over under over_left under_left faces wanted =
    let made = with_finger code over over_left under under_left in
    let places = finger_place_fault code over under in
    let genus = wrong_genus made.crossings in
    let exactly = genus-exactly (face_count made.crossings) (planar_face_count made.crossings) faces wanted in
    let said = answered-fault (option_or places genus) made (Genus faces wanted) in (
      λ same.
          let both = or-some places genus (Genus faces wanted) (place-other code over under faces wanted) (said.0 same) in
          let numbers = exactly.0 both.1 in
          record { places = both.0; faces_are = numbers.0; wanted_are = numbers.1; differ = numbers.2 },
      λ wrong.
          said.1
          (ap (λ (first : Option MoveFault). option_or first genus) wrong.places
          ∙ exactly.1 (wrong.faces_are, wrong.wanted_are, wrong.differ)),
    )

pub moves_leave_the_sphere : (code : Code) (change : Move) (faces wanted : ℕ)
    → (moved code change ≡ Err (Genus faces wanted)) ↔ LeavesSphere code change faces wanted
unfolding moved
moves_leave_the_sphere code (KinkAdd arc under_first positive) faces wanted =
    let last = neither-fault (crossing_limit_fault code 1) (on_loop code arc) (Genus faces wanted) (limit-other code 1 faces wanted)
    (loop-other code arc faces wanted) in
    no-genus (kink_add_fault code arc) (with_kink (not under_first) positive arc code) faces wanted
    (neither-fault (no_arc code arc) (option_or (crossing_limit_fault code 1) (on_loop code arc)) (Genus faces wanted)
    (arc-other code arc faces wanted) last)
moves_leave_the_sphere code (KinkDrop crossing) faces wanted =
    no-genus (kink_drop_fault code crossing) (renumber (without_kink code (place_of crossing))) faces wanted
    (neither-fault (no_crossing code crossing) (no_kink code crossing) (Genus faces wanted) (crossing-other code crossing faces wanted)
    (other-fault (not (is_kink (slots_in code.crossings (place_of crossing)))) (NoKink crossing) faces wanted (λ same. absurd (cc))))
moves_leave_the_sphere code (FingerAdd over over_side under under_side) faces wanted =
    finger-leaves code over under (is_left over_side) (is_left under_side) faces wanted
moves_leave_the_sphere code (FingerDrop first second) faces wanted =
    let last = neither-fault (no_crossing code second) (no_bigon code first second) (Genus faces wanted)
    (crossing-other code second faces wanted)
    (other-fault (not (is_bigon code.crossings (place_of first) (place_of second))) (NoBigon first second) faces wanted
    (λ same. absurd (cc))) in
    no-genus (finger_drop_fault code first second) (renumber (without_finger code (place_of first) (place_of second))) faces wanted
    (neither-fault (no_crossing code first) (option_or (no_crossing code second) (no_bigon code first second)) (Genus faces wanted)
    (crossing-other code first faces wanted) last)
moves_leave_the_sphere code (Slide first second third) faces wanted =
    let genus : MoveFault = Genus faces wanted in
    let triangle = no_triangle code first second third in
    let heights = no_heights code first second third in
    let tested = neither-fault triangle heights genus
    (other-fault (not (has_triangle code.crossings first second third)) (NoTriangle first second third) faces wanted (λ same. absurd (cc)))
    (other-fault (is_none (slide_slot code.crossings first second third)) Heights faces wanted (λ same. absurd (cc))) in
    let last = neither-fault (no_crossing code third) (option_or triangle heights) genus (crossing-other code third faces wanted) tested in
    let middle = neither-fault (no_crossing code second) (option_or (no_crossing code third) (option_or triangle heights)) genus
    (crossing-other code second faces wanted) last in
    no-genus (slide_fault code first second third) (slid_at code first second third) faces wanted
    (neither-fault (no_crossing code first)
    (option_or (no_crossing code second) (option_or (no_crossing code third) (option_or triangle heights))) genus
    (crossing-other code first faces wanted) middle)

pub joined_pieces_stay_on_the_sphere : (code : Code) (change : Move) → IsTrue (accepted code) → JoinsPieces code change
    → (faces wanted : ℕ) → ¬ (moved code change ≡ Err (Genus faces wanted))
unfolding moved
joined_pieces_stay_on_the_sphere code (FingerAdd over over_side under under_side) holds apart faces wanted same =
    let wrong = (finger-leaves code over under (is_left over_side) (is_left under_side) faces wanted).0 same in
    let taken = fingers_are_taken code over under wrong.places in
    wrong.differ
    (wrong.faces_are
    ∙ planar-two_pieces code over under (is_left over_side) (is_left under_side) holds taken.over_arc taken.under_arc apart
    ∙ sym wrong.wanted_are)
joined_pieces_stay_on_the_sphere code (KinkAdd arc under_first positive) holds apart faces wanted same = apart
joined_pieces_stay_on_the_sphere code (KinkDrop crossing) holds apart faces wanted same = apart
joined_pieces_stay_on_the_sphere code (FingerDrop first second) holds apart faces wanted same = apart
joined_pieces_stay_on_the_sphere code (Slide first second third) holds apart faces wanted same = apart
