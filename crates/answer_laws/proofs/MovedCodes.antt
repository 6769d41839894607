-- Moves leave small codes.
use Rattle.std.proofs.Common.{◌≡◌, ◌+◌, ◌≤◌, ℕ, Bool, true, false, not, List, [], ◌∷◌, ◌++◌, length, refl, sym, subst, arith}
use Rattle.std.specs.Prelude.{All, None, Ok, nat_eq, unwrap_or}
use Rattle.std.specs.List.{range_with_len}
use Rattle.std.proofs.lemmas.List.{length-append, length-map}
use Rattle.std.proofs.lemmas.List.Elements.{All-append, All-cons, All-nil}
use Rattle.std.proofs.lemmas.List.Filters.{length-filter_both}
use Rattle.std.proofs.lemmas.List.FromFn.{length-map-range_with_len, length-range_with_len}
use Rattle.kh_types.specs.Code.{Code, place_of}
use Rattle.kh_types.specs.Directions.{positive_at}
use Rattle.kh_types.specs.declared.limits.TheConstants.{CROSSINGS}
use Rattle.code_passes.specs.Parts.{slots_in}
use Rattle.kink_and_finger_laws.specs.Drops.{dropped, is_of_two, kept_places, renamed_slots, straight_names}
use Rattle.kink_and_finger_laws.specs.FingerAdd.{crossing_with, differ, fingered, first_crossing, moved_crossings, moved_slots, opened, second_crossing, with_finger}
use Rattle.kink_and_finger_laws.specs.KinkAdds.{kink_crossing, kinked_slots, raised_crossings, with_kink}
use Rattle.slide_laws.specs.Triangles.{slide_slot}
use Rattle.orient_arcs.specs.Renumbered.{renumber}
use Rattle.diagram_moves.specs.Moved.{is_left, moved, slid_at}
use Rattle.diagram_moves.specs.MoveFaults.{crossing_limit_fault, finger_add_fault, finger_drop_fault, finger_place_fault, kink_add_fault, kink_drop_fault, no_arc, on_loop, slide_fault, wrong_genus}
use Rattle.diagram_moves.specs.SlideSteps.{slid_parts_at}
use Rattle.diagram_moves.specs.declared.change.Move.{Move}
use Rattle.diagram_moves.specs.declared.change.Move.TheVariants.{FingerAdd, FingerDrop, KinkAdd, KinkDrop, Slide}
use Rattle.diagram_moves.proofs.BackAgain.{answered-ok}
use Rattle.diagram_moves.proofs.FaultLemmas.{both-none, none-above}
use Rattle.answer_laws.proofs.SmallCodes.{AreFour, IsSmall, all-four, small-renumbered}

-- crossings before others

small-before : (crossings others : List (List ℕ)) (loops : ℕ) → All AreFour crossings → All AreFour others
    → length crossings + length others ≤ CROSSINGS → IsSmall (record { crossings = crossings ++ others; loops = loops })
small-before crossings others loops four other_four few = record {
  four = All-append AreFour crossings others four other_four;
  few = omega (arith, few, length-append crossings others);
}

-- a kink that is added

four-kink : (is_over is_positive : Bool) (a : ℕ) → AreFour (kink_crossing is_over is_positive a)
four-kink true true a = refl
four-kink true false a = refl
four-kink false true a = refl
four-kink false false a = refl

pub small-kinked : (is_over is_positive : Bool) (a : ℕ) (code : Code) → length code.crossings + 1 ≤ CROSSINGS
    → IsSmall (with_kink is_over is_positive a code)
small-kinked is_over is_positive a code few =
    let crossings = code.crossings in
    let kink = kink_crossing is_over is_positive a in
    let slots = λ (place : ℕ). kinked_slots a (positive_at crossings place) (slots_in crossings place) in
    small-before (raised_crossings a crossings) (kink ∷ []) code.loops
    (all-four slots (range_with_len 0 (length crossings)) (λ place. refl))
    (All-cons AreFour kink [] (four-kink is_over is_positive a) (All-nil AreFour))
    (omega (arith, few, length-map-range_with_len slots 0 (length crossings)))

-- a finger that is added

four-finger : (is_positive : Bool) (u v s t : ℕ) → AreFour (crossing_with is_positive u v s t)
four-finger true u v s t = refl
four-finger false u v s t = refl

pub small-fingered : (code : Code) (a b : ℕ) (is_positive in_order : Bool) → length code.crossings + 2 ≤ CROSSINGS
    → IsSmall (fingered code a b is_positive in_order)
small-fingered code a b is_positive in_order few =
    let crossings = code.crossings in
    let first = first_crossing (opened a b a) (opened a b b) is_positive in_order in
    let second = second_crossing (opened a b a) (opened a b b) is_positive in_order in
    small-before (moved_crossings crossings a b) (first ∷ second ∷ []) code.loops
    (all-four (moved_slots crossings a b) (range_with_len 1 (length crossings)) (λ crossing. refl))
    (All-cons AreFour first (second ∷ []) (four-finger is_positive _ _ _ _)
    (All-cons AreFour second [] (four-finger (not is_positive) _ _ _ _) (All-nil AreFour)))
    (omega (arith, few, length-map-range_with_len (moved_slots crossings a b) 1 (length crossings)))

-- crossings that are dropped

pub small-dropped : (code : Code) (gone : ℕ → Bool) → length code.crossings ≤ CROSSINGS → IsSmall (renumber (dropped code gone))
small-dropped code gone few =
    let crossings = code.crossings in
    let places = range_with_len 0 (length crossings) in
    small-renumbered (dropped code gone)
    (omega (
      arith,
      few,
      length-map (kept_places crossings gone) (λ place. renamed_slots (straight_names crossings gone) (slots_in crossings place)),
      length-filter_both gone (λ place. not (gone place)) (λ place. refl) places,
      length-range_with_len 0 (length crossings),
    ))

-- crossings that are slid

small-slid : (code : Code) (first second third : ℕ) → length code.crossings ≤ CROSSINGS → IsSmall (slid_at code first second third)
small-slid code first second third few =
    let parts = slid_parts_at code first (unwrap_or (slide_slot code.crossings first second third) 0) in
    small-renumbered parts (subst (λ (n : ℕ). n ≤ CROSSINGS) (sym (length-map-range_with_len _ 0 (length code.crossings))) few)

-- so few crossings more are within the limit, where a fault does not come
few-more : (code : Code) (more : ℕ) → crossing_limit_fault code more ≡ None → length code.crossings + more ≤ CROSSINGS
few-more code more none = none-above CROSSINGS (length code.crossings + more) _ none

-- each move leaves a small code
pub small-moved : (code new : Code) (change : Move) → length code.crossings ≤ CROSSINGS → moved code change ≡ Ok new → IsSmall new
unfolding moved
small-moved code new (KinkAdd arc under_first positive) few is =
    let made = answered-ok (kink_add_fault code arc) (with_kink (not under_first) positive arc code) new is in
    let limit = (both-none (crossing_limit_fault code 1) (on_loop code arc) (both-none (no_arc code arc) _ made.0).1).0 in
    subst IsSmall made.1 (small-kinked (not under_first) positive arc code (few-more code 1 limit))
small-moved code new (KinkDrop crossing) few is =
    let made = answered-ok (kink_drop_fault code crossing) (renumber (dropped code (nat_eq (place_of crossing)))) new is in
    subst IsSmall made.1 (small-dropped code (nat_eq (place_of crossing)) few)
small-moved code new (FingerAdd over over_side under under_side) few is =
    let left = is_left over_side in
    let under_left = is_left under_side in
    let made = answered-ok (finger_add_fault code over left under under_left) (with_finger code over left under under_left) new is in
    let genus = wrong_genus (with_finger code over left under under_left).crossings in
    let place = (both-none (finger_place_fault code over under) genus made.0).0 in
    let arcs = (both-none (no_arc code under) _ (both-none (no_arc code over) _ place).1).1 in
    let limit = (both-none (crossing_limit_fault code 2) _ arcs).0 in
    subst IsSmall made.1 (small-fingered code over under under_left (differ left under_left) (few-more code 2 limit))
small-moved code new (FingerDrop first second) few is =
    let gone = is_of_two (place_of first) (place_of second) in
    let made = answered-ok (finger_drop_fault code first second) (renumber (dropped code gone)) new is in
    subst IsSmall made.1 (small-dropped code gone few)
small-moved code new (Slide first second third) few is =
    let made = answered-ok (slide_fault code first second third) (slid_at code first second third) new is in
    subst IsSmall made.1 (small-slid code first second third few)
