-- What moves do to the writhe: an added kink brings its sign, a dropped one takes its sign away, and fingers and slides keep the
-- writhe. Of a drop or a slide it is known which crossings stay, and that they keep their signs: so the positive ones are counted
-- among those that stay. Then come the differences of the counts, and with them the dropped kink, the dropped finger, whose
-- crossings have one sign each way, and the slide, which keeps all crossings. Added kinks and fingers have their counts of signs
-- from elsewhere. Last the five moves, case by case, and the statement for a move that was made.
use Rattle.std.proofs.lemmas.Bool.Decides.{nat_tests}
use Rattle.std.proofs.Common.{◌≡◌, ℕ, ◌+◌, ◌-◌, ◌≤◌, ◌∙◌, ◌%◌, ℤ, pos, neg_ℤ, ◌+ℤ◌, ◌-ℤ◌, List, length, map, sym, ap, subst, arith, Bool, not, cond, ◌||◌, IsTrue}
use Rattle.std.specs.Prelude.{if◌then◌else◌, nat_eq, Option, None, Result, Ok, IfOk, unwrap_or}
use Rattle.std.proofs.lemmas.Int.{ints}
use Rattle.std.specs.List.{count_by, filter, range_with_len}
use Rattle.kh_types.specs.Acceptance.{accepted}
use Rattle.kh_types.specs.Code.{Code, place_of}
use Rattle.kh_types.specs.Directions.{is_positive, plus_count, minus_count, sign_of, positive_at}
use Rattle.kh_types.proofs.DirectionLemmas.{plus_count-le}
use Rattle.kh_types.proofs.Lists.{count_by-map}
use Rattle.kh_types.proofs.RangeCounts.{count_by-alike}
use Rattle.kh_types.proofs.Heads.{HasNoSingleArcs-accepted}
use Rattle.kink_and_finger_laws.specs.DropCircles.{parts_plus}
use Rattle.kink_and_finger_laws.specs.Drops.{dropped, kept_places, is_of_two, without_finger, without_kink}
use Rattle.kink_and_finger_laws.specs.FingerAdd.{with_finger, differ}
use Rattle.kink_and_finger_laws.specs.KinkAdds.{with_kink}
use Rattle.kink_and_finger_laws.specs.KinkCodes.{one_where}
use Rattle.kink_and_finger_laws.specs.Pulls.{early, late}
use Rattle.kink_and_finger_laws.proofs.FingeredCodes.{AreFingerable-accepted, minus_count-fingered, plus_count-fingered}
use Rattle.kink_and_finger_laws.proofs.FingerDrops.{places-two}
use Rattle.kink_and_finger_laws.proofs.FingerDropSums.{HasBigonAt-slots, bigon-signs, plus-kept_two, one_of_two}
use Rattle.kink_and_finger_laws.proofs.KinkCircles.{kept_are}
use Rattle.kink_and_finger_laws.proofs.KinkDropSums.{count-later, plus-kept}
use Rattle.kh_types.specs.Bits.{one_if}
use Rattle.kink_and_finger_laws.proofs.KinkedCodes.{IsKinkable-accepted, minus_count-kinked, plus_count-kinked}
use Rattle.slide_laws.specs.Triangles.{dart_at_slot, step}
use Rattle.slide_laws.proofs.FoundTriangles.{IsTriangle-slot, has_heights-slot}
use Rattle.diagram_moves.specs.declared.change.Move.{Move}
use Rattle.diagram_moves.specs.declared.change.Move.TheVariants.{KinkAdd, KinkDrop, FingerAdd, FingerDrop, Slide}
use Rattle.diagram_moves.specs.declared.fault.MoveFault.{MoveFault}
use Rattle.diagram_moves.specs.declared.fault.MoveFault.TheVariants.{NoCrossing}
use Rattle.orient_arcs.specs.Renumbered.{renumber}
use Rattle.diagram_moves.specs.Kept.{IsKeptCode}
use Rattle.diagram_moves.specs.Moved.{is_left, moved, slid_at, slid_from}
use Rattle.diagram_moves.specs.MoveFaults.{kink_add_fault, kink_drop_fault, finger_place_fault, finger_add_fault, finger_drop_fault, no_crossing, no_kink, slide_fault, wrong_genus}
use Rattle.diagram_moves.specs.Writhe.{writhe, writhe_change}
use Rattle.diagram_moves.proofs.AddLemmas.{fingers_are_taken, kinks_are_taken}
use Rattle.diagram_moves.proofs.ApplyLemmas.{answered-keeps}
use Rattle.diagram_moves.proofs.DroppedCodes.{IsKept-finger, IsKept-kink}
use Rattle.diagram_moves.proofs.DropLemmas.{bigon-found, kink-found}
use Rattle.diagram_moves.proofs.FaultLemmas.{both-none, none-within}
use Rattle.diagram_moves.proofs.SlideLemmas.{IsPlaced-none}
use Rattle.diagram_moves.proofs.SlidCodes.{IsKept-slid}
use Rattle.kink_and_finger_laws.proofs.Sound.{two_below}

-- the positive crossings of what a move keeps are those among the crossings that stay
plus-of_kept : (old new : Code) (kept : ℕ → ℕ) (k : ℕ) → IsKeptCode old new kept k
    → plus_count new.crossings ≡ count_by (λ i. positive_at old.crossings (kept i)) (range_with_len 0 k)
plus-of_kept old new kept k is =
    let e : 0 + 1 ≡ 1 = omega arith in
    ap (λ n. count_by (is_positive new.crossings) (range_with_len 1 n)) is.size
    ∙ ap (λ a. count_by (is_positive new.crossings) (range_with_len a k)) (sym e)
    ∙ count-later (is_positive new.crossings) 0 k
    ∙ count_by-alike (λ x. is_positive new.crossings (x + 1)) (λ i. positive_at old.crossings (kept i)) 0 k
    (λ i from below. is.signs i (omega (arith, below)))

plus-dropped : (code new : Code) (gone : ℕ → Bool) (kept : ℕ → ℕ) (k : ℕ) → IsKeptCode code new kept k
    → kept_places code.crossings gone ≡ map kept (range_with_len 0 k)
    → plus_count new.crossings ≡ parts_plus (dropped code gone)
plus-dropped code new gone kept k is places =
    plus-of_kept code new kept k is
    ∙ sym
    (count_by-map (λ (b : Bool). b) (positive_at code.crossings) (kept_places code.crossings gone)
    ∙ ap (λ (xs : List ℕ). count_by (positive_at code.crossings) xs) places
    ∙ count_by-map (positive_at code.crossings) kept (range_with_len 0 k))

-- differences of counts

writhe-kink : (b : Bool) (plus minus new_plus new_minus : ℕ) → new_plus ≡ plus + one_where b → new_minus ≡ minus + one_where (not b)
    → pos new_plus -ℤ pos new_minus ≡ (pos plus -ℤ pos minus) +ℤ (if b then pos 1 else neg_ℤ (pos 1))
writhe-kink b plus minus new_plus new_minus plus_is minus_is = grind (arith, nat_tests)

writhe-drop : (b : Bool) (plus new_plus n m : ℕ) → plus ≡ cond b 1 0 + new_plus → n ≡ m + 1 → new_plus ≤ m
    → pos new_plus -ℤ pos (m - new_plus) ≡ (pos plus -ℤ pos (n - plus)) +ℤ neg_ℤ (if b then pos 1 else neg_ℤ (pos 1))
writhe-drop b plus new_plus n m plus_is size few = grind (arith, nat_tests)

writhe-alike : (plus minus new_plus new_minus k : ℕ) → new_plus + k ≡ plus → new_minus + k ≡ minus
    → pos new_plus -ℤ pos new_minus ≡ (pos plus -ℤ pos minus) +ℤ pos 0
writhe-alike plus minus new_plus new_minus k plus_is minus_is = omega (arith, ints, plus_is, minus_is)

writhe-more : (plus minus new_plus new_minus k : ℕ) → new_plus ≡ plus + k → new_minus ≡ minus + k
    → pos new_plus -ℤ pos new_minus ≡ (pos plus -ℤ pos minus) +ℤ pos 0
writhe-more plus minus new_plus new_minus k plus_is minus_is = omega (arith, ints, plus_is, minus_is)

writhe-kink_dropped : (code : Code) (crossing : ℕ) → IsTrue (accepted code) → kink_drop_fault code crossing ≡ None
    → writhe (renumber (without_kink code (place_of crossing))) ≡ writhe code +ℤ neg_ℤ (sign_of code.crossings crossing)
writhe-kink_dropped code crossing holds none =
    let c = place_of crossing in
    let found = kink-found code crossing none in
    let kink = found.1 in
    let is_one = none-within crossing (length code.crossings) (NoCrossing crossing)
    (both-none (no_crossing code crossing) (no_kink code crossing) none).0 in
    let kept = IsKept-kink code c found.0 holds found.1 in
    let size : length code.crossings ≡ length code.crossings - 1 + 1 = omega (arith, kink.below) in
    let within : place_of crossing ≤ length code.crossings - 1 = omega (arith, kink.below) in
    let plus = plus-dropped code (renumber (without_kink code c)) (nat_eq c) (early c (length code.crossings - 1))
    (length code.crossings - 1) kept (kept_are code c (length code.crossings - 1) size within) in
    let all = plus-kept code c kink.below in
    let few = plus_count-le (renumber (without_kink code c)).crossings in
    let new_size = kept.size in
    let back : place_of crossing + 1 ≡ crossing = omega (arith, is_one) in
    ap (λ m. pos (plus_count (renumber (without_kink code (place_of crossing))).crossings)
    -ℤ pos (m - plus_count (renumber (without_kink code (place_of crossing))).crossings)) new_size
    ∙ writhe-drop (positive_at code.crossings (place_of crossing)) (plus_count code.crossings)
    (plus_count (renumber (without_kink code (place_of crossing))).crossings) (length code.crossings) (length code.crossings - 1)
    (omega (arith, all, plus)) size (omega (arith, few, new_size))
    ∙ ap (λ k. writhe code +ℤ neg_ℤ (sign_of code.crossings k)) back

writhe-finger_dropped : (code : Code) (first second : ℕ) → IsTrue (accepted code) → finger_drop_fault code first second ≡ None
    → writhe (renumber (without_finger code (place_of first) (place_of second))) ≡ writhe code +ℤ pos 0
writhe-finger_dropped code first second holds none =
    let c = place_of first in
    let d = place_of second in
    let found = bigon-found code first second none in
    let p = found.0 % 4 in
    let q = found.1 % 4 in
    let bigon = HasBigonAt-slots code.crossings c d found.0 found.1 found.2 in
    let kept = IsKept-finger code c d p q holds bigon in
    let size = two_below (length code.crossings) c d bigon.first_below bigon.second_below bigon.apart in
    let c_within : place_of first ≤ length code.crossings - 2 + 1 = omega (arith, bigon.first_below, size) in
    let d_within : place_of second ≤ length code.crossings - 2 + 1 = omega (arith, bigon.second_below, size) in
    let new = renumber (without_finger code c d) in
    let plus = plus-dropped code new (is_of_two c d)
    (λ i. early c (length code.crossings - 2 + 1) (early (late c (length code.crossings - 2 + 1) d) (length code.crossings - 2) i))
    (length code.crossings - 2) kept
    (ap (λ n. filter (λ x. not (nat_eq c x || nat_eq d x)) (range_with_len 0 n)) size
    ∙ places-two c d (length code.crossings - 2) c_within d_within bigon.apart) in
    let all = plus-kept_two code c d bigon.first_below bigon.second_below bigon.apart in
    let directed = HasNoSingleArcs-accepted code holds in
    let sign = bigon-signs code c d p q directed.0 directed.1 bigon (omega arith) (omega arith) in
    let both : one_if (positive_at code.crossings (place_of first)) + one_if (positive_at code.crossings (place_of second)) ≡ 1 =
    ap (λ b. one_if (positive_at code.crossings (place_of first)) + one_if b) sign
    ∙ one_of_two (positive_at code.crossings (place_of first)) in
    let few = plus_count-le (renumber (without_finger code (place_of first) (place_of second))).crossings in
    let new_size = kept.size in
    let plus_is : plus_count (renumber (without_finger code (place_of first) (place_of second))).crossings + 1
    ≡ plus_count code.crossings = omega (arith, all, both, plus) in
    writhe-alike (plus_count code.crossings) (minus_count code.crossings) (plus_count new.crossings) (minus_count new.crossings) 1 plus_is
    (omega (arith, plus_is, few, new_size, size))

writhe-slid : (code : Code) (first second third : ℕ) → IsTrue (accepted code) → slide_fault code first second third ≡ None
    → writhe (slid_at code first second third) ≡ writhe code +ℤ pos 0
writhe-slid code first second third holds none =
    let can = IsPlaced-none code first second third none in
    let x = dart_at_slot first can.slot in
    let y = step code.crossings x in
    let z = step code.crossings y in
    let triangle =
    IsTriangle-slot code.crossings first second third can.slot can.first_crossing can.second_crossing can.third_crossing can.found in
    let heights = has_heights-slot code.crossings first second third can.slot can.found in
    let kept = IsKept-slid code x y z holds triangle heights in
    let new = slid_from code first can.slot in
    let e : 0 + 1 ≡ 1 = omega arith in
    let n = length code.crossings in
    let plus : plus_count (slid_from code first can.slot).crossings ≡ plus_count code.crossings =
    plus-of_kept code new (λ place. place) n kept
    ∙ sym
    (ap (λ a. count_by (is_positive code.crossings) (range_with_len a (length code.crossings))) (sym e)
    ∙ count-later (is_positive code.crossings) 0 (length code.crossings)) in
    let new_size = kept.size in
    let none_more : plus_count (slid_from code first can.slot).crossings + 0 ≡ plus_count code.crossings = omega (arith, plus) in
    ap (λ (o : Option ℕ). writhe (slid_from code first (unwrap_or o 0))) can.found
    ∙ writhe-alike (plus_count code.crossings) (minus_count code.crossings) (plus_count new.crossings) (minus_count new.crossings) 0
    none_more (omega (arith, plus, new_size))

-- a code has the writhe of another, changed so much
abbrev HasWrithe : Code → ℤ → Code → Type 0
HasWrithe code change new = writhe new ≡ writhe code +ℤ change

changed : (code : Code) (change : Move) → IsTrue (accepted code) → IfOk (moved code change) (HasWrithe code (writhe_change code change))
unfolding moved
changed code (KinkAdd arc under_first positive) holds =
    answered-keeps (HasWrithe code (writhe_change code (KinkAdd arc under_first positive))) (kink_add_fault code arc)
    (with_kink (not under_first) positive arc code)
    (λ none.
    let can = IsKinkable-accepted code arc holds (kinks_are_taken code arc none).is_arc in
    let new = with_kink (not under_first) positive arc code in
    writhe-kink positive (plus_count code.crossings) (minus_count code.crossings) (plus_count new.crossings) (minus_count new.crossings)
    (plus_count-kinked code.crossings arc (not under_first) positive can)
    (minus_count-kinked code.crossings arc (not under_first) positive can))
changed code (KinkDrop crossing) holds =
    answered-keeps (HasWrithe code (writhe_change code (KinkDrop crossing))) (kink_drop_fault code crossing)
    (renumber (without_kink code (place_of crossing)))
    (λ none. writhe-kink_dropped code crossing holds none)
changed code (FingerAdd over over_side under under_side) holds =
    answered-keeps (HasWrithe code (writhe_change code (FingerAdd over over_side under under_side)))
    (finger_add_fault code over (is_left over_side) under (is_left under_side))
    (with_finger code over (is_left over_side) under (is_left under_side))
    (λ none.
    let new = with_finger code over (is_left over_side) under (is_left under_side) in
    let places = both-none (finger_place_fault code over under) (wrong_genus new.crossings) none in
    let taken = fingers_are_taken code over under places.0 in
    let can = AreFingerable-accepted code over under holds taken.over_arc taken.under_arc taken.apart in
    writhe-more (plus_count code.crossings) (minus_count code.crossings) (plus_count new.crossings) (minus_count new.crossings) 1
    (plus_count-fingered code.crossings over under (is_left under_side) (differ (is_left over_side) (is_left under_side)) can)
    (minus_count-fingered code.crossings over under (is_left under_side) (differ (is_left over_side) (is_left under_side)) can))
changed code (FingerDrop first second) holds =
    answered-keeps (HasWrithe code (writhe_change code (FingerDrop first second))) (finger_drop_fault code first second)
    (renumber (without_finger code (place_of first) (place_of second)))
    (λ none. writhe-finger_dropped code first second holds none)
changed code (Slide first second third) holds =
    answered-keeps (HasWrithe code (writhe_change code (Slide first second third))) (slide_fault code first second third)
    (slid_at code first second third)
    (λ none. writhe-slid code first second third holds none)

pub moves_change_the_writhe : (code new : Code) (change : Move) → IsTrue (accepted code) → moved code change ≡ Ok new
    → writhe new ≡ writhe code +ℤ writhe_change code change
moves_change_the_writhe code new change holds is =
    subst (λ (answer : Result Code MoveFault). IfOk answer (HasWrithe code (writhe_change code change))) is (changed code change holds)
