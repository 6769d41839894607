-- The numbers of circles that are kept, against the definitions.
use Rattle.std.proofs.lemmas.Bool.Decides.{nat_tests}
use Rattle.std.proofs.Common.{◌≡◌, ℕ, zero, suc, ◌+◌, ◌-◌, ◌<◌, ◌≤◌, ◌∙◌, List, ap, length, arith, IsTrue}
use Rattle.std.specs.Prelude.{slice_index}
use Rattle.std.specs.List.{range_with_len}
use Rattle.std.proofs.lemmas.List.{get_or-map, length-map}
use Rattle.std.proofs.lemmas.List.FromFn.{get_or-range_with_len, length-range_with_len}
use Rattle.kh_types.specs.Acceptance.{accepted}
use Rattle.kh_types.specs.Code.{Code, IsArc, arc_count}
use Rattle.kh_types.specs.Circles.{circles_of, circle_count}
use Rattle.kh_types.specs.declared.limits.TheConstants.{CIRCLES, CROSSINGS}
use Rattle.kh_types.proofs.AcceptedLemmas.{IsAccepted-is}
use Rattle.kh_types.proofs.CircleBound.{circle_count-within}
use Rattle.kh_types.specs.CircleNumbers.{names_to, circle_number}
use Rattle.circle_smoothing.specs.CircleLists.{numbers_to}
use Rattle.circle_smoothing.specs.Numbered.{circle_numbers}
use Rattle.kh_types.proofs.CircleCycles.{IsNamed-circles}
use Rattle.kh_types.proofs.CircleNumbers.{IsName-arc, IsCircle-of, number_of-below}

-- behind the number 0 the list of circles has the names of arcs and loops
last-name : (code : Code) (state : ℕ) → IsTrue (accepted code)
    → length (circles_of code state) - 1 ≡ arc_count code.crossings + code.loops
last-name code state is = omega (arith, (IsNamed-circles code state is).size)

-- what is counted and numbered in a list of circles is so in the state
pub count-listed : (code : Code) (state : ℕ) (circles : List ℕ) → IsTrue (accepted code) → circles ≡ circles_of code state
    → length (names_to circles (length circles - 1)) ≡ circle_count code state
count-listed code state circles is are = grind (arith, nat_tests, last-name code state is)

pub numbers-listed : (code : Code) (state : ℕ) (circles : List ℕ) → IsTrue (accepted code) → circles ≡ circles_of code state
    → numbers_to circles (length circles - 1) ≡ circle_numbers code state
numbers-listed code state circles is are = grind (arith, nat_tests, last-name)

pub count-within : (code : Code) (state : ℕ) → IsTrue (accepted code) → length code.crossings ≤ CROSSINGS
    → circle_count code state ≤ CIRCLES
count-within code state is few = circle_count-within code state ((IsAccepted-is code).0 is) few

-- the number that is kept for an arc

length-circle_numbers : (code : Code) (state : ℕ) → length (circle_numbers code state) ≡ arc_count code.crossings + code.loops + 1
length-circle_numbers code state = grind (arith, nat_tests, length-map, length-range_with_len)

pub arc-kept : (code : Code) (state arc : ℕ) (numbers : List ℕ) → numbers ≡ circle_numbers code state → IsArc code.crossings arc
    → arc < length numbers
arc-kept code state arc numbers are is = grind (arith, nat_tests, length-circle_numbers)

slice_index-kept : (code : Code) (state name : ℕ) → 1 ≤ name → name ≤ arc_count code.crossings + code.loops
    → slice_index (circle_numbers code state) name ≡ circle_number code state name
slice_index-kept code state zero positive within = absurd (omega (arith, positive))
slice_index-kept code state (suc k) positive within =
    let most = arc_count code.crossings + code.loops in
    let next : 1 + k ≡ suc k = omega arith in
    get_or-map (circle_number code state) (range_with_len 1 most) k 0 0 (omega (arith, length-range_with_len 1 most, within))
    ∙ ap (circle_number code state) (get_or-range_with_len 1 most k 0 (omega (arith, within)) ∙ next)

pub number-kept : (code : Code) (state arc : ℕ) (numbers : List ℕ) → numbers ≡ circle_numbers code state → IsArc code.crossings arc
    → slice_index numbers arc ≡ circle_number code state arc
number-kept code state arc numbers are is = grind (arith, nat_tests, slice_index-kept)

pub number-below : (code : Code) (state arc : ℕ) (numbers : List ℕ) → IsTrue (accepted code) → numbers ≡ circle_numbers code state
    → IsArc code.crossings arc → slice_index numbers arc < circle_count code state
number-below code state arc numbers is are is_arc =
    let below = number_of-below code state (slice_index (circles_of code state) arc)
    (IsCircle-of code state arc is (IsName-arc code arc is_arc)) in
    omega (arith, number-kept code state arc numbers are is_arc, below)
