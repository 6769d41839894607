-- The numbers of loops: each loop is a circle of its own, and the loops are the last circles, in their order.
use Rattle.std.proofs.Common.{◌≡◌, ℕ, zero, suc, ◌+◌, ◌-◌, ◌<◌, ◌≤◌, ◌∙◌, List, [], ◌∷◌, ◌++◌, length, ap, arith, cond, IsTrue}
use Rattle.std.specs.Prelude.{slice_index}
use Rattle.std.specs.List.{fold, range_with_len}
use Rattle.std.proofs.lemmas.Bool.{eq-eqb}
use Rattle.std.proofs.lemmas.List.{length-append}
use Rattle.kh_types.specs.Acceptance.{accepted}
use Rattle.kh_types.specs.CircleNumbers.{circle_number, names_to, IsName}
use Rattle.kh_types.specs.Circles.{circle_count, circles_of, smoothings_of}
use Rattle.kh_types.specs.Classes.{is_least, joined, AreBelow, IsNamed}
use Rattle.kh_types.specs.Code.{Code, arc_count}
use Rattle.kh_types.proofs.AcceptedLemmas.{IsAccepted-is}
use Rattle.kh_types.proofs.CircleBound.{ArcsBelow-slots, smoothings_of-below}
use Rattle.kh_types.proofs.CircleNumbers.{IsCircle-of, number_of-counted}
use Rattle.kh_types.proofs.ClassLemmas.{slice_index-joined}
use Rattle.kh_types.proofs.JoinedClasses.{IsNamed-joined, IsNamed-range, slice_index-range}
use Rattle.kh_types.proofs.Ranges.{filter-range_more}
use Rattle.kh_types.proofs.ClassCounts.{merged-other}

-- a number that is alone stays alone after pairs of smaller numbers
alone-fold : (m n : ℕ) (classes : List ℕ) (pairs : List (ℕ × ℕ)) (z : ℕ) → IsNamed n classes → AreBelow m pairs → m ≤ n → m ≤ z
    → z < n → slice_index classes z ≡ z → slice_index (fold joined classes pairs) z ≡ z
alone-fold m n classes [] z named below small from z_below alone = alone
alone-fold m n classes (pair ∷ pairs) z named below small from z_below alone =
    let size = named.size in
    let first : pair.0 < n = omega (arith, below.0.0) in
    let second : pair.1 < n = omega (arith, below.0.1) in
    alone-fold m n (joined classes pair) pairs z (IsNamed-joined n classes pair first second named) below.1 small from z_below
    (slice_index-joined classes pair z (omega arith)
    ∙ merged-other (slice_index classes pair.0) (slice_index classes pair.1) (slice_index classes z)
    (omega (arith, alone, named.least pair.0 first, below.0.0)) (omega (arith, alone, named.least pair.1 second, below.0.1))
    ∙ alone)

-- a loop is the circle that it names
loop-alone : (code : Code) (state loop : ℕ) → IsTrue (accepted code) → arc_count code.crossings < loop
    → loop ≤ arc_count code.crossings + code.loops → slice_index (circles_of code state) loop ≡ loop
loop-alone code state loop is past within =
    let crossings = code.crossings in
    let all = arc_count crossings + code.loops + 1 in
    let narrow = arc_count crossings + 1 in
    let below = smoothings_of-below narrow state crossings
    (ArcsBelow-slots narrow crossings ((IsAccepted-is code).0 is).directed.slots (omega arith)) in
    let small : loop < all = omega (arith, within) in
    alone-fold narrow all (range_with_len 0 all) (smoothings_of crossings state) loop (IsNamed-range all) below (omega arith)
    (omega (arith, past)) small (slice_index-range all loop small)

-- so there is one circle more for each loop
loops-count : (code : Code) (state first k : ℕ) → IsTrue (accepted code) → arc_count code.crossings ≤ first
    → first + k ≤ arc_count code.crossings + code.loops
    → length (names_to (circles_of code state) (first + k)) ≡ length (names_to (circles_of code state) first) + k
loops-count code state first zero is past within =
    let e : first + 0 ≡ first = omega arith in
    omega (arith, ap (λ (n : ℕ). length (names_to (circles_of code state) n)) e)
loops-count code state first (suc k) is past within =
    let circles = circles_of code state in
    let next : first + suc k ≡ first + k + 1 = omega arith in
    let loop = first + k + 1 in
    let own = eq-eqb (slice_index circles loop) loop (loop-alone code state loop is (omega (arith, past)) (omega (arith, within, next))) in
    let more : names_to circles (first + k + 1) ≡ names_to circles (first + k) ++ loop ∷ [] =
    filter-range_more (is_least circles) 1 (first + k) loop (omega arith)
    ∙ ap (λ b. names_to circles (first + k) ++ cond b (loop ∷ []) []) own in
    omega (
      arith,
      ap (λ (n : ℕ). length (names_to circles n)) next,
      ap length more,
      length-append (names_to circles (first + k)) (loop ∷ []),
      loops-count code state first k is past (omega (arith, within, next)),
    )

-- the number of the circle of a loop, counted from the last
pub loop-number : (code : Code) (state loop : ℕ) → IsTrue (accepted code) → IsName code loop → arc_count code.crossings < loop
    → circle_number code state loop + 1 + (arc_count code.crossings + code.loops - loop) ≡ circle_count code state
loop-number code state loop is name past =
    let circles = circles_of code state in
    let last = arc_count code.crossings + code.loops in
    let own = loop-alone code state loop is past name.within in
    let number : circle_number code state loop ≡ length (names_to circles (loop - 1)) =
    number_of-counted code state (slice_index circles loop) (IsCircle-of code state loop is name)
    ∙ ap (λ (n : ℕ). length (names_to circles (n - 1))) own in
    let all : loop - 1 + (last - (loop - 1)) ≡ last = omega (arith, name.within, past) in
    omega (
      arith,
      number,
      past,
      name.within,
      ap (λ (n : ℕ). length (names_to circles n)) all,
      loops-count code state (loop - 1) (last - (loop - 1)) is (omega (arith, past)) (omega (arith, all)),
    )
