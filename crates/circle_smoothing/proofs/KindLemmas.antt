-- Kinds of states: what a walk over the branches has counted, and how many states are of a kind. A kind is a number of ones and a
-- number of circles. A number that is no arc is a class of its own; so among however many numbers, the classes that the joins
-- take away are as many as the arcs and loops less the circles, and at most two for each crossing. A place in the table is that
-- of its row, the ones, and its column, the joins, and of no others: so the states counted at the place of a kind are those of
-- the kind. No state has more ones, circles or joins than the bounds, so past them a kind has no states. Hence the table that a
-- walk over all branches has counted holds the number of states of each kind. The same way of numbering rows and columns gives
-- back the ones and the circles of a kind from its own number.
use Rattle.std.proofs.lemmas.Bool.Decides.{nat_tests}
use Rattle.std.proofs.Common.{◌≡◌, ℕ, zero, suc, ◌+◌, ◌-◌, ◌*◌, ◌/◌, ◌%◌, ◌^◌, ◌<◌, ◌≤◌, ◌∙◌, List, [], ◌∷◌, length, get_or, ap, ap₂, sym, refl, arith, Bool, true, false, eq-eqb}
use Rattle.std.specs.Prelude.{nat_eq, ◌&&◌, slice_index, replicate, IsTrue}
use Rattle.std.specs.List.{count_by, enumerate_from, flat_map, range_with_len}
use Rattle.std.proofs.Math.Path.{fun_ext}
use Rattle.std.proofs.Math.Pow.{pow_mono}
use Rattle.std.proofs.lemmas.Bool.{eqb-true}
use Rattle.std.proofs.lemmas.List.{length-append}
use Rattle.std.proofs.lemmas.List.FromFn.{length-range_with_len}
use Rattle.std.proofs.lemmas.List.Sums.{count_by-le-length, length-filter, sum_by-cons}
use Rattle.std.proofs.lemmas.Nat.{div-mul-add, mod-mul-add}
use Rattle.kh_types.specs.Acceptance.{accepted}
use Rattle.kh_types.specs.Accepted.{IsAccepted}
use Rattle.kh_types.proofs.AcceptedLemmas.{IsAccepted-is}
use Rattle.kh_types.specs.Bits.{bit, ones}
use Rattle.kh_types.specs.Circles.{circle_count, smoothing_of, smoothings_of}
use Rattle.kh_types.specs.Classes.{class_count, classes_of}
use Rattle.kh_types.specs.Code.{Code, arc_count}
use Rattle.kh_types.specs.Generators.{one_count, states}
use Rattle.kh_types.specs.declared.limits.TheConstants.{CIRCLES, CROSSINGS}
use Rattle.kh_types.proofs.CircleBound.{ArcsBelow-slots, circle_count-within, smoothings_of-below}
use Rattle.kh_types.proofs.ClassCounts.{class_count-append, class_count-circles, class_count-wider}
use Rattle.kh_types.proofs.QuantumDegrees.{one_count-le}
use Rattle.circle_smoothing.specs.Branches.{HaveArcsBelow, branch_count, count_place, joins_of}
use Rattle.circle_smoothing.specs.Kinds.{IsCounted, code_of_counted, is_of_kind, kind_circles, kind_count, kind_of, kind_ones, arc_and_loop_count, state_kind, state_place}
use Rattle.circle_smoothing.specs.declared.branches.TheConstants.{COUNTS, JOINS, MEMBERS}
use Rattle.circle_smoothing.specs.declared.kinds.CountedDiagram.TheInside.{Inside}

-- the arcs of an accepted code are numbers that are put into classes
pub HaveArcsBelow-accepted : (code : Code) (crossings : List (List ℕ)) → crossings ≡ code.crossings → IsAccepted code
    → length crossings ≤ CROSSINGS → HaveArcsBelow MEMBERS crossings
HaveArcsBelow-accepted code crossings same is few = grind (arith, nat_tests, ArcsBelow-slots)

-- the classes of arcs among the numbers below MEMBERS, among the arcs and loops, and among the arcs alone
count-among : (code : Code) (state wide : ℕ) → IsAccepted code → arc_count code.crossings + 1 ≤ wide
    → class_count (classes_of wide (smoothings_of code.crossings state)) + arc_and_loop_count code ≡ circle_count code state + wide
count-among code state wide is fits =
    let crossings = code.crossings in
    let narrow = arc_count crossings + 1 in
    let pairs = smoothings_of crossings state in
    let below = smoothings_of-below narrow state crossings (ArcsBelow-slots narrow crossings is.directed.slots (omega arith)) in
    let all = arc_count crossings + code.loops + 1 in
    let all_below = smoothings_of-below all state crossings (ArcsBelow-slots all crossings is.directed.slots (omega arith)) in
    let is_wide : wide ≡ narrow + (wide - narrow) = omega (arith, fits) in
    let is_all : all ≡ narrow + code.loops = omega arith in
    omega (
      arith,
      fits,
      ap (λ m. class_count (classes_of m pairs)) is_wide,
      ap (λ m. class_count (classes_of m pairs)) is_all,
      class_count-wider narrow (wide - narrow) pairs below,
      class_count-wider narrow code.loops pairs below,
      class_count-circles code state all_below,
    )

circle_count-le-names : (code : Code) (state : ℕ) → circle_count code state ≤ arc_and_loop_count code
circle_count-le-names code state = grind (arith, nat_tests, length-filter, count_by-le-length, length-range_with_len)

-- each join makes one class fewer
joins_of-state : (code : Code) (state : ℕ) → IsAccepted code → length code.crossings ≤ CROSSINGS
    → joins_of code.crossings (range_with_len 0 MEMBERS) state ≡ arc_and_loop_count code - circle_count code state
joins_of-state code state is few =
    omega (arith, count-among code state MEMBERS is (omega (arith, few)), circle_count-le-names code state)

length-smoothing_of : (slots : List ℕ) (smoothing : ℕ) → length (smoothing_of smoothing slots) ≡ 2
length-smoothing_of slots smoothing = grind (arith, nat_tests)

length-smoothings_from : (state place : ℕ) (crossings : List (List ℕ))
    → length (flat_map (λ at. smoothing_of (bit state at.0) at.1) (enumerate_from place crossings)) ≡ 2 * length crossings
length-smoothings_from state place [] = refl
length-smoothings_from state place (slots ∷ crossings) =
    grind (arith, nat_tests, length-append, length-smoothing_of, length-smoothings_from state (place + 1) crossings)

-- so there are at most two for each crossing
joins-few : (code : Code) (state : ℕ) → IsAccepted code → length code.crossings ≤ CROSSINGS
    → arc_and_loop_count code - circle_count code state ≤ JOINS
joins-few code state is few =
    let crossings = code.crossings in
    let narrow = arc_count crossings + 1 in
    let pairs = smoothings_of crossings state in
    let below = smoothings_of-below narrow state crossings (ArcsBelow-slots narrow crossings is.directed.slots (omega arith)) in
    let zero_more : 0 + narrow ≡ narrow = omega arith in
    let alone : class_count (classes_of (0 + narrow) []) ≡ 0 + narrow = class_count-wider 0 narrow [] tt in
    omega (
      arith,
      few,
      alone,
      ap (λ m. class_count (classes_of m [])) zero_more,
      (class_count-append narrow [] pairs tt below).1,
      length-smoothings_from state 0 crossings,
      count-among code state narrow is (omega arith),
    )

-- the branch of all states
pub branch_count-states : (code : Code) (place : ℕ) → IsAccepted code → length code.crossings ≤ CROSSINGS
    → branch_count code.crossings 0 (range_with_len 0 MEMBERS) place
    ≡ count_by (λ state. nat_eq (state_place code state) place) (states code)
branch_count-states code place is few = grind (arith, nat_tests, fun_ext, joins_of-state)

-- a place in a table is that of its row and its column
same_place : (width row column wanted_row wanted_column : ℕ) → column < width → wanted_column < width
    → row * width + column ≡ wanted_row * width + wanted_column → (row ≡ wanted_row) × (column ≡ wanted_column)
same_place width row column wanted_row wanted_column within wanted_within same = (
  sym (div-mul-add row width column within) ∙ ap (λ n. n / width) same ∙ div-mul-add wanted_row width wanted_column wanted_within,
  sym (mod-mul-add row width column within) ∙ ap (λ n. n % width) same ∙ mod-mul-add wanted_row width wanted_column wanted_within,
)

tests-agree : (a b c : Bool) → (a ≡ true → (b ≡ true) × (c ≡ true)) → (b ≡ true → c ≡ true → a ≡ true) → a ≡ (b && c)
tests-agree a b c there back = grind (arith, nat_tests)

-- the test of a place is that of the row and the column
place_test : (width row column wanted_row wanted_column : ℕ) → column < width → wanted_column < width
    → nat_eq (row * width + column) (wanted_row * width + wanted_column) ≡ (nat_eq row wanted_row && nat_eq column wanted_column)
place_test width row column wanted_row wanted_column within wanted_within =
    let a = row * width + column in
    let b = wanted_row * width + wanted_column in
    tests-agree (nat_eq a b) (nat_eq row wanted_row) (nat_eq column wanted_column)
    (λ same.
    let both = same_place width row column wanted_row wanted_column within wanted_within (eqb-true a b same) in
    (eq-eqb row wanted_row both.0, eq-eqb column wanted_column both.1))
    (λ same_row same_column.
    eq-eqb a b
    (ap₂ (λ r c. r * width + c) (eqb-true row wanted_row same_row) (eqb-true column wanted_column same_column)))

less-test : (all less wanted : ℕ) → less ≤ all → wanted ≤ all → nat_eq (all - less) (all - wanted) ≡ nat_eq less wanted
less-test all less wanted few wanted_few = grind (arith, nat_tests)

-- states of a kind are those that are counted at its place
pub is_of_kind-place : (code : Code) (state ones circles : ℕ) → IsAccepted code → length code.crossings ≤ CROSSINGS
    → circles ≤ arc_and_loop_count code → arc_and_loop_count code - circles ≤ JOINS
    → nat_eq (state_place code state) (count_place ones (arc_and_loop_count code - circles)) ≡ is_of_kind code ones circles state
is_of_kind-place code state ones circles is few within joins_within =
    place_test (JOINS + 1) (one_count code state) (arc_and_loop_count code - circle_count code state) ones (arc_and_loop_count code - circles)
    (omega (arith, joins-few code state is few)) (omega (arith, joins_within))
    ∙ ap (λ b. nat_eq (one_count code state) ones && b)
    (less-test (arc_and_loop_count code) (circle_count code state) circles (circle_count-le-names code state) within)

pub kind_count-place : (code : Code) (ones circles : ℕ) → IsAccepted code → length code.crossings ≤ CROSSINGS
    → circles ≤ arc_and_loop_count code → arc_and_loop_count code - circles ≤ JOINS
    → count_by (λ state. nat_eq (state_place code state) (count_place ones (arc_and_loop_count code - circles))) (states code)
    ≡ kind_count code ones circles
kind_count-place code ones circles is few within joins_within =
    ap (λ (p : ℕ → Bool). count_by p (states code))
    (fun_ext (λ state. is_of_kind-place code state ones circles is few within joins_within))

-- there are no states of a kind with more ones, more circles or more joins than a state has
is_of_kind-holds : (code : Code) (state ones circles : ℕ) → is_of_kind code ones circles state ≡ true
    → (one_count code state ≡ ones) × (circle_count code state ≡ circles)
is_of_kind-holds code state ones circles holds = grind (arith, nat_tests)

count_by-none : (p : ℕ → Bool) (xs : List ℕ) → ((x : ℕ) → p x ≡ false) → count_by p xs ≡ 0
count_by-none p [] none = refl
count_by-none p (x ∷ xs) none = grind (arith, nat_tests, sum_by-cons, count_by-none p xs none)

pub kind_count-none : (code : Code) (ones circles : ℕ) → IsAccepted code → length code.crossings ≤ CROSSINGS
    → (ones ≤ CROSSINGS → circles ≤ arc_and_loop_count code → arc_and_loop_count code - circles ≤ JOINS → ⊥) → kind_count code ones circles ≡ 0
kind_count-none code ones circles is few none =
    count_by-none (is_of_kind code ones circles) (states code)
    (λ state. by_test (is_of_kind code ones circles state) (λ holds.
    let both = is_of_kind-holds code state ones circles holds in
    none (omega (arith, both.0, one_count-le code state, few)) (omega (arith, both.1, circle_count-le-names code state))
    (omega (arith, both.1, joins-few code state is few))))
  where
    by_test : (b : Bool) → (b ≡ true → ⊥) → b ≡ false
    by_test true never = absurd (never refl)
    by_test false never = refl

pub kind_count-le : (code : Code) (ones circles : ℕ) → length code.crossings ≤ CROSSINGS → kind_count code ones circles ≤ 2 ^ CROSSINGS
kind_count-le code ones circles few = grind (arith, nat_tests, pow_mono, count_by-le-length, length-range_with_len)

pub kind_count-nothing : (code : Code) (taken circles : ℕ) → IsAccepted code → length code.crossings ≤ CROSSINGS
    → (taken ≤ CROSSINGS → circles ≤ arc_and_loop_count code → arc_and_loop_count code - circles ≤ JOINS → ⊥) → 0 ≡ kind_count code taken circles
kind_count-nothing code taken circles is few none = sym (kind_count-none code taken circles is few none)

pub slice_index-zeros : (n place : ℕ) → slice_index (replicate n 0) place ≡ 0
slice_index-zeros zero place = refl
slice_index-zeros (suc n) zero = refl
slice_index-zeros (suc n) (suc place) = slice_index-zeros n place

-- what a walk over all branches has counted
pub IsCounted-counted : (code : Code) (crossings : List (List ℕ)) (none counts : List ℕ) (taken : ℕ) (classes : List ℕ)
    → IsTrue (accepted code) → crossings ≡ code.crossings → length crossings ≤ CROSSINGS → taken ≡ 0
    → classes ≡ range_with_len 0 MEMBERS → length counts ≡ COUNTS → ((place : ℕ) → slice_index none place ≡ 0)
    → ((place : ℕ) → place < COUNTS → slice_index counts place ≡ slice_index none place + branch_count crossings taken classes place)
    → IsCounted (record { diagram = code; counts = counts })
IsCounted-counted code crossings none counts taken classes is same few none_taken alone size zeros counted =
    let small : length code.crossings ≤ CROSSINGS = omega (arith, few, ap length same) in
    record {
      code = is;
      few = small;
      size = size;
      counts =
          λ place within.
          omega (
            arith,
            counted place within,
            zeros place,
            ap (λ (all : List (List ℕ)). branch_count all taken classes place) same,
            ap (λ t. branch_count code.crossings t classes place) none_taken,
            ap (λ (start : List ℕ). branch_count code.crossings 0 start place) alone,
            branch_count-states code place ((IsAccepted-is code).0 is) small,
          );
    }

-- what is kept at the place of a kind
pub kind_count-kept : (code : Code) (kinds : Inside) (taken circles names : ℕ) → code_of_counted kinds ≡ code → IsCounted kinds
    → names ≡ arc_and_loop_count code → taken ≤ CROSSINGS → circles ≤ names → names - circles ≤ JOINS
    → get_or kinds.counts (taken * (JOINS + 1) + (names - circles)) 0 ≡ kind_count code taken circles
kind_count-kept code kinds taken circles names view kept are_names few within joins =
    let place = taken * (JOINS + 1) + (names - circles) in
    let same_names : names ≡ arc_and_loop_count kinds.diagram = are_names ∙ ap arc_and_loop_count (sym view) in
    kept.counts place (omega (arith, few, joins))
    ∙ ap (λ m. count_by (λ state. nat_eq (state_place kinds.diagram state) (taken * (JOINS + 1) + (m - circles))) (states kinds.diagram))
    same_names
    ∙ kind_count-place kinds.diagram taken circles ((IsAccepted-is kinds.diagram).0 kept.code) kept.few
    (omega (arith, within, same_names)) (omega (arith, joins, same_names))
    ∙ ap (λ (c : Code). kind_count c taken circles) view

-- the kinds by their numbers
pub kind_circles-kind_of : (taken circles : ℕ) → circles ≤ CIRCLES → kind_circles (kind_of taken circles) ≡ circles
kind_circles-kind_of taken circles few = mod-mul-add taken (CIRCLES + 1) circles (omega (arith, few))

pub kind_ones-kind_of : (taken circles : ℕ) → circles ≤ CIRCLES → kind_ones (kind_of taken circles) ≡ taken
kind_ones-kind_of taken circles few = div-mul-add taken (CIRCLES + 1) circles (omega (arith, few))

state_kind-test : (code : Code) (kind state : ℕ) → IsAccepted code → length code.crossings ≤ CROSSINGS
    → nat_eq (state_kind code state) kind ≡ is_of_kind code (kind_ones kind) (kind_circles kind) state
state_kind-test code kind state is few =
    let parts : kind ≡ kind_of (kind_ones kind) (kind_circles kind) = omega arith in
    ap (λ k. nat_eq (state_kind code state) k) parts
    ∙ place_test (CIRCLES + 1) (one_count code state) (circle_count code state) (kind_ones kind) (kind_circles kind)
    (omega (arith, circle_count-within code state is few)) (omega arith)

pub kind_count-states : (code : Code) (kind : ℕ) → IsAccepted code → length code.crossings ≤ CROSSINGS
    → count_by (λ state. nat_eq (state_kind code state) kind) (states code) ≡ kind_count code (kind_ones kind) (kind_circles kind)
kind_count-states code kind is few = grind (arith, nat_tests, fun_ext, state_kind-test)
