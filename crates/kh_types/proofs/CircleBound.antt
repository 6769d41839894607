-- A state has at most as many circles as there are crossings, components and loops together. One more pair for each crossing, the
-- ends of its under pass, joins all arcs at the crossing, whatever its smoothing, and so joins all that the passes join. Each pair
-- lowers the number of classes by one at most.
use Rattle.std.proofs.lemmas.Bool.Decides.{nat_tests}
use Rattle.std.proofs.Common.{◌≡◌, ℕ, suc, ◌+◌, ◌-◌, ◌<◌, ◌≤◌, List, [], ◌∷◌, ◌++◌, refl, length, get_or, ap, arith, Bool}
use Rattle.std.specs.Prelude.{nat_eq}
use Rattle.std.specs.List.{flat_map, AllByRecursion}
use Rattle.std.proofs.lemmas.List.Elements.{All-from_get_or, recursion_from_All}
use Rattle.kh_types.specs.declared.limits.TheConstants.{CROSSINGS, CIRCLES}
use Rattle.kh_types.specs.declared.dart.Dart.{Dart}
use Rattle.kh_types.specs.Code.{Code, arc_in, arc_count, IsArc}
use Rattle.kh_types.specs.Bits.{bit}
use Rattle.kh_types.specs.Classes.{classes_of, class_count, Respects, AreBelow}
use Rattle.kh_types.specs.Components.{passes_of, component_count}
use Rattle.kh_types.specs.Darts.{arc_of, IsDart}
use Rattle.kh_types.specs.Circles.{smoothing_of, smoothings_of, circle_count}
use Rattle.kh_types.specs.Accepted.{IsAccepted}
use Rattle.kh_types.proofs.Lists.{AllByRecursion-append, AllByRecursion-first, AllByRecursion-second}
use Rattle.kh_types.proofs.JoinedClasses.{classes_of-same}
use Rattle.kh_types.proofs.ClassCounts.{class_count-append, class_count-wider, class_count-components, class_count-circles}
use Rattle.kh_types.proofs.JoinedSlots.{smoothings_from, pairs_by}

-- the ends of the under pass of a crossing
abbrev under_of : List ℕ → List (ℕ × ℕ)
under_of slots = (arc_in slots 0, arc_in slots 2) ∷ []

-- with the ends of the under pass, a smoothing joins those of the over pass too
over-joined : (f : ℕ → ℕ) (is_zero : Bool) (slots : List ℕ) → Respects f (pairs_by is_zero slots)
    → f (arc_in slots 0) ≡ f (arc_in slots 2) → f (arc_in slots 1) ≡ f (arc_in slots 3)
over-joined f is_zero slots smoothed under = grind (arith, nat_tests)

passes-joined : (f : ℕ → ℕ) (state place : ℕ) (crossings : List (List ℕ)) → Respects f (smoothings_from state place crossings)
    → Respects f (flat_map under_of crossings) → Respects f (flat_map passes_of crossings)
passes-joined f state place [] smoothed under = tt
passes-joined f state place (slots ∷ crossings) smoothed under =
    let Same : ℕ × ℕ → Type 0 = λ pair. f pair.0 ≡ f pair.1 in
    let here = smoothing_of (bit state place) slots in
    let later = smoothings_from state (place + 1) crossings in
    let over = over-joined f (nat_eq (bit state place) 0) slots (AllByRecursion-first Same here later smoothed) under.0 in
    (under.0, (over, passes-joined f state (place + 1) crossings (AllByRecursion-second Same here later smoothed) under.1))

under-joined : (f : ℕ → ℕ) (crossings : List (List ℕ)) → Respects f (flat_map passes_of crossings)
    → Respects f (flat_map under_of crossings)
under-joined f [] passes = tt
under-joined f (slots ∷ crossings) passes = (passes.0, under-joined f crossings passes.1.1)

-- the arcs at the slots of each crossing are below n
abbrev pub ArcsBelow : ℕ → List (List ℕ) → Type 0
ArcsBelow n crossings = AllByRecursion (λ slots. (slot : ℕ) → slot < 4 → arc_in slots slot < n) crossings

-- they are where each slot holds an arc
pub ArcsBelow-slots : (n : ℕ) (crossings : List (List ℕ))
    → ((dart : Dart) → IsDart crossings dart → IsArc crossings (arc_of crossings dart)) → arc_count crossings < n
    → ArcsBelow n crossings
ArcsBelow-slots n crossings arcs few =
    let Below : List ℕ → Type 0 = λ slots. (slot : ℕ) → slot < 4 → arc_in slots slot < n in
    recursion_from_All Below crossings
    (All-from_get_or Below crossings []
    (λ place within slot slot_below.
    let dart : Dart = record { crossing = place + 1; slot = slot } in
    let is_arc = arcs dart
    (record { crossing = record { positive = omega arith; within = omega arith }; slot = slot_below }) in
    let e : place + 1 - 1 ≡ place = omega arith in
    omega (arith, ap (λ k. arc_in (get_or crossings k []) slot) e, is_arc.within, few)))

pairs_by-below : (n : ℕ) (is_zero : Bool) (slots : List ℕ) → ((slot : ℕ) → slot < 4 → arc_in slots slot < n)
    → AreBelow n (pairs_by is_zero slots)
pairs_by-below n is_zero slots below = grind (arith, nat_tests)

smoothings_from-below : (n state place : ℕ) (crossings : List (List ℕ)) → ArcsBelow n crossings
    → AreBelow n (smoothings_from state place crossings)
smoothings_from-below n state place [] below = tt
smoothings_from-below n state place (slots ∷ crossings) below =
    grind (arith, nat_tests, AllByRecursion-append, smoothings_from, pairs_by-below, smoothings_from-below n state (place + 1) crossings below.1)

pub smoothings_of-below : (n state : ℕ) (crossings : List (List ℕ)) → ArcsBelow n crossings
    → AreBelow n (smoothings_of crossings state)
smoothings_of-below n state = smoothings_from-below n state 0

pub passes_of-below : (n : ℕ) (crossings : List (List ℕ)) → ArcsBelow n crossings → AreBelow n (flat_map passes_of crossings)
passes_of-below n [] below = tt
passes_of-below n (slots ∷ crossings) below = grind (arith, nat_tests, passes_of-below n crossings below.1)

under_of-below : (n : ℕ) (crossings : List (List ℕ)) → ArcsBelow n crossings → AreBelow n (flat_map under_of crossings)
under_of-below n [] below = tt
under_of-below n (slots ∷ crossings) below = grind (arith, nat_tests, under_of-below n crossings below.1)

length-under_of : (crossings : List (List ℕ)) → length (flat_map under_of crossings) ≡ length crossings
length-under_of [] = refl
length-under_of (slots ∷ crossings) = ap suc (length-under_of crossings)

-- the smoothings and the ends of under passes join what the passes and the smoothings join
classes_of-with_under : (n state : ℕ) (crossings : List (List ℕ)) → ArcsBelow n crossings
    → classes_of n (smoothings_of crossings state ++ flat_map under_of crossings)
    ≡ classes_of n (flat_map passes_of crossings ++ smoothings_of crossings state)
classes_of-with_under n state crossings below =
    let smoothings = smoothings_of crossings state in
    let under = flat_map under_of crossings in
    let passes = flat_map passes_of crossings in
    let Below : ℕ × ℕ → Type 0 = λ pair. (pair.0 < n) × (pair.1 < n) in
    let smoothings_below = smoothings_of-below n state crossings below in
    let Same : (ℕ → ℕ) → ℕ × ℕ → Type 0 = λ f pair. f pair.0 ≡ f pair.1 in
    classes_of-same n (smoothings ++ under) (passes ++ smoothings)
    (AllByRecursion-append Below smoothings under smoothings_below (under_of-below n crossings below))
    (AllByRecursion-append Below passes smoothings (passes_of-below n crossings below) smoothings_below)
    (λ f respects.
    let first = AllByRecursion-first (Same f) smoothings under respects in
    AllByRecursion-append (Same f) passes smoothings
    (passes-joined f state 0 crossings first (AllByRecursion-second (Same f) smoothings under respects)) first)
    (λ f respects.
    AllByRecursion-append (Same f) smoothings under (AllByRecursion-second (Same f) passes smoothings respects)
    (under-joined f crossings (AllByRecursion-first (Same f) passes smoothings respects)))

-- the bound, of classes among any numbers
class_count-smoothings : (n state : ℕ) (crossings : List (List ℕ)) → ArcsBelow n crossings
    → class_count (classes_of n (smoothings_of crossings state))
    ≤ class_count (classes_of n (flat_map passes_of crossings)) + length crossings
class_count-smoothings n state crossings below =
    let smoothings = smoothings_of crossings state in
    let under = flat_map under_of crossings in
    let passes = flat_map passes_of crossings in
    let smoothings_below = smoothings_of-below n state crossings below in
    omega (
      arith,
      ap class_count (classes_of-with_under n state crossings below),
      (class_count-append n smoothings under smoothings_below (under_of-below n crossings below)).1,
      (class_count-append n passes smoothings (passes_of-below n crossings below) smoothings_below).0,
      length-under_of crossings,
    )

-- the bound, of circles
pub circle_count-le : (code : Code) (state : ℕ)
    → ((dart : Dart) → IsDart code.crossings dart → IsArc code.crossings (arc_of code.crossings dart))
    → circle_count code state ≤ length code.crossings + component_count code.crossings + code.loops
circle_count-le code state slots =
    let crossings = code.crossings in
    let n = arc_count crossings + code.loops + 1 in
    let below = ArcsBelow-slots (arc_count crossings + 1) crossings slots (omega arith) in
    let all_below = ArcsBelow-slots n crossings slots (omega arith) in
    let passes = flat_map passes_of crossings in
    let passes_below = passes_of-below (arc_count crossings + 1) crossings below in
    let same : n ≡ arc_count crossings + 1 + code.loops = omega arith in
    omega (
      arith,
      class_count-circles code state (smoothings_of-below n state crossings all_below),
      class_count-smoothings n state crossings all_below,
      ap (λ m. class_count (classes_of m passes)) same,
      class_count-wider (arc_count crossings + 1) code.loops passes passes_below,
      class_count-components crossings passes_below,
    )

-- within the limits
pub circle_count-within : (code : Code) (state : ℕ) → IsAccepted code → length code.crossings ≤ CROSSINGS
    → circle_count code state ≤ CIRCLES
circle_count-within code state is few = omega (arith, circle_count-le code state is.directed.slots, is.components)
