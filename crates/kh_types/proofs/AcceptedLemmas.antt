-- Each rule of acceptance is broken nowhere exactly where its fact holds, and so a code breaks no rule exactly where it is
-- accepted in the words of the subject. A rule is a test of each crossing, arc or slot, and the first fault is that of the first
-- number in a range; so there is none exactly where all pass. Then rule by rule: slots hold arcs, each arc stands twice,
-- components are intervals, under and over passes go to the next arc, in a component of two arcs no two under passes go in one
-- direction; the number of faces, and that of components and loops (the checkerboard's rule is shown elsewhere). A code is
-- directed where it breaks none of the first six rules, and accepted where it breaks none at all. The arcs of an accepted code
-- stand twice.
use Rattle.std.proofs.Common.{◌≡◌, ◌≢◌, ◌↔◌, ℕ, ◌⊎◌, inl, inr, ◌+◌, ◌-◌, ◌<◌, ◌≤◌, ◌∙◌, List, length, sym, ap, subst, arith, Bool, true, false, not, ◌&&◌}
use Rattle.std.specs.Prelude.{Option, None, IsTrue, nat_eq, nat_lt, ◌||◌}
use Rattle.std.specs.List.{list_any, range_with_len}
use Rattle.std.specs.Option.{option_or}
use Rattle.std.proofs.lemmas.Bool.{cases_Bool, and_parts, and_left, and_right, both_ways, eq-eqb, eqb-true, not-false}
use Rattle.std.proofs.lemmas.Bool.Decides.{nat_tests}
use Rattle.kh_types.specs.declared.dart.Dart.{Dart}
use Rattle.kh_types.specs.declared.fault.CodeFault.{CodeFault}
use Rattle.kh_types.specs.declared.fault.CodeFault.TheVariants.{ArcTimes, Interval, Under, Over, TwoArc}
use Rattle.kh_types.specs.declared.limits.TheConstants.{COMPONENTS}
use Rattle.kh_types.specs.Code.{Code, IsArc, IsCrossing, arc_in, place_of, slots_of, arc_count}
use Rattle.kh_types.specs.Components.{components_of, component_of, component_count, arcs_in, is_interval, next}
use Rattle.kh_types.specs.Classes.{is_least}
use Rattle.kh_types.specs.Darts.{dart_at, dart_place, dart_count, arc_of, times, IsDart, HasArcsTwice}
use Rattle.kh_types.specs.Faces.{face_count, planar_face_count}
use Rattle.kh_types.specs.Acceptance.{fault_if, first_of, arc_range_at, arc_range_fault, arc_times_at, arc_times_fault, interval_at, interval_fault, under_at, under_fault, over_at, over_fault, two_arc_at, two_arc_fault, genus_fault, components_fault, direction_fault, accepted}
use Rattle.kh_types.specs.Accepted.{IsInterval, IsDirected, IsAccepted}
use Rattle.kh_types.proofs.FaultLemmas.{none_at, none_of_all, faults-from_accepted, accepted-from_faults}
use Rattle.kh_types.proofs.CheckerboardLemmas.{choice-from_none, none-from_choice}
use Rattle.kh_types.proofs.RangeCounts.{list_all-at, list_all-each, list_any-at, list_any-one}
use Rattle.kh_types.proofs.DartPairs.{IsDart-at, dart_place-below, dart_at-place}

-- no fault, and no test that holds

fault_if-none : (holds : Bool) (fault : CodeFault) → (fault_if holds fault ≡ None) ↔ (holds ≡ false)
fault_if-none holds fault = grind (arith, nat_tests)

pub second_fails : (b c : Bool) → (b && c) ≡ false → b ≡ true → c ≡ false
second_fails b c fails holds = grind (arith, nat_tests)

-- a range has no fault exactly where none of its numbers has one
in_range : (fault_at : ℕ → Option CodeFault) (a n x : ℕ) → first_of fault_at (range_with_len a n) ≡ None → a ≤ x → x < a + n
    → fault_at x ≡ None
in_range fault_at a n x none from below =
    let is_x : a + (x - a) ≡ x = omega arith in
    ap fault_at (sym is_x) ∙ none_at fault_at a n (x - a) (omega arith) none

over_range : (fault_at : ℕ → Option CodeFault) (a n : ℕ) → ((x : ℕ) → a ≤ x → x < a + n → fault_at x ≡ None)
    → first_of fault_at (range_with_len a n) ≡ None
over_range fault_at a n none = none_of_all fault_at a n (λ k below. none (a + k) (omega arith) (omega arith))

-- a rule of each crossing
crossings-none : (fault_at : ℕ → Option CodeFault) (crossings : List (List ℕ))
    → (first_of fault_at (range_with_len 1 (length crossings)) ≡ None)
    ↔ ((crossing : ℕ) → IsCrossing crossings crossing → fault_at crossing ≡ None)
crossings-none fault_at crossings = (
  λ none crossing is. in_range fault_at 1 (length crossings) crossing none is.positive (omega (arith, is.within)),
  λ none. over_range fault_at 1 (length crossings)
      (λ crossing from below. none crossing (record { positive = from; within = omega (arith, below) })),
)

each_crossing : (fault_at : ℕ → Option CodeFault) (Fact : ℕ → Type 0) (crossings : List (List ℕ))
    → ((crossing : ℕ) → (fault_at crossing ≡ None) ↔ Fact crossing)
    → (first_of fault_at (range_with_len 1 (length crossings)) ≡ None)
    ↔ ((crossing : ℕ) → IsCrossing crossings crossing → Fact crossing)
each_crossing fault_at Fact crossings iff = grind (arith, nat_tests, crossings-none)

-- a rule of each arc
each_arc : (fault_at : ℕ → Option CodeFault) (Fact : ℕ → Type 0) (crossings : List (List ℕ))
    → ((arc : ℕ) → (fault_at arc ≡ None) ↔ Fact arc)
    → (first_of fault_at (range_with_len 1 (arc_count crossings)) ≡ None)
    ↔ ((arc : ℕ) → IsArc crossings arc → Fact arc)
each_arc fault_at Fact crossings iff = (
  λ none arc is. (iff arc).0 (in_range fault_at 1 (arc_count crossings) arc none is.positive (omega (arith, is.within))),
  λ facts. over_range fault_at 1 (arc_count crossings)
      (λ arc from below. (iff arc).1 (facts arc (record { positive = from; within = omega (arith, below) }))),
)

-- the slots hold arcs

none-within : (x most : ℕ) (fault : CodeFault) → (fault_if (nat_lt x 1 || nat_lt most x) fault ≡ None) ↔ ((1 ≤ x) × (x ≤ most))
none-within x most fault = (λ none. grind (arith, nat_tests), λ within. grind (arith, nat_tests))

arc_range_at-none : (crossings : List (List ℕ)) (place : ℕ)
    → (arc_range_at crossings place ≡ None) ↔ IsArc crossings (arc_of crossings (dart_at place))
arc_range_at-none crossings place = grind (arith, nat_tests)

pub arc_range_fault-none : (crossings : List (List ℕ))
    → (arc_range_fault crossings ≡ None) ↔ ((dart : Dart) → IsDart crossings dart → IsArc crossings (arc_of crossings dart))
arc_range_fault-none crossings = (
  λ none dart is.
      let place = dart_place dart in
      let below = dart_place-below crossings dart is in
      subst (λ (d : Dart). IsArc crossings (arc_of crossings d)) (dart_at-place crossings dart is)
      ((arc_range_at-none crossings place).0
      (in_range (arc_range_at crossings) 0 (dart_count crossings) place none (omega arith) (omega (arith, below)))),
  λ arcs. over_range (arc_range_at crossings) 0 (dart_count crossings)
      (λ place from below.
      (arc_range_at-none crossings place).1 (arcs (dart_at place) (IsDart-at crossings place (omega (arith, below))))),
)

-- each arc stands twice

none-same : (x y : ℕ) (fault : CodeFault) → (fault_if (not (nat_eq x y)) fault ≡ None) ↔ (x ≡ y)
none-same x y fault = (λ none. grind (arith, nat_tests), λ same. grind (arith, nat_tests))

pub arc_times_fault-none : (crossings : List (List ℕ))
    → (arc_times_fault crossings ≡ None) ↔ ((arc : ℕ) → IsArc crossings arc → times crossings arc ≡ 2)
arc_times_fault-none crossings =
    each_arc (arc_times_at crossings) (λ arc. times crossings arc ≡ 2) crossings
    (λ arc. none-same (times crossings arc) 2 (ArcTimes arc (times crossings arc)))

-- components are intervals

IsInterval-is : (components : List ℕ) (first : ℕ) → (is_interval components first ≡ true) ↔ IsInterval components first
IsInterval-is components first = (
  λ holds arc from below. eqb-true (component_of components arc) first
      (list_all-at (λ x. nat_eq (component_of components x) first) first (arcs_in components first) arc holds from below),
  λ is. list_all-each (λ x. nat_eq (component_of components x) first) first (arcs_in components first)
      (λ arc from below. eq-eqb (component_of components arc) first (is arc from below)),
)

interval_at-none : (components : List ℕ) (arc : ℕ)
    → (interval_at components arc ≡ None) ↔ (component_of components arc ≡ arc → IsInterval components arc)
interval_at-none components arc =
    let iff = fault_if-none (is_least components arc && not (is_interval components arc)) (Interval arc) in (
      λ none least. (IsInterval-is components arc).0
          (not-false (is_interval components arc)
          (second_fails (is_least components arc) (not (is_interval components arc)) (iff.0 none)
          (eq-eqb (component_of components arc) arc least))),
      λ is. iff.1 (elim (cases_Bool (is_least components arc)) [
        | inl least ↦ and_right (is_least components arc) (not (is_interval components arc))
            (ap not ((IsInterval-is components arc).1 (is (eqb-true (component_of components arc) arc least))))
        | inr other ↦ and_left (is_least components arc) (not (is_interval components arc)) other
      ]),
    )

pub interval_fault-none : (crossings : List (List ℕ)) → (interval_fault crossings ≡ None)
    ↔ ((arc : ℕ) → IsArc crossings arc → component_of (components_of crossings) arc ≡ arc → IsInterval (components_of crossings) arc)
interval_fault-none crossings =
    let components = components_of crossings in
    each_arc (interval_at components) (λ arc. component_of components arc ≡ arc → IsInterval components arc) crossings
    (λ arc. interval_at-none components arc)

-- under passes go to the next arc

pub under_fault-none : (crossings : List (List ℕ)) → (under_fault crossings ≡ None)
    ↔ ((crossing : ℕ) → IsCrossing crossings crossing
    → arc_in (slots_of crossings crossing) 2 ≡ next crossings (arc_in (slots_of crossings crossing) 0))
under_fault-none crossings =
    let slots = λ (crossing : ℕ). slots_of crossings crossing in
    each_crossing (under_at crossings (components_of crossings))
    (λ crossing. arc_in (slots crossing) 2 ≡ next crossings (arc_in (slots crossing) 0)) crossings
    (λ crossing. none-same (arc_in (slots crossing) 2) (next crossings (arc_in (slots crossing) 0)) (Under crossing))

-- over passes go to the next arc, in one direction or the other

none-either : (x after_y y after_x : ℕ) (fault : CodeFault)
    → (fault_if (not (nat_eq x after_y) && not (nat_eq y after_x)) fault ≡ None) ↔ ((x ≡ after_y) ⊎ (y ≡ after_x))
none-either x after_y y after_x fault = (λ none. grind (arith, nat_tests), λ either. grind (arith, nat_tests))

pub over_fault-none : (crossings : List (List ℕ)) → (over_fault crossings ≡ None)
    ↔ ((crossing : ℕ) → IsCrossing crossings crossing
    → (arc_in (slots_of crossings crossing) 3 ≡ next crossings (arc_in (slots_of crossings crossing) 1))
    ⊎ (arc_in (slots_of crossings crossing) 1 ≡ next crossings (arc_in (slots_of crossings crossing) 3)))
over_fault-none crossings =
    let arc = λ (crossing slot : ℕ). arc_in (slots_of crossings crossing) slot in
    each_crossing (over_at crossings (components_of crossings))
    (λ crossing. (arc crossing 3 ≡ next crossings (arc crossing 1)) ⊎ (arc crossing 1 ≡ next crossings (arc crossing 3))) crossings
    (λ crossing. none-either (arc crossing 3) (next crossings (arc crossing 1)) (arc crossing 1) (next crossings (arc crossing 3))
    (Over crossing))

-- no two under passes go in one direction in a component of two arcs

-- an earlier crossing whose under pass comes in on the same arc
abbrev comes_in_on : List (List ℕ) → ℕ → ℕ → Bool
comes_in_on crossings incoming earlier = nat_eq (arc_in (slots_of crossings earlier) 0) incoming

-- no earlier crossing's under pass goes in the direction of that of a later one, where the component has two arcs
abbrev IsFirstOfTwo : List (List ℕ) → ℕ → Type 0
IsFirstOfTwo crossings later =
    (earlier : ℕ) → IsCrossing crossings earlier → earlier < later
    → arc_in (slots_of crossings earlier) 0 ≡ arc_in (slots_of crossings later) 0
    → arcs_in (components_of crossings) (component_of (components_of crossings) (arc_in (slots_of crossings later) 0)) ≢ 2

two_arc_at-none : (crossings : List (List ℕ)) (later : ℕ) → IsCrossing crossings later
    → (two_arc_at crossings (components_of crossings) later ≡ None) ↔ IsFirstOfTwo crossings later
two_arc_at-none crossings later is =
    let incoming = arc_in (slots_of crossings later) 0 in
    let size = arcs_in (components_of crossings) (component_of (components_of crossings) incoming) in
    let some = list_any (comes_in_on crossings incoming) (range_with_len 1 (place_of later)) in
    let iff = fault_if-none (nat_eq size 2 && some) (TwoArc later) in (
      λ none earlier is_earlier before same two.
          both_ways some
          (second_fails (nat_eq size 2) some (iff.0 none) (eq-eqb size 2 two))
          (list_any-at (comes_in_on crossings incoming) 1 (place_of later) earlier is_earlier.positive
          (omega (arith, before, is_earlier.positive))
          (eq-eqb (arc_in (slots_of crossings earlier) 0) incoming same)),
      λ first. iff.1 (elim (cases_Bool (nat_eq size 2 && some)) [
        | inr fails ↦ fails
        | inl holds ↦
            let both = and_parts (nat_eq size 2) some holds in
            let found = list_any-one (comes_in_on crossings incoming) 1 (place_of later) both.1 in
            absurd
            (first found.0 (record { positive = found.1; within = omega (arith, is.within, found.2) }) (omega (arith, found.1, found.2))
            (eqb-true (arc_in (slots_of crossings found.0) 0) incoming found.3)
            (eqb-true size 2 both.0))
      ]),
    )

pub two_arc_fault-none : (crossings : List (List ℕ)) → (two_arc_fault crossings ≡ None)
    ↔ ((later : ℕ) → IsCrossing crossings later → IsFirstOfTwo crossings later)
two_arc_fault-none crossings = grind (arith, nat_tests, crossings-none, two_arc_at-none)

-- faces, and components with loops

pub genus_fault-none : (crossings : List (List ℕ))
    → (genus_fault crossings ≡ None) ↔ (face_count crossings ≡ planar_face_count crossings)
genus_fault-none crossings = grind (arith, nat_tests)

pub components_fault-none : (code : Code)
    → (components_fault code ≡ None) ↔ (component_count code.crossings + code.loops ≤ COMPONENTS)
components_fault-none code = grind (arith, nat_tests)

-- a code is directed exactly where it breaks none of the first six rules

option_or-none : (a b : Option CodeFault) → (option_or a b ≡ None) ↔ ((a ≡ None) × (b ≡ None))
option_or-none a b = grind (arith, nat_tests)

pub direction_fault-none : (crossings : List (List ℕ)) → (direction_fault crossings ≡ None) ↔ IsDirected crossings
direction_fault-none crossings =
    let two_arc = two_arc_fault crossings in
    let over = option_or (over_fault crossings) two_arc in
    let under = option_or (under_fault crossings) over in
    let interval = option_or (interval_fault crossings) under in
    let times = option_or (arc_times_fault crossings) interval in
    let first = option_or-none (arc_range_fault crossings) times in
    let second = option_or-none (arc_times_fault crossings) interval in
    let third = option_or-none (interval_fault crossings) under in
    let fourth = option_or-none (under_fault crossings) over in
    let fifth = option_or-none (over_fault crossings) two_arc in (
      λ none.
          let from_times = (first.0 none).1 in
          let from_interval = (second.0 from_times).1 in
          let from_under = (third.0 from_interval).1 in
          let from_over = (fourth.0 from_under).1 in
          record {
            slots = (arc_range_fault-none crossings).0 (first.0 none).0;
            twice = (arc_times_fault-none crossings).0 (second.0 from_times).0;
            intervals = (interval_fault-none crossings).0 (third.0 from_interval).0;
            under = (under_fault-none crossings).0 (fourth.0 from_under).0;
            over = (over_fault-none crossings).0 (fifth.0 from_over).0;
            two_arcs = λ earlier later is_earlier is_later before.
                (two_arc_fault-none crossings).0 (fifth.0 from_over).1 later is_later earlier is_earlier before;
          },
      λ is. first.1 (
        (arc_range_fault-none crossings).1 is.slots,
        second.1 (
          (arc_times_fault-none crossings).1 is.twice,
          third.1 (
            (interval_fault-none crossings).1 is.intervals,
            fourth.1 (
              (under_fault-none crossings).1 is.under,
              fifth.1 (
                (over_fault-none crossings).1 is.over,
                (two_arc_fault-none crossings).1
                    (λ later is_later earlier is_earlier before. is.two_arcs earlier later is_earlier is_later before),
              ),
            ),
          ),
        ),
      ),
    )

-- a code is accepted exactly where it breaks no rule

pub IsAccepted-is : (code : Code) → IsTrue (accepted code) ↔ IsAccepted code
IsAccepted-is code = (
  λ holds.
      let none = faults-from_accepted code holds in
      record {
        directed = (direction_fault-none code.crossings).0 none.0;
        checkerboard = choice-from_none code.crossings none.1;
        faces = (genus_fault-none code.crossings).0 none.2;
        components = (components_fault-none code).0 none.3;
      },
  λ is. accepted-from_faults code (
    (direction_fault-none code.crossings).1 is.directed,
    none-from_choice code.crossings is.checkerboard,
    (genus_fault-none code.crossings).1 is.faces,
    (components_fault-none code).1 is.components,
  ),
)

-- the arcs of a directed code stand twice
pub HasArcsTwice-directed : (crossings : List (List ℕ)) → IsDirected crossings → HasArcsTwice crossings
HasArcsTwice-directed crossings directed = record { slots = directed.slots; twice = directed.twice }

pub HasArcsTwice-accepted : (code : Code) → IsTrue (accepted code) → HasArcsTwice code.crossings
HasArcsTwice-accepted code holds = HasArcsTwice-directed code.crossings ((IsAccepted-is code).0 holds).directed
