-- The direction of over passes, and the signs of crossings.
use Rattle.std.specs.Prelude.{◌+◌, ◌≡◌, ◌≢◌, ℕ, ◌-◌, ℤ, pos, neg_ℤ, List, length, nat_eq, nat_lt, nat_le, Bool, IsTrue, not, ◌&&◌, ◌||◌, is_some, Option, unwrap_or, if◌then◌else◌}
use Rattle.std.specs.List.{find, count_by}
use Rattle.kh_types.specs.Code.{arc_in, slots_of, crossing_numbers, IsArc}
use Rattle.kh_types.specs.Darts.{dart_at, darts, arc_of, partner, IsDartOf}
use Rattle.kh_types.specs.declared.dart.Dart.{Dart}
use Rattle.kh_types.specs.Components.{components_of, component_of, arcs_in, next_in, next}

-- whether the under pass of a crossing is in a component
abbrev pub passes_under : List (List ℕ) → List ℕ → ℕ → ℕ → Bool
passes_under crossings components component crossing =
    nat_eq (component_of components (arc_in (slots_of crossings crossing) 0)) component

-- whether the over pass of a crossing is in a component
abbrev pub passes_over : List (List ℕ) → List ℕ → ℕ → ℕ → Bool
passes_over crossings components component crossing =
    nat_eq (component_of components (arc_in (slots_of crossings crossing) 1)) component

-- the first crossing, in list order, at which a component passes under, if it does
abbrev pub first_under : List (List ℕ) → List ℕ → ℕ → Option ℕ
first_under crossings components component = find (passes_under crossings components component) (crossing_numbers crossings)

-- the first crossing, in list order, at which a component passes over, if it does
abbrev pub first_over : List (List ℕ) → List ℕ → ℕ → Option ℕ
first_over crossings components component = find (passes_over crossings components component) (crossing_numbers crossings)

-- in a component of three arcs or more an over pass goes from an arc to its next: whether it goes from slot 3 to slot 1
abbrev pub is_positive_by_next : List ℕ → List ℕ → Bool
is_positive_by_next components slots = nat_eq (arc_in slots 1) (next_in components (arc_in slots 3))

-- in a component of two arcs that passes under somewhere, that pass gives the direction, and the over pass goes the other way:
-- it begins where the under pass ends
abbrev pub is_positive_by_under : List (List ℕ) → List ℕ → ℕ → Bool
is_positive_by_under crossings slots under = nat_eq (arc_in slots 3) (arc_in (slots_of crossings under) 2)

-- a component of two arcs that is over at both its crossings goes from the smaller to the greater arc at the first listed of
-- them, and back at the other
abbrev pub is_positive_by_order : List ℕ → Bool → Bool
is_positive_by_order slots is_first =
    if is_first then nat_lt (arc_in slots 3) (arc_in slots 1) else nat_lt (arc_in slots 1) (arc_in slots 3)

-- the same two rules together
abbrev pub is_positive_of_two : List (List ℕ) → List ℕ → ℕ → Bool
is_positive_of_two crossings components crossing =
    let slots = slots_of crossings crossing in
    let component = component_of components (arc_in slots 1) in
    let under = first_under crossings components component in
    if is_some under then is_positive_by_under crossings slots (unwrap_or under 0)
    else is_positive_by_order slots (nat_eq (unwrap_or (first_over crossings components component) 0) crossing)

-- a crossing is positive where its over pass goes from slot 3 to slot 1, and negative where it goes from slot 1 to slot 3
-- (Knot Atlas, "Planar Diagrams"; the directions in components of two arcs are this project's rule)
abbrev pub is_positive_in : List (List ℕ) → List ℕ → ℕ → Bool
is_positive_in crossings components crossing =
    let slots = slots_of crossings crossing in
    if nat_le 3 (arcs_in components (component_of components (arc_in slots 1))) then is_positive_by_next components slots
    else is_positive_of_two crossings components crossing

-- whether a crossing is positive, with the components of all crossings
abbrev pub is_positive : List (List ℕ) → ℕ → Bool
is_positive crossings crossing = is_positive_in crossings (components_of crossings) crossing

-- whether the crossing at a place of the list is positive, given the component of each arc
abbrev pub positive_in_at : List (List ℕ) → List ℕ → ℕ → Bool
positive_in_at crossings components place = is_positive_in crossings components (place + 1)

-- whether the crossing at a place of the list is positive
abbrev pub positive_at : List (List ℕ) → ℕ → Bool
positive_at crossings place = positive_in_at crossings (components_of crossings) place

-- the sign of a crossing, 1 or -1
abbrev pub sign_of : List (List ℕ) → ℕ → ℤ
sign_of crossings crossing = if is_positive crossings crossing then pos 1 else neg_ℤ (pos 1)

-- n+, the number of positive crossings
abbrev pub plus_count : List (List ℕ) → ℕ
plus_count crossings = count_by (is_positive_in crossings (components_of crossings)) (crossing_numbers crossings)

-- n-, the number of negative crossings, which are all others
abbrev pub minus_count : List (List ℕ) → ℕ
minus_count crossings = length crossings - plus_count crossings

-- where an arc enters a crossing: at slot 0, and at the slot where the over pass begins
abbrev pub is_head : List (List ℕ) → Dart → Bool
is_head crossings dart =
    nat_eq dart.slot 0 || nat_eq dart.slot (if is_positive crossings dart.crossing then 3 else 1)

-- the head of an arc, where it enters a crossing
abbrev pub head_of : List (List ℕ) → ℕ → Dart
head_of crossings arc =
    unwrap_or (find (λ dart. nat_eq (arc_of crossings dart) arc && is_head crossings dart) (darts crossings)) (dart_at 0)

-- the tail of an arc, where it leaves one
abbrev pub tail_of : List (List ℕ) → ℕ → Dart
tail_of crossings arc =
    unwrap_or (find (λ dart. nat_eq (arc_of crossings dart) arc && not (is_head crossings dart)) (darts crossings)) (dart_at 0)

-- no component has a single arc: no arc is its own next
abbrev pub HasNoSingleArcs : List (List ℕ) → Type 0
HasNoSingleArcs crossings = (arc : ℕ) → IsArc crossings arc → next crossings arc ≢ arc

-- the ends of an arc are its two darts: its head is one by which it enters a crossing, its tail one by which it leaves one, there
-- is no other head and no other tail, and each is the partner of the other
pub record HasEnds (crossings : List (List ℕ)) (arc : ℕ) : Type 0 where
  pub head : IsDartOf crossings arc (head_of crossings arc)
  pub tail : IsDartOf crossings arc (tail_of crossings arc)
  pub enters : IsTrue (is_head crossings (head_of crossings arc))
  pub leaves : ¬ IsTrue (is_head crossings (tail_of crossings arc))
  pub one_head : (dart : Dart) → IsDartOf crossings arc dart → IsTrue (is_head crossings dart) → dart ≡ head_of crossings arc
  pub one_tail : (dart : Dart) → IsDartOf crossings arc dart → ¬ IsTrue (is_head crossings dart) → dart ≡ tail_of crossings arc
  pub head_to_tail : partner crossings (head_of crossings arc) ≡ tail_of crossings arc
  pub tail_to_head : partner crossings (tail_of crossings arc) ≡ head_of crossings arc

-- a pass goes from one slot of a crossing to another: from the arc that has its head at the one to the next arc, which has its
-- tail at the other
pub record IsPass (crossings : List (List ℕ)) (crossing from to : ℕ) : Type 0 where
  pub head : head_of crossings (arc_in (slots_of crossings crossing) from) ≡ record { crossing = crossing; slot = from }
  pub tail : tail_of crossings (arc_in (slots_of crossings crossing) to) ≡ record { crossing = crossing; slot = to }
  pub follows : arc_in (slots_of crossings crossing) to ≡ next crossings (arc_in (slots_of crossings crossing) from)
