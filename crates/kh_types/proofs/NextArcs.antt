-- Components that are intervals, and the arc that follows an arc.
--
-- A directed code numbers the arcs of each component in a row: the component is the interval from its least arc on, as long as it has arcs
-- (`component-inside`). So an arc has a place in it, and the next arc is the number behind, or the least where there is none
-- (`HasPlace-directed`). From places follows the rest: next keeps the component, is one to one, and comes back after two steps in twos.
use Rattle.std.proofs.Common.{◌≡◌, ◌≢◌, ℕ, ◌⊎◌, inl, inr, ◌+◌, ◌<◌, ◌≤◌, ◌∙◌, List, refl, sym, ap, arith, true}
use Rattle.std.specs.Prelude.{slice_index, nat_eq, if◌then◌else◌}
use Rattle.std.specs.List.{flat_map}
use Rattle.std.proofs.lemmas.List.{get_or_past}
use Rattle.std.proofs.lemmas.Bool.{cases_lt, eq-eqb}
use Rattle.std.proofs.lemmas.Bool.Decides.{nat_tests}
use Rattle.kh_types.specs.Code.{arc_count, IsArc}
use Rattle.kh_types.specs.Classes.{IsNamed}
use Rattle.kh_types.specs.Components.{passes_of, components_of, component_of, arcs_in, next}
use Rattle.kh_types.specs.Accepted.{IsDirected}
use Rattle.kh_types.proofs.Lists.{count_by-more_than}
use Rattle.kh_types.proofs.ClassLemmas.{classes-finest}
use Rattle.kh_types.proofs.JoinedClasses.{IsNamed-classes_of}
use Rattle.kh_types.proofs.PassPairs.{passes-below, passes-positive}

-- the components are named by their least numbers
pub IsNamed-components_of : (crossings : List (List ℕ)) → IsDirected crossings
    → IsNamed (arc_count crossings + 1) (components_of crossings)
IsNamed-components_of crossings directed =
    IsNamed-classes_of (arc_count crossings + 1) (flat_map passes_of crossings) (passes-below crossings directed)

-- the component of an arc of a code
abbrev pub component : List (List ℕ) → ℕ → ℕ
component crossings arc = component_of (components_of crossings) arc

-- how many arcs the component of an arc has
abbrev pub size_at : List (List ℕ) → ℕ → ℕ
size_at crossings arc = arcs_in (components_of crossings) (component crossings arc)

component-le : (crossings : List (List ℕ)) → IsDirected crossings → (arc : ℕ) → IsArc crossings arc → component crossings arc ≤ arc
component-le crossings directed arc is =
    (IsNamed-components_of crossings directed).least arc (omega (arith, is.within))

component-own : (crossings : List (List ℕ)) → IsDirected crossings → (arc : ℕ) → IsArc crossings arc
    → component crossings (component crossings arc) ≡ component crossings arc
component-own crossings directed arc is =
    (IsNamed-components_of crossings directed).own arc (omega (arith, is.within))

-- the number 0 is in no pass, so the least arc of a component is an arc
component-positive : (crossings : List (List ℕ)) → IsDirected crossings → (arc : ℕ) → IsArc crossings arc
    → 1 ≤ component crossings arc
component-positive crossings directed arc is =
    grind (arith, nat_tests, classes-finest, passes-positive, passes-below, component-le, component-own)

IsArc-component : (crossings : List (List ℕ)) → IsDirected crossings → (arc : ℕ) → IsArc crossings arc
    → IsArc crossings (component crossings arc)
IsArc-component crossings directed arc is = grind (arith, nat_tests, component-positive, component-le)

-- the arcs of a component are the numbers from its least arc on, as many as it has
pub component-inside : (crossings : List (List ℕ)) → IsDirected crossings → (arc other : ℕ) → IsArc crossings arc
    → component crossings arc ≤ other → other < component crossings arc + size_at crossings arc
    → component crossings other ≡ component crossings arc
component-inside crossings directed arc other is from below =
    directed.intervals (component crossings arc) (IsArc-component crossings directed arc is)
    (component-own crossings directed arc is) other from below

component-below : (crossings : List (List ℕ)) → IsDirected crossings → (arc : ℕ) → IsArc crossings arc
    → component crossings arc + size_at crossings arc ≤ arc → ⊥
component-below crossings directed arc is behind =
    let first = component crossings arc in
    let components = components_of crossings in
    let same : (other : ℕ) → component crossings other ≡ first → nat_eq first (slice_index components other) ≡ true =
    λ other is_same. eq-eqb first (component crossings other) (sym is_same) in
    let more = count_by-more_than (nat_eq first) components 0 first (size_at crossings arc) arc
    (λ other from below. same other (component-inside crossings directed arc other is from below)) behind
    (omega (arith, is.within, (IsNamed-components_of crossings directed).size))
    (same arc refl) in
    omega (arith, more)

-- what is in a component other than that of 0 is an arc
component-past : (crossings : List (List ℕ)) → IsDirected crossings → (other : ℕ) → arc_count crossings < other
    → component crossings other ≡ 0
component-past crossings directed other past = grind (arith, nat_tests, get_or_past, IsNamed-components_of)

IsArc-with_component : (crossings : List (List ℕ)) → IsDirected crossings → (other : ℕ) → 1 ≤ component crossings other
    → IsArc crossings other
IsArc-with_component crossings directed other positive = elim (cases_lt (arc_count crossings) other) [
  | inl past ↦ absurd (omega (arith, positive, component-past crossings directed other past))
  | inr within ↦ record {
    positive = omega (arith, positive, (IsNamed-components_of crossings directed).least other (omega (arith, within)));
    within = within;
  }
]

-- the number behind the last arc of a component is in another
component-behind : (crossings : List (List ℕ)) → IsDirected crossings → (arc : ℕ) → IsArc crossings arc
    → component crossings arc + size_at crossings arc ≤ arc + 1 → component crossings (arc + 1) ≢ component crossings arc
component-behind crossings directed arc is behind = grind (arith, nat_tests, IsArc-with_component, component-positive, component-below)

-- where an arc stands in its component, and which arc follows
pub record HasPlace (crossings : List (List ℕ)) (arc : ℕ) : Type 0 where
  pub from : component crossings arc ≤ arc
  pub below : arc < component crossings arc + size_at crossings arc
  pub inside : arc + 1 < component crossings arc + size_at crossings arc → next crossings arc ≡ arc + 1
  pub last : component crossings arc + size_at crossings arc ≤ arc + 1 → next crossings arc ≡ component crossings arc

next_same : (x y a b : ℕ) → x ≡ y → (if nat_eq x y then a else b) ≡ a
next_same x y a b same = grind (arith, nat_tests)

next_other : (x y a b : ℕ) → x ≢ y → (if nat_eq x y then a else b) ≡ b
next_other x y a b other = grind (arith, nat_tests)

pub HasPlace-directed : (crossings : List (List ℕ)) → IsDirected crossings → (arc : ℕ) → IsArc crossings arc → HasPlace crossings arc
HasPlace-directed crossings directed arc is = record {
  from = component-le crossings directed arc is;
  below = below_not (component-below crossings directed arc is);
  inside = λ within.
      next_same (component crossings (arc + 1)) (component crossings arc) (arc + 1) (component crossings arc)
      (component-inside crossings directed arc (arc + 1) is (omega (arith, component-le crossings directed arc is)) within);
  last = λ behind.
      next_other (component crossings (arc + 1)) (component crossings arc) (arc + 1) (component crossings arc)
      (component-behind crossings directed arc is behind);
}
  where
    below_not : {x y : ℕ} → (y ≤ x → ⊥) → x < y
    below_not not_behind = grind arith

-- the arc that follows is in the same component, and is an arc
pub component-next : (crossings : List (List ℕ)) → IsDirected crossings → (arc : ℕ) → IsArc crossings arc
    → component crossings (next crossings arc) ≡ component crossings arc
component-next crossings directed arc is =
    let place = HasPlace-directed crossings directed arc is in
    elim (cases_lt (arc + 1) (component crossings arc + size_at crossings arc)) [
      | inl within ↦
          component-inside crossings directed arc (next crossings arc) is (omega (arith, place.inside within, place.from))
          (omega (arith, place.inside within, within))
      | inr behind ↦
          component-inside crossings directed arc (next crossings arc) is (omega (arith, place.last behind))
          (omega (arith, place.last behind, place.from, place.below))
    ]

pub IsArc-next : (crossings : List (List ℕ)) → IsDirected crossings → (arc : ℕ) → IsArc crossings arc
    → IsArc crossings (next crossings arc)
IsArc-next crossings directed arc is = grind (arith, nat_tests, IsArc-with_component, component-next, component-positive)

-- an arc is the next of one arc only
pub next-injective : (crossings : List (List ℕ)) → IsDirected crossings → (arc other : ℕ) → IsArc crossings arc → IsArc crossings other
    → next crossings arc ≡ next crossings other → arc ≡ other
next-injective crossings directed arc other is other_is same =
    let place = HasPlace-directed crossings directed arc is in
    let other_place = HasPlace-directed crossings directed other other_is in
    let together : component crossings arc ≡ component crossings other =
    sym (component-next crossings directed arc is) ∙ ap (λ z. component crossings z) same
    ∙ component-next crossings directed other other_is in
    let alike : size_at crossings arc ≡ size_at crossings other = ap (λ first. arcs_in (components_of crossings) first) together in
    one_before (next crossings arc) arc other (component crossings arc) (size_at crossings arc) place.from place.below
    place.inside place.last (omega (arith, other_place.from, together)) (omega (arith, other_place.below, together, alike))
    (λ within. same ∙ other_place.inside (omega (arith, within, together, alike)))
    (λ behind. same ∙ other_place.last (omega (arith, behind, together, alike)) ∙ sym together)
  where
    one_before : (y a b first size : ℕ) → first ≤ a → a < first + size → (a + 1 < first + size → y ≡ a + 1)
        → (first + size ≤ a + 1 → y ≡ first) → first ≤ b → b < first + size → (b + 1 < first + size → y ≡ b + 1)
        → (first + size ≤ b + 1 → y ≡ first) → a ≡ b
    one_before y a b first size a_from a_below a_inside a_last b_from b_below b_inside b_last = grind arith

-- in a component of at most two arcs the next of the next is the arc itself
pub next-twice : (crossings : List (List ℕ)) → IsDirected crossings → (arc : ℕ) → IsArc crossings arc → size_at crossings arc ≤ 2
    → next crossings (next crossings arc) ≡ arc
next-twice crossings directed arc is small =
    let place = HasPlace-directed crossings directed arc is in
    let next_place = HasPlace-directed crossings directed (next crossings arc) (IsArc-next crossings directed arc is) in
    let together = component-next crossings directed arc is in
    let alike : size_at crossings (next crossings arc) ≡ size_at crossings arc =
    ap (λ first. arcs_in (components_of crossings) first) together in
    back (next crossings (next crossings arc)) (next crossings arc) arc (component crossings arc) (size_at crossings arc) small
    place.from place.below place.inside place.last (omega (arith, next_place.from, together))
    (omega (arith, next_place.below, together, alike))
    (λ within. next_place.inside (omega (arith, within, together, alike)))
    (λ behind. next_place.last (omega (arith, behind, together, alike)) ∙ together)
  where
    back : (z y a first size : ℕ) → size ≤ 2 → first ≤ a → a < first + size → (a + 1 < first + size → y ≡ a + 1)
        → (first + size ≤ a + 1 → y ≡ first) → first ≤ y → y < first + size → (y + 1 < first + size → z ≡ y + 1)
        → (first + size ≤ y + 1 → z ≡ first) → z ≡ a
    back z y a first size small a_from a_below a_inside a_last y_from y_below y_inside y_last = grind arith

-- an arc that is alone in its component is its own next
pub next-alone : (crossings : List (List ℕ)) → IsDirected crossings → (arc : ℕ) → IsArc crossings arc → size_at crossings arc ≤ 1
    → next crossings arc ≡ arc
next-alone crossings directed arc is alone =
    let place = HasPlace-directed crossings directed arc is in
    omega (arith, place.last (omega (arith, place.from, alone)), place.from, place.below)

-- where all arcs of a component are one of two numbers, it has at most two
pub size-of_two : (crossings : List (List ℕ)) → IsDirected crossings → (arc x y : ℕ) → IsArc crossings arc
    → ((other : ℕ) → IsArc crossings other → component crossings other ≡ component crossings arc → (other ≡ x) ⊎ (other ≡ y))
    → size_at crossings arc ≤ 2
size-of_two crossings directed arc x y is one_of = elim (cases_lt 2 (size_at crossings arc)) [
  | inr small ↦ small
  | inl large ↦
      let first = component crossings arc in
      let one = λ (k : ℕ) (below : k < 3).
      let same = component-inside crossings directed arc (first + k) is (omega arith) (omega (arith, below, large)) in
      one_of (first + k)
      (IsArc-with_component crossings directed (first + k) (omega (arith, same, component-positive crossings directed arc is))) same in
      absurd (too_many first x y (one 0 (omega arith)) (one 1 (omega arith)) (one 2 (omega arith)))
]
  where
    too_many : (first x y : ℕ) → (first + 0 ≡ x) ⊎ (first + 0 ≡ y) → (first + 1 ≡ x) ⊎ (first + 1 ≡ y)
        → (first + 2 ≡ x) ⊎ (first + 2 ≡ y) → ⊥
    too_many first x y one two three = grind arith
