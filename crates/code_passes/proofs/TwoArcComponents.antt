-- The least arc of a component of two arcs that is over at both its crossings enters the first listed of them, so that such a
-- component begins with its lesser label.
--
-- In a component of two arcs that passes under nowhere the direction is a rule: its first over pass in the order of crossings goes from the
-- lesser arc to the greater. If the least arc entered the second listed of its crossings, the second arc would enter the first, and the
-- pass there would go down, against the rule (`turned_labels-component`).
use Rattle.std.proofs.Common.{◌≡◌, ◌⊎◌, inl, inr, ℕ, zero, suc, ◌+◌, ◌<◌, ◌≤◌, ◌∙◌, ℤ, pos, neg_ℤ, List, map, refl, sym, ap, arith, Bool, true, false, ◌&&◌}
use Rattle.std.specs.Prelude.{None, Some, int_lt, nat_eq, nat_lt, if◌then◌else◌}
use Rattle.std.specs.List.{range_with_len}
use Rattle.std.proofs.lemmas.Bool.{and_parts, cases_Bool, eq-eqb, ne_eqb}
use Rattle.std.proofs.lemmas.Bool.Decides.{nat_tests}
use Rattle.std.proofs.lemmas.Int.{ints}
use Rattle.kh_types.specs.declared.dart.Dart.{Dart}
use Rattle.kh_types.specs.Code.{arc_in, slots_of, IsArc, IsCrossing}
use Rattle.kh_types.specs.Components.{components_of, next}
use Rattle.kh_types.specs.Directions.{first_over, first_under, head_of, is_positive, is_positive_by_order, passes_over, passes_under}
use Rattle.kh_types.proofs.Lists.{find-none}
use Rattle.kh_types.proofs.PassPairs.{IsArc-at, dart_with}
use Rattle.kh_types.proofs.NextArcs.{component, component-next, HasPlace-directed}
use Rattle.kh_types.proofs.DirectedPasses.{head-cases, is_positive-order, over-negative, over-positive}
use Rattle.kh_types.proofs.Heads.{IsPass-under, IsPass-over}
use Rattle.code_passes.specs.Passes.{is_over, turned_labels}
use Rattle.code_passes.specs.ComponentLabels.{component_labels, entering_label}
use Rattle.code_passes.proofs.ArcLabels.{HasEnds-arc, IsOriented}
use Rattle.code_passes.proofs.CutArcs.{IsFirst, component-in, end-within, size}
use Rattle.code_passes.proofs.Searches.{find-first, matched_false, matched_true}

-- a component of two arcs that is over at both, by the heads of its two arcs
record IsOverBoth (crossings : List (List ℕ)) (first : ℕ) : Type 0 where
  oriented : IsOriented crossings
  first_is : IsFirst crossings first
  two : size crossings first ≡ 2
  over : nat_eq (head_of crossings first).slot 0 ≡ false
  over_next : nat_eq (head_of crossings (first + 1)).slot 0 ≡ false
  descends : (head_of crossings (first + 1)).crossing < (head_of crossings first).crossing

one_of_two : (crossings : List (List ℕ)) (first arc : ℕ) → IsOverBoth crossings first → IsArc crossings arc
    → component crossings arc ≡ first → (arc ≡ first) ⊎ (arc ≡ first + 1)
one_of_two crossings first arc both is same =
    let place = HasPlace-directed crossings both.oriented.directed arc is in
    let alike : size crossings (component crossings arc) ≡ 2 = ap (size crossings) same ∙ both.two in
    two_numbers first arc (omega (arith, place.from, same)) (omega (arith, place.below, same, alike))
  where
    two_numbers : (x y : ℕ) → x ≤ y → y < x + 2 → (y ≡ x) ⊎ (y ≡ x + 1)
    two_numbers x y from below = grind arith

-- a head at which such a component passes is over, and at one of its two crossings
head_of_two : (crossings : List (List ℕ)) (first crossing slot : ℕ) → IsOverBoth crossings first → (arc : ℕ) → IsArc crossings arc
    → component crossings arc ≡ first → head_of crossings arc ≡ dart_with crossing slot
    → (nat_eq slot 0 ≡ false) × ((head_of crossings (first + 1)).crossing ≤ crossing)
head_of_two crossings first crossing slot both arc is same at = elim (one_of_two crossings first arc both is same) [
  | inl here ↦
      let head : head_of crossings first ≡ dart_with crossing slot = ap (head_of crossings) (sym here) ∙ at in (
        sym (ap (λ (d : Dart). nat_eq d.slot 0) head) ∙ both.over,
        omega (arith, both.descends, ap (λ (d : Dart). d.crossing) head),
      )
  | inr there ↦
      let head : head_of crossings (first + 1) ≡ dart_with crossing slot = ap (head_of crossings) (sym there) ∙ at in (
        sym (ap (λ (d : Dart). nat_eq d.slot 0) head) ∙ both.over_next,
        omega (arith, ap (λ (d : Dart). d.crossing) head),
      )
]

-- it passes under nowhere
no_under : (crossings : List (List ℕ)) (first : ℕ) → IsOverBoth crossings first
    → first_under crossings (components_of crossings) first ≡ None
no_under crossings first both =
    let oriented = both.oriented in
    find-none (passes_under crossings (components_of crossings) first) 1 _
    (λ crossing from below.
    let is : IsCrossing crossings crossing = record { positive = from; within = omega (arith, below) } in
    let arc = arc_in (slots_of crossings crossing) 0 in
    ne_eqb (component crossings arc) first
    (λ same.
    let at = head_of_two crossings first crossing 0 both arc (IsArc-at crossings crossing 0 oriented.directed is (omega arith)) same
    (IsPass-under crossings oriented.directed oriented.moves crossing is).head in
    absurd (cc)))

-- where it passes over, it enters one of its two crossings
over_crossing : (crossings : List (List ℕ)) (first crossing : ℕ) → IsOverBoth crossings first → IsCrossing crossings crossing
    → component crossings (arc_in (slots_of crossings crossing) 1) ≡ first → (head_of crossings (first + 1)).crossing ≤ crossing
over_crossing crossings first crossing both is same =
    let oriented = both.oriented in
    let slots = slots_of crossings crossing in
    let over = IsPass-over crossings oriented.directed oriented.moves crossing is in
    let at = λ (slot : ℕ) (below : slot < 4). IsArc-at crossings crossing slot oriented.directed is below in
    elim (cases_Bool (is_positive crossings crossing)) [
      | inl positive ↦
          let pass = matched_true (is_positive crossings crossing) _ _ over positive in
          (head_of_two crossings first crossing 3 both (arc_in slots 3) (at 3 (omega arith))
          (sym (component-next crossings oriented.directed (arc_in slots 3) (at 3 (omega arith)))
          ∙ ap (λ arc. component crossings arc) (sym pass.follows) ∙ same)
          pass.head).1
      | inr negative ↦
          let pass = matched_false (is_positive crossings crossing) _ _ over negative in
          (head_of_two crossings first crossing 1 both (arc_in slots 1) (at 1 (omega arith)) same pass.head).1
    ]

-- its second arc, and the arc that follows that, which is the first
next_is : (crossings : List (List ℕ)) (first : ℕ) → IsOverBoth crossings first
    → IsArc crossings (first + 1) × (component crossings (first + 1) ≡ first) × (next crossings (first + 1) ≡ first)
next_is crossings first both = grind (arith, nat_tests, end-within, component-in, size, component, HasPlace-directed)

-- so its first over pass, by the order of the crossings, is where the second arc enters
first_over_is : (crossings : List (List ℕ)) (first : ℕ) → IsOverBoth crossings first
    → component crossings (arc_in (slots_of crossings (head_of crossings (first + 1)).crossing) 1) ≡ first
    → first_over crossings (components_of crossings) first ≡ Some (head_of crossings (first + 1)).crossing
first_over_is crossings first both same =
    let crossing = (head_of crossings (first + 1)).crossing in
    let is = (HasEnds-arc crossings both.oriented (first + 1) (next_is crossings first both).0).head.within.crossing in
    find-first (passes_over crossings (components_of crossings) first) 1 _ crossing is.positive (omega (arith, is.within))
    (eq-eqb (component crossings (arc_in (slots_of crossings crossing) 1)) first same)
    (λ earlier from before.
    ne_eqb (component crossings (arc_in (slots_of crossings earlier) 1)) first
    (λ other.
    omega (
      arith,
      before,
      over_crossing crossings first earlier both (record { positive = from; within = omega (arith, before, is.within) }) other,
    )))

-- and there it goes from the greater arc to the lesser, against the rule
against_order : (crossing x y first : ℕ) (b : Bool) → b ≡ (if nat_eq crossing crossing then nat_lt x y else nat_lt y x)
    → ((b ≡ true) × (x ≡ first + 1) × (y ≡ first)) ⊎ ((b ≡ false) × (x ≡ first) × (y ≡ first + 1)) → ⊥
against_order crossing x y first b is has6 = grind (arith, nat_tests)

two_over : (crossings : List (List ℕ)) (first : ℕ) → IsOverBoth crossings first → ⊥
two_over crossings first both =
    let directed = both.oriented.directed in
    let second = next_is crossings first both in
    let ends = HasEnds-arc crossings both.oriented (first + 1) second.0 in
    let dart = head_of crossings (first + 1) in
    let crossing = dart.crossing in
    let slots = slots_of crossings crossing in
    let is = ends.head.within.crossing in
    let here : (slot : ℕ) → dart.slot ≡ slot → arc_in slots slot ≡ first + 1 =
    λ slot at. ap (λ s. arc_in slots s) (sym at) ∙ ends.head.on_arc in
    let order : (component crossings (arc_in slots 1) ≡ first)
    → is_positive crossings crossing ≡ is_positive_by_order slots (nat_eq crossing crossing) =
    λ same.
    is_positive-order crossings crossing crossing
    (omega (arith, ap (size crossings) same ∙ both.two))
    (ap (λ c. first_under crossings (components_of crossings) c) same ∙ no_under crossings first both)
    (ap (λ c. first_over crossings (components_of crossings) c) same ∙ first_over_is crossings first both same) in
    elim (head-cases crossings dart ends.enters) [
      | inl zero_slot ↦ absurd (at_zero dart.slot zero_slot both.over_next)
      | inr over ↦ elim over [
        | inl positive ↦
            let three = here 3 positive.1 in
            let one : arc_in slots 1 ≡ first =
            over-positive crossings crossing directed is positive.0 ∙ ap (next crossings) three ∙ second.2 in
            against_order crossing (arc_in slots 3) (arc_in slots 1) first (is_positive crossings crossing)
            (order (ap (λ arc. component crossings arc) one ∙ both.first_is.own)) (inl (positive.0, three, one))
        | inr negative ↦
            let one = here 1 negative.1 in
            let three : arc_in slots 3 ≡ first =
            over-negative crossings crossing directed is negative.0 ∙ ap (next crossings) one ∙ second.2 in
            against_order crossing (arc_in slots 3) (arc_in slots 1) first (is_positive crossings crossing)
            (order (ap (λ arc. component crossings arc) one ∙ second.1)) (inr (negative.0, three, one))
      ]
    ]
  where
    at_zero : (slot : ℕ) → slot ≡ 0 → nat_eq slot 0 ≡ false → ⊥
    at_zero slot same fails = grind (arith, nat_tests)

-- an over label is the number of its crossing
over_label : (under : Bool) (crossing : ℕ) → is_over (if under then neg_ℤ (pos crossing) else pos crossing) ≡ true
    → (under ≡ false) × ((if under then neg_ℤ (pos crossing) else pos crossing) ≡ pos crossing)
over_label under crossing over = grind (arith, nat_tests)

-- the labels of a component of two arcs that are both over ascend
pub ascending : (crossings : List (List ℕ)) (first : ℕ) → IsOriented crossings → IsFirst crossings first → size crossings first ≡ 2
    → ((is_over (entering_label crossings first) && is_over (entering_label crossings (first + 1)))
    && int_lt (entering_label crossings (first + 1)) (entering_label crossings first)) ≡ false
ascending crossings first oriented is two = elim (cases_Bool test) [
  | inr fails ↦ fails
  | inl holds ↦
      let parts = and_parts (is_over here && is_over there) (int_lt there here) holds in
      let overs = and_parts (is_over here) (is_over there) parts.0 in
      let first_over_label = over_label (nat_eq (head_of crossings first).slot 0) (head_of crossings first).crossing overs.0 in
      let next_over_label = over_label (nat_eq (head_of crossings (first + 1)).slot 0) (head_of crossings (first + 1)).crossing overs.1 in
      let descends =
      sym (ap (λ x. int_lt there x) first_over_label.1 ∙ ap (λ x. int_lt x (pos (head_of crossings first).crossing)) next_over_label.1)
      ∙ parts.1 in
      absurd (two_over crossings first (record {
        oriented = oriented;
        first_is = is;
        two = two;
        over = first_over_label.0;
        over_next = next_over_label.0;
        descends = less (head_of crossings (first + 1)).crossing (head_of crossings first).crossing descends;
      }))
]
  where
    here : ℤ
    here = entering_label crossings first

    there : ℤ
    there = entering_label crossings (first + 1)

    test : Bool
    test = (is_over here && is_over there) && int_lt there here

    less : (x y : ℕ) → int_lt (pos x) (pos y) ≡ true → x < y
    less x y holds = omega (arith, ints)

-- so no component is turned
turned_labels-range : (label : ℕ → ℤ) (a n : ℕ)
    → (n ≡ 2 → ((is_over (label a) && is_over (label (a + 1))) && int_lt (label (a + 1)) (label a)) ≡ false)
    → turned_labels (map label (range_with_len a n)) ≡ map label (range_with_len a n)
turned_labels-range label a zero ascends = refl
turned_labels-range label a (suc zero) ascends = refl
turned_labels-range label a (suc (suc zero)) ascends = grind (arith, nat_tests)
turned_labels-range label a (suc (suc (suc n))) ascends = refl

pub turned_labels-component : (crossings : List (List ℕ)) (first : ℕ) → IsOriented crossings → IsFirst crossings first
    → turned_labels (component_labels crossings first) ≡ component_labels crossings first
turned_labels-component crossings first oriented is = grind (arith, nat_tests, turned_labels-range, size, ascending)
