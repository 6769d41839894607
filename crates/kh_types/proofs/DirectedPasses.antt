-- Each pass of a directed code leads from the arc whose head it is to the next arc.
--
-- The rule on under passes gives each of them by definition. The direction of an over pass is that of its sign, and the sign is read off in
-- three ways: in components of three arcs or more from the numbers of its two arcs, in smaller ones from the first under pass of the
-- component, or from the first over pass where there is none. In each case the pass leads from the arc of its head to the next arc.
use Rattle.std.proofs.Common.{◌≡◌, ◌≢◌, ℕ, zero, suc, ◌⊎◌, inl, inr, ◌+◌, ◌%◌, ◌<◌, ◌≤◌, ◌∙◌, List, refl, sym, ap, arith, Bool, true, false, not}
use Rattle.std.specs.Prelude.{nat_eq, nat_le, ◌||◌, if◌then◌else◌, Some, None}
use Rattle.std.proofs.lemmas.Bool.{cases_lt, eqb-true}
use Rattle.std.proofs.lemmas.Bool.Decides.{nat_tests}
use Rattle.kh_types.specs.declared.dart.Dart.{Dart}
use Rattle.kh_types.specs.Code.{arc_in, slots_of, IsCrossing}
use Rattle.kh_types.specs.Components.{components_of, arcs_in, next}
use Rattle.kh_types.specs.Darts.{arc_of, IsDart}
use Rattle.kh_types.specs.Directions.{first_under, first_over, is_positive_by_next, is_positive_by_under, is_positive_by_order, is_positive_of_two, is_positive, is_head}
use Rattle.kh_types.specs.Accepted.{IsDirected}
use Rattle.kh_types.proofs.PassPairs.{IsArc-at}
use Rattle.kh_types.proofs.NextArcs.{component, size_at, component-next, next-twice}

-- the dart across its crossing, at the other end of its pass
abbrev pub across : Dart → Dart
across dart = record { crossing = dart.crossing; slot = (dart.slot + 2) % 4 }

pub IsDart-across : (crossings : List (List ℕ)) (dart : Dart) → IsDart crossings dart → IsDart crossings (across dart)
IsDart-across crossings dart is = record { crossing = is.crossing; slot = omega arith }

-- darts at the same crossing and slot are one
pub same_dart : (dart other : Dart) → dart.crossing ≡ other.crossing → dart.slot ≡ other.slot → dart ≡ other
same_dart dart other same same_slot = grind (arith, nat_tests)

pub across-across : (dart : Dart) → dart.slot < 4 → across (across dart) ≡ dart
across-across dart below = same_dart (across (across dart)) dart refl (omega arith)

-- one end of a pass is a head, and the other is not
pub is_head-across : (crossings : List (List ℕ)) (dart : Dart) → dart.slot < 4
    → is_head crossings (across dart) ≡ not (is_head crossings dart)
is_head-across crossings dart below = turned_round (is_positive crossings dart.crossing) dart.slot below
  where
    turned_round : (positive : Bool) (slot : ℕ) → slot < 4
        → (nat_eq ((slot + 2) % 4) 0 || nat_eq ((slot + 2) % 4) (if positive then 3 else 1))
        ≡ not (nat_eq slot 0 || nat_eq slot (if positive then 3 else 1))
    turned_round true zero below = refl
    turned_round true (suc zero) below = refl
    turned_round true (suc (suc zero)) below = refl
    turned_round true (suc (suc (suc zero))) below = refl
    turned_round true (suc (suc (suc (suc slot)))) below = absurd (omega (arith, below))
    turned_round false zero below = refl
    turned_round false (suc zero) below = refl
    turned_round false (suc (suc zero)) below = refl
    turned_round false (suc (suc (suc zero))) below = refl
    turned_round false (suc (suc (suc (suc slot)))) below = absurd (omega (arith, below))

-- a head is at slot 0, or at the slot where the over pass begins
pub head-cases : (crossings : List (List ℕ)) (dart : Dart) → is_head crossings dart ≡ true
    → (dart.slot ≡ 0)
    ⊎ (((is_positive crossings dart.crossing ≡ true) × (dart.slot ≡ 3)) ⊎ ((is_positive crossings dart.crossing ≡ false) × (dart.slot ≡ 1)))
head-cases crossings dart is = grind (arith, nat_tests)

-- the test by which a crossing is positive, in components of three arcs or more and in smaller ones
pub by_size : (m : ℕ) (large small : Bool) → 2 < m → (if nat_le 3 m then large else small) ≡ large
by_size m large small above = grind (arith, nat_tests)

-- in a component of at most two arcs each arc of the over pass is the next of the other
over-both : (crossings : List (List ℕ)) (crossing : ℕ) → IsDirected crossings → IsCrossing crossings crossing
    → size_at crossings (arc_in (slots_of crossings crossing) 1) ≤ 2
    → (arc_in (slots_of crossings crossing) 3 ≡ next crossings (arc_in (slots_of crossings crossing) 1))
    × (arc_in (slots_of crossings crossing) 1 ≡ next crossings (arc_in (slots_of crossings crossing) 3))
over-both crossings crossing directed is small =
    let one = arc_in (slots_of crossings crossing) 1 in
    let three = arc_in (slots_of crossings crossing) 3 in
    let is_one = IsArc-at crossings crossing 1 directed is (omega arith) in
    let is_three = IsArc-at crossings crossing 3 directed is (omega arith) in
    elim (directed.over crossing is) [
      | inl to_three ↦ (
        to_three,
        sym (next-twice crossings directed one is_one small) ∙ ap (λ z. next crossings z) (sym to_three),
      )
      | inr to_one ↦
          let together : component crossings one ≡ component crossings three =
          ap (λ z. component crossings z) to_one ∙ component-next crossings directed three is_three in
          let alike : size_at crossings one ≡ size_at crossings three = ap (λ first. arcs_in (components_of crossings) first) together in (
            sym (next-twice crossings directed three is_three (omega (arith, small, alike))) ∙ ap (λ z. next crossings z) (sym to_one),
            to_one,
          )
    ]

-- the over pass of a positive crossing leads from slot 3 to slot 1
pub over-positive : (crossings : List (List ℕ)) (crossing : ℕ) → IsDirected crossings → IsCrossing crossings crossing
    → is_positive crossings crossing ≡ true
    → arc_in (slots_of crossings crossing) 1 ≡ next crossings (arc_in (slots_of crossings crossing) 3)
over-positive crossings crossing directed is positive = grind (arith, nat_tests, cases_lt, size_at, over-both, eqb-true, by_size)

-- that of any other leads from slot 1 to slot 3
pub over-negative : (crossings : List (List ℕ)) (crossing : ℕ) → IsDirected crossings → IsCrossing crossings crossing
    → is_positive crossings crossing ≡ false
    → arc_in (slots_of crossings crossing) 3 ≡ next crossings (arc_in (slots_of crossings crossing) 1)
over-negative crossings crossing directed is negative =
    let slots = slots_of crossings crossing in
    let components = components_of crossings in
    elim (cases_lt 2 (size_at crossings (arc_in slots 1))) [
      | inr small ↦ (over-both crossings crossing directed is small).0
      | inl large ↦
          let differ : arc_in slots 1 ≢ next crossings (arc_in slots 3) =
          test_fails (arc_in slots 1) (next crossings (arc_in slots 3))
          (sym
          (by_size (size_at crossings (arc_in slots 1)) (is_positive_by_next components slots)
          (is_positive_of_two crossings components crossing) large)
          ∙ negative) in
          elim (directed.over crossing is) [ inl to_three ↦ to_three | inr to_one ↦ absurd (differ to_one) ]
    ]
  where
    test_fails : (x y : ℕ) → nat_eq x y ≡ false → x ≢ y
    test_fails x y fails = grind (arith, nat_tests)

-- a pass leads from the arc of its head to the next arc
pub arc_of-across : (crossings : List (List ℕ)) (dart : Dart) → IsDirected crossings → IsDart crossings dart
    → is_head crossings dart ≡ true → arc_of crossings (across dart) ≡ next crossings (arc_of crossings dart)
arc_of-across crossings dart directed is head =
    let crossing = dart.crossing in
    let slots = slots_of crossings crossing in
    let here : (slot : ℕ) → dart.slot ≡ slot → arc_of crossings dart ≡ arc_in slots slot =
    λ slot is_slot. ap (λ s. arc_in slots s) is_slot in
    let there : (slot : ℕ) → (dart.slot + 2) % 4 ≡ slot → arc_of crossings (across dart) ≡ arc_in slots slot =
    λ slot is_slot. ap (λ s. arc_in slots s) is_slot in
    elim (head-cases crossings dart head) [
      | inl zero_slot ↦
          there 2 (omega (arith, zero_slot)) ∙ directed.under crossing is.crossing ∙ ap (λ z. next crossings z) (sym (here 0 zero_slot))
      | inr over ↦ elim over [
        | inl positive ↦
            there 1 (omega (arith, positive.1)) ∙ over-positive crossings crossing directed is.crossing positive.0
            ∙ ap (λ z. next crossings z) (sym (here 3 positive.1))
        | inr negative ↦
            there 3 (omega (arith, negative.1)) ∙ over-negative crossings crossing directed is.crossing negative.0
            ∙ ap (λ z. next crossings z) (sym (here 1 negative.1))
      ]
    ]

-- where the over pass of a crossing is in a component of at most two arcs: its sign by the first under pass of the component
pub is_positive-under : (crossings : List (List ℕ)) (crossing under : ℕ) → size_at crossings (arc_in (slots_of crossings crossing) 1) ≤ 2
    → first_under crossings (components_of crossings) (component crossings (arc_in (slots_of crossings crossing) 1)) ≡ Some under
    → is_positive crossings crossing ≡ is_positive_by_under crossings (slots_of crossings crossing) under
is_positive-under crossings crossing under small found = grind (arith, nat_tests)

-- and by the first over pass, where it passes under nowhere
pub is_positive-order : (crossings : List (List ℕ)) (crossing over : ℕ) → size_at crossings (arc_in (slots_of crossings crossing) 1) ≤ 2
    → first_under crossings (components_of crossings) (component crossings (arc_in (slots_of crossings crossing) 1)) ≡ None
    → first_over crossings (components_of crossings) (component crossings (arc_in (slots_of crossings crossing) 1)) ≡ Some over
    → is_positive crossings crossing ≡ is_positive_by_order (slots_of crossings crossing) (nat_eq over crossing)
is_positive-order crossings crossing over small none found = grind (arith, nat_tests)
