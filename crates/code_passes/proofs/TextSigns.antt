-- Where no component has a single arc, each crossing of the code of a text has the sign that the text lists.
--
-- The sign is read off in three ways, by the size of the component of the over pass. Three arcs or more: the over pass was laid by the
-- listed sign, from slot 3 to slot 1 or back. Fewer, and an under pass: it tells the direction. Fewer, and none: the component begins with
-- its lesser label, so the first listed of its over passes goes up, as the rule has it; and what is listed is what is read off.
use Rattle.kh_types.specs.Directions.{HasNoSingleArcs}
use Rattle.code_passes.specs.Labels.{bad_label}
use Rattle.std.proofs.Common.{ℤ}
use Rattle.std.proofs.Common.{◌≡◌, ◌≢◌, ℕ, inl, inr, ◌⊎◌, ◌+◌, ◌-◌, ◌<◌, ◌≤◌, ◌∙◌, List, length, refl, sym, ap, arith, true, false, pos}
use Rattle.std.specs.Prelude.{Option, Some, None, nat_eq, int_lt}
use Rattle.std.specs.Ordering.{int_eq}
use Rattle.std.proofs.lemmas.Bool.{both_ways, cases_lt, eq-eqb, eqb-true}
use Rattle.std.proofs.lemmas.Bool.Decides.{nat_tests}
use Rattle.kh_types.specs.Code.{arc_in, slots_of, IsArc, IsCrossing}
use Rattle.kh_types.specs.Components.{components_of, arcs_in, next}
use Rattle.kh_types.specs.Directions.{first_under, first_over, passes_under, passes_over, is_positive}
use Rattle.kh_types.proofs.NextArcs.{component, size_at, HasPlace-directed, component-next}
use Rattle.kh_types.proofs.DirectedPasses.{is_positive-order}
use Rattle.code_passes.specs.Labels.{listed_number}
use Rattle.code_passes.specs.Passes.{Pass, is_over, all_labels, crossings_in, crossings_of}
use Rattle.code_passes.proofs.SignRules.{by_order, find-first, over-same}
use Rattle.code_passes.proofs.LabelCounts.{over_at, find-none_at}
use Rattle.code_passes.proofs.ComponentPasses.{start_from, start-past, label_from}
use Rattle.code_passes.proofs.CrossingPasses.{under_pass, over_pass, all-passes_hold, entering, enters-entering, entering-holds}
use Rattle.code_passes.proofs.TextCrossings.{length-crossings, arc_count-crossings, HasSlots-of}
use Rattle.code_passes.proofs.TextComponents.{component-is}
use Rattle.code_passes.proofs.TurnedLabels.{two_over-rise}
use Rattle.code_passes.proofs.DirectedText.{place-below}
use Rattle.code_passes.proofs.OverPasses.{GoodText, Goes_on, directed, over-goes_on, goes-at, component-slot, positive-large, apart, in_two, label-enters_over, positive-under}

module _ (text : GoodText) where
  open text use {groups, signs, none}

  abbrev crossings : List (List ℕ)
  crossings = crossings_of groups signs

  -- one that is over at both its crossings: the pass at the lesser crossing enters on its first arc
  rises : (low high low_place high_place : ℕ) → IsArc crossings low → IsArc crossings high → component crossings low ≡ low
      → high ≡ low + 1 → component crossings high ≡ low → size_at crossings low ≤ 2 → label_from 1 groups low ≡ over_at low_place
      → label_from 1 groups high ≡ over_at high_place → low_place ≤ high_place
  rises low high low_place high_place low_is high_is own is inside small low_label high_label =
      let count = arc_count-crossings groups signs none in
      let start = λ (arc : ℕ). sym (component-is groups signs none arc) in
      let next_label : label_from 1 groups (low + 1) ≡ over_at high_place = ap (label_from 1 groups) (sym is) ∙ high_label in
      let third : start_from 1 groups (low + 2) ≢ low =
      λ same. elim (cases_lt (low + 2) (1 + length (all_labels groups))) [
        | inr past ↦ omega (arith, same, start-past 1 groups (low + 2) past, low_is.positive)
        | inl within ↦
            let place = HasPlace-directed crossings (directed text) (low + 2)
            (record { positive = omega arith; within = omega (arith, within, count) }) in
            let there : component crossings (low + 2) ≡ low = component-is groups signs none (low + 2) ∙ same in
            let alike : size_at crossings (low + 2) ≡ size_at crossings low =
            ap (arcs_in (components_of crossings)) (there ∙ sym own) in
            omega (arith, place.below, there, alike, small)
      ] in
      let falls_not = two_over-rise 1 groups low (omega arith) low_is.positive (omega (arith, low_is.within, count)) (start low ∙ own)
      (start (low + 1) ∙ ap (component crossings) (sym is) ∙ inside) third (ap is_over low_label ∙ over-over low_place)
      (ap is_over next_label ∙ over-over high_place) in
      not_less high_place low_place
      (ap (λ label. int_lt label (over_at low_place)) (sym next_label)
      ∙ ap (λ label. int_lt (label_from 1 groups (low + 1)) label) (sym low_label) ∙ falls_not)
    where
      over-over : (place : ℕ) → is_over (over_at place) ≡ true
      over-over place = grind (arith, nat_tests)

      not_less : (x y : ℕ) → int_lt (over_at x) (over_at y) ≡ false → y ≤ x
      not_less x y fails = grind (arith, nat_tests)

  -- the pass that enters on an arc is one of a crossing
  Meets : Pass → Type 0
  Meets pass = (place : ℕ) × (place < crossings_in groups) × ((pass ≡ under_pass groups place) ⊎ (pass ≡ over_pass groups place))

  entering-meets : (arc : ℕ) → IsArc crossings arc → Meets (entering groups arc)
  unfolding Meets
  entering-meets arc is =
      entering-holds groups Meets arc is.positive (omega (arith, is.within, arc_count-crossings groups signs none))
      (all-passes_hold groups none Meets (λ place below. ((place, below, inl refl), (place, below, inr refl))))

  number-of : (place : ℕ) → place < crossings_in groups → IsCrossing crossings (place + 1)
  number-of place below = record { positive = omega arith; within = omega (arith, below, length-crossings groups signs) }

  -- its arcs are the first and the next, in one order or the other, and the lesser crossing comes first
  both-rise : (from to place other : ℕ) → Goes_on text from to → next crossings from ≢ from → size_at crossings from ≤ 2 → label_from 1 groups from ≡ over_at place
      → label_from 1 groups to ≡ over_at other → place ≢ other → ((from < to) × (place < other)) ⊎ ((to < from) × (other < place))
  both-rise from to place other on moves small label other_label differ =
      let components = components_of crossings in
      let at = HasPlace-directed crossings (directed text) from on.from_is in
      let together : component crossings to ≡ component crossings from =
      ap (component crossings) on.follows ∙ component-next crossings (directed text) from on.from_is in
      let alike : size_at crossings to ≡ size_at crossings from = ap (arcs_in components) together in
      elim (ends (component crossings from) (size_at crossings from) from to small at.from at.below
      (λ within. on.follows ∙ at.inside within) (λ behind. on.follows ∙ at.last behind) (apart text from to on moves)) [
        | inl up ↦
            let le = rises from to place other on.from_is on.to_is (sym up.0) (up.1 ∙ ap (λ x. x + 1) (sym up.0)) (together ∙ sym up.0)
            small
            label other_label in
            inl (omega (arith, up.0, up.1), omega (arith, le, differ))
        | inr down ↦
            let le = rises to from other place on.to_is on.from_is (together ∙ sym down.0) (down.1 ∙ ap (λ x. x + 1) (sym down.0))
            (sym down.0) (omega (arith, alike, small)) other_label label in
            inr (omega (arith, down.0, down.1), omega (arith, le, differ))
      ]
    where
      ends : (first size a b : ℕ) → size ≤ 2 → first ≤ a → a < first + size → (a + 1 < first + size → b ≡ a + 1)
          → (first + size ≤ a + 1 → b ≡ first) → b ≢ a
          → ((a ≡ first) × (b ≡ first + 1)) ⊎ ((b ≡ first) × (a ≡ first + 1))
      ends first size a b small after below inside last differ = grind arith

  -- what is over in such a component is one of the two passes
  over-one_of : (first from to place other : ℕ) → Goes_on text from to → next crossings from ≢ from → size_at crossings from ≤ 2
      → label_from 1 groups from ≡ over_at place → label_from 1 groups to ≡ over_at other → IsCrossing crossings first
      → component crossings (arc_in (slots_of crossings first) 1) ≡ component crossings from → (first - 1 ≡ place) ⊎ (first - 1 ≡ other)
  over-one_of first from to place other on moves small label other_label is same =
      let slots = slots_of crossings first in
      let below = place-below groups signs none first is in
      let over = over_pass groups (first - 1) in
      let over_on = over-goes_on text (first - 1) below in
      let inside = sym (component-slot text (int_eq (listed_number signs (first - 1)) (pos 1)) (arc_in slots 1) (arc_in slots 3) over.enters
      over.leaves over_on (goes-at text first is)) ∙ same in
      let over_label = sym (label-enters_over text (first - 1) below) in
      elim (in_two text from to over.enters on moves small over_on.from_is inside) [
        | inl is_from ↦ inl (over-same (first - 1) place (over_label ∙ ap (label_from 1 groups) is_from ∙ label))
        | inr is_to ↦ inr (over-same (first - 1) other (over_label ∙ ap (label_from 1 groups) is_to ∙ other_label))
      ]

  -- so where it passes under nowhere, the crossing has the sign that is listed
  positive-over : (crossing other first : ℕ) → IsCrossing crossings crossing → other < crossings_in groups
      → next crossings (over_pass groups (crossing - 1)).enters ≢ (over_pass groups (crossing - 1)).enters
      → size_at crossings (over_pass groups (crossing - 1)).enters ≤ 2
      → (over_pass groups other).enters ≡ (over_pass groups (crossing - 1)).leaves
      → first_under crossings (components_of crossings) (component crossings (arc_in (slots_of crossings crossing) 1)) ≡ None
      → first_over crossings (components_of crossings) (component crossings (arc_in (slots_of crossings crossing) 1)) ≡ Some first
      → is_positive crossings crossing ≡ int_eq (listed_number signs (crossing - 1)) (pos 1)
  positive-over crossing other first is below moves small enters nowhere found =
      let components = components_of crossings in
      let listed = int_eq (listed_number signs (crossing - 1)) (pos 1) in
      let slots = slots_of crossings crossing in
      let one = arc_in slots 1 in
      let place_within = place-below groups signs none crossing is in
      let from = (over_pass groups (crossing - 1)).enters in
      let to = (over_pass groups (crossing - 1)).leaves in
      let on = over-goes_on text (crossing - 1) place_within in
      let goes = goes-at text crossing is in
      let same = component-slot text listed one (arc_in slots 3) from to on goes in
      let size : size_at crossings one ≡ size_at crossings from = ap (arcs_in components) same in
      let label = label-enters_over text (crossing - 1) place_within in
      let other_label = ap (label_from 1 groups) (sym enters) ∙ label-enters_over text other below in
      let differ : crossing - 1 ≢ other =
      λ is_other. apart text from to on moves (sym enters ∙ ap (λ place. (over_pass groups place).enters) (sym is_other)) in
      let search = find-first (passes_over crossings components (component crossings one)) 1 (length crossings) first found in
      let is_first : IsCrossing crossings first = record { positive = search.from; within = omega (arith, search.below) } in
      let inside = eqb-true (component crossings (arc_in (slots_of crossings first) 1)) (component crossings one) search.passes ∙ same in
      let back : other + 1 - 1 ≡ other = omega arith in
      let other_is = number-of other below in
      let other_slots = slots_of crossings (other + 1) in
      let other_pass = over_pass groups (other + 1 - 1) in
      let other_same : component crossings (arc_in other_slots 1) ≡ component crossings one =
      component-slot text (int_eq (listed_number signs (other + 1 - 1)) (pos 1)) (arc_in other_slots 1) (arc_in other_slots 3) other_pass.enters
      other_pass.leaves (over-goes_on text (other + 1 - 1) (place-below groups signs none (other + 1) other_is))
      (goes-at text (other + 1) other_is)
      ∙ ap (λ place. component crossings (over_pass groups place).enters) back
      ∙ ap (component crossings) (enters ∙ on.follows) ∙ component-next crossings (directed text) from on.from_is ∙ sym same in
      by_order (is_positive crossings crossing) listed one (arc_in slots 3) from to first crossing (other + 1)
      (is_positive-order crossings crossing first (omega (arith, size, small)) nowhere found)
      (search.first crossing is.positive (eq-eqb (component crossings one) (component crossings one) refl))
      (search.first (other + 1) (omega arith) (eq-eqb (component crossings (arc_in other_slots 1)) (component crossings one) other_same))
      (elim (over-one_of first from to (crossing - 1) other on moves small label other_label is_first inside) [
        | inl is_crossing ↦ inl (omega (arith, is_crossing, search.from, is.positive))
        | inr is_other ↦ inr (omega (arith, is_other, search.from))
      ])
      (elim (both-rise from to (crossing - 1) other on moves small label other_label differ) [
        | inl up ↦ inl (up.0, omega (arith, up.1, is.positive))
        | inr down ↦ inr (down.0, omega (arith, down.1, is.positive))
      ])
      goes

  -- a component that passes over at a crossing has a first crossing at which it does
  some-first : (crossing : ℕ) → IsCrossing crossings crossing
      → (first : ℕ)
      × (first_over crossings (components_of crossings) (component crossings (arc_in (slots_of crossings crossing) 1)) ≡ Some first)
  some-first crossing is = by (first_over crossings (components_of crossings) (component crossings one)) refl
    where
      one : ℕ
      one = arc_in (slots_of crossings crossing) 1

      by : (found : Option ℕ) → first_over crossings (components_of crossings) (component crossings one) ≡ found
          → (first : ℕ) × (first_over crossings (components_of crossings) (component crossings one) ≡ Some first)
      by None nothing = absurd
          (both_ways (nat_eq (component crossings one) (component crossings one))
          (find-none_at (passes_over crossings (components_of crossings) (component crossings one)) 1 (length crossings) crossing nothing
          is.positive (omega (arith, is.within)))
          (eq-eqb (component crossings one) (component crossings one) refl))
      by (Some first) found = (first, found)

  -- the other pass of a component of two arcs is no under pass, where the component passes under nowhere
  no-under : (crossing place : ℕ) → IsCrossing crossings crossing → place < crossings_in groups
      → (under_pass groups place).enters ≡ (over_pass groups (crossing - 1)).leaves
      → first_under crossings (components_of crossings) (component crossings (arc_in (slots_of crossings crossing) 1)) ≡ None → ⊥
  no-under crossing place is below enters nowhere =
      let components = components_of crossings in
      let slots = slots_of crossings crossing in
      let one = arc_in slots 1 in
      let over = over_pass groups (crossing - 1) in
      let on = over-goes_on text (crossing - 1) (place-below groups signs none crossing is) in
      let same = component-slot text (int_eq (listed_number signs (crossing - 1)) (pos 1)) one (arc_in slots 3) over.enters over.leaves on
      (goes-at text crossing is) in
      let under_is = number-of place below in
      let zero_slot = arc_in (slots_of crossings (place + 1)) 0 in
      let back : place + 1 - 1 ≡ place = omega arith in
      let under_same : component crossings zero_slot ≡ component crossings one =
      ap (component crossings)
      ((HasSlots-of groups signs (place + 1) under_is).under_from ∙ ap (λ at. (under_pass groups at).enters) back ∙ enters ∙ on.follows)
      ∙ component-next crossings (directed text) over.enters on.from_is ∙ sym same in
      both_ways (nat_eq (component crossings zero_slot) (component crossings one))
      (find-none_at (passes_under crossings components (component crossings one)) 1 (length crossings) (place + 1) nowhere
      (omega arith) (omega (arith, under_is.within)))
      (eq-eqb (component crossings zero_slot) (component crossings one) under_same)

  -- in a component of at most two arcs
  positive-small : (crossing : ℕ) → IsCrossing crossings crossing
      → next crossings (over_pass groups (crossing - 1)).enters ≢ (over_pass groups (crossing - 1)).enters
      → size_at crossings (over_pass groups (crossing - 1)).enters ≤ 2
      → is_positive crossings crossing ≡ int_eq (listed_number signs (crossing - 1)) (pos 1)
  unfolding Meets
  positive-small crossing is moves small =
      by (first_under crossings (components_of crossings) (component crossings (arc_in (slots_of crossings crossing) 1))) refl
    where
      by : (found : Option ℕ)
          → first_under crossings (components_of crossings) (component crossings (arc_in (slots_of crossings crossing) 1)) ≡ found
          → is_positive crossings crossing ≡ int_eq (listed_number signs (crossing - 1)) (pos 1)
      by (Some under) found =
          let over = over_pass groups (crossing - 1) in
          let within = place-below groups signs none crossing is in
          positive-under text crossing under over.enters over.leaves (crossing - 1) (int_eq (listed_number signs (crossing - 1)) (pos 1))
          (over-goes_on text (crossing - 1) within) moves (goes-at text crossing is) small (label-enters_over text (crossing - 1) within) found
      by None nowhere =
          let over = over_pass groups (crossing - 1) in
          let on = over-goes_on text (crossing - 1) (place-below groups signs none crossing is) in
          let enters = enters-entering groups over.leaves on.to_is.positive
          (omega (arith, on.to_is.within, arc_count-crossings groups signs none)) in
          let meets = entering-meets over.leaves on.to_is in
          let first = some-first crossing is in
          elim meets.2 [
            | inl is_under ↦ absurd
                (no-under crossing meets.0 is meets.1 (ap (λ (pass : Pass). pass.enters) (sym is_under) ∙ enters) nowhere)
            | inr is_over ↦
                positive-over crossing meets.0 first.0 is meets.1 moves small (ap (λ (pass : Pass). pass.enters) (sym is_over) ∙ enters) nowhere
                first.1
          ]

  -- each crossing is positive exactly where the text lists it as positive
  pub is_positive-listed : (crossing : ℕ) → IsCrossing crossings crossing
      → next crossings (over_pass groups (crossing - 1)).enters ≢ (over_pass groups (crossing - 1)).enters
      → is_positive crossings crossing ≡ int_eq (listed_number signs (crossing - 1)) (pos 1)
  is_positive-listed crossing is moves =
      let over = over_pass groups (crossing - 1) in
      elim (cases_lt 2 (size_at crossings over.enters)) [
        | inl large ↦
            positive-large text crossing over.enters over.leaves (int_eq (listed_number signs (crossing - 1)) (pos 1))
            (over-goes_on text (crossing - 1) (place-below groups signs none crossing is)) (goes-at text crossing is) large
        | inr small ↦ positive-small crossing is moves small
      ]

-- where no arc is a component alone, no pass enters and leaves on one arc, and all signs are those that are listed
pub is_positive-moves : (groups : List (List ℤ)) (signs : List ℤ) → bad_label (all_labels groups) ≡ None
    → HasNoSingleArcs (crossings_of groups signs) → (crossing : ℕ) → IsCrossing (crossings_of groups signs) crossing
    → is_positive (crossings_of groups signs) crossing ≡ int_eq (listed_number signs (crossing - 1)) (pos 1)
is_positive-moves groups signs none moves crossing is =
    let text : GoodText = record { groups = groups; signs = signs; none = none } in
    is_positive-listed text crossing is
    (moves (over_pass groups (crossing - 1)).enters
    (over-goes_on text (crossing - 1) (place-below groups signs none crossing is)).from_is)
