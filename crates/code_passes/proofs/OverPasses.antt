-- The over passes of the code of a text, in components of two arcs and in larger ones.
use Rattle.std.proofs.Common.{◌≡◌, ◌≢◌, ℕ, inl, inr, ◌⊎◌, ◌-◌, ◌<◌, ◌≤◌, ◌∙◌, List, length, refl, sym, subst, ap, arith, Bool, ℤ, pos}
use Rattle.std.specs.Prelude.{Some, None}
use Rattle.std.specs.Ordering.{int_eq}
use Rattle.std.proofs.lemmas.Bool.{eqb-true}
use Rattle.kh_types.specs.Code.{arc_in, slots_of, IsArc, IsCrossing}
use Rattle.kh_types.specs.Components.{components_of, arcs_in, next}
use Rattle.kh_types.specs.Directions.{first_under, passes_under, is_positive_by_next, is_positive_of_two, is_positive}
use Rattle.kh_types.specs.Accepted.{IsDirected}
use Rattle.kh_types.proofs.NextArcs.{component, size_at, HasPlace-directed, component-next, next-twice}
use Rattle.kh_types.proofs.PassPairs.{IsArc-at}
use Rattle.kh_types.proofs.DirectedPasses.{is_positive-under, by_size}
use Rattle.code_passes.specs.Labels.{listed_number, bad_label}
use Rattle.code_passes.specs.Passes.{Pass, all_labels, crossings_in, crossings_of}
use Rattle.code_passes.proofs.SignRules.{Goes, Goes-between, by_next, by_under, other_arc, not_back, find-first, under-over}
use Rattle.code_passes.proofs.LabelCounts.{over_at}
use Rattle.code_passes.proofs.ComponentPasses.{label_from, IsPassOf, IsPassOf-all}
use Rattle.code_passes.proofs.CrossingPasses.{under_pass, over_pass, over-holds, label-over}
use Rattle.code_passes.proofs.TextCrossings.{slots-at}
use Rattle.code_passes.proofs.TextComponents.{next-passes}
use Rattle.code_passes.proofs.DirectedText.{place-below, IsArc-enters, IsArc-leaves, label-enters, IsDirected-crossings}

-- the components and signs of a text of which no label is bad
pub record GoodText : Type 0 where
  pub groups : List (List ℤ)
  pub signs : List ℤ
  pub none : bad_label (all_labels groups) ≡ None

module _ (text : GoodText) where
  open text use {groups, signs, none}

  abbrev crossings : List (List ℕ)
  crossings = crossings_of groups signs

  pub directed : IsDirected crossings
  directed = IsDirected-crossings groups signs none

  -- what is known of the pass that is over at a crossing, or under at it, with the arcs on which it enters and leaves
  pub record Goes_on (from to : ℕ) : Type 0 where
    pub from_is : IsArc crossings from
    pub to_is : IsArc crossings to
    pub follows : to ≡ next crossings from

  Goes_on-pass : (pass : Pass) → IsPassOf 1 groups pass → pass.leaves ≡ next crossings pass.enters → Goes_on pass.enters pass.leaves
  Goes_on-pass pass is follows = record {
    from_is = IsArc-enters groups signs none pass is pass.enters refl;
    to_is = IsArc-leaves groups signs none pass is pass.leaves refl;
    follows = follows;
  }

  pub over-goes_on : (place : ℕ) → place < crossings_in groups → Goes_on (over_pass groups place).enters (over_pass groups place).leaves
  over-goes_on place below =
      Goes_on-pass (over_pass groups place) (over-holds groups none (IsPassOf 1 groups) place below (IsPassOf-all 1 groups (omega arith)))
      (over-holds groups none (λ (pass : Pass). pass.leaves ≡ next crossings pass.enters) place below (next-passes groups signs none))

  -- the slots of the over pass of a crossing
  pub goes-at : (crossing : ℕ) → IsCrossing crossings crossing
      → Goes (int_eq (listed_number signs (crossing - 1)) (pos 1)) (arc_in (slots_of crossings crossing) 1)
      (arc_in (slots_of crossings crossing) 3) (over_pass groups (crossing - 1)).enters (over_pass groups (crossing - 1)).leaves
  goes-at crossing is =
      let place = crossing - 1 in
      let over = over_pass groups place in
      subst (λ (slots : List ℕ). Goes (int_eq (listed_number signs place) (pos 1)) (arc_in slots 1) (arc_in slots 3) over.enters over.leaves)
      (sym (slots-at groups signs place (place-below groups signs none crossing is)))
      (Goes-between (under_pass groups place) over (listed_number signs place))

  -- slot 1 of it is in the component of its arcs
  pub component-slot : (listed : Bool) (one three from to : ℕ) → Goes_on from to → Goes listed one three from to
      → component crossings one ≡ component crossings from
  component-slot listed one three from to on (inl up) =
      ap (component crossings) (up.2 ∙ on.follows) ∙ component-next crossings directed from on.from_is
  component-slot listed one three from to on (inr down) = ap (component crossings) down.1

  -- in a component of three arcs or more
  pub positive-large : (crossing from to : ℕ) (listed : Bool) → Goes_on from to
      → Goes listed (arc_in (slots_of crossings crossing) 1) (arc_in (slots_of crossings crossing) 3) from to
      → 2 < size_at crossings from → is_positive crossings crossing ≡ listed
  positive-large crossing from to listed on goes large =
      let slots = slots_of crossings crossing in
      let components = components_of crossings in
      let one = arc_in slots 1 in
      let same = component-slot listed one (arc_in slots 3) from to on goes in
      let size : size_at crossings one ≡ size_at crossings from = ap (arcs_in components) same in
      let rule = by_size (size_at crossings one) (is_positive_by_next components slots)
      (is_positive_of_two crossings components crossing) (omega (arith, size, large)) in
      let place = HasPlace-directed crossings directed from on.from_is in
      let to_place = HasPlace-directed crossings directed to on.to_is in
      let together : component crossings to ≡ component crossings from =
      ap (component crossings) on.follows ∙ component-next crossings directed from on.from_is in
      let alike : size_at crossings to ≡ size_at crossings from = ap (arcs_in components) together in
      let apart = not_back (component crossings from) (size_at crossings from) from to (next crossings to) large place.from place.below
      (λ within. on.follows ∙ place.inside within) (λ behind. on.follows ∙ place.last behind)
      (omega (arith, to_place.from, together)) (omega (arith, to_place.below, together, alike))
      (λ within. to_place.inside (omega (arith, within, together, alike)))
      (λ behind. to_place.last (omega (arith, behind, together, alike)) ∙ together) in
      by_next (is_positive crossings crossing) listed one (arc_in slots 3) from to (next crossings (arc_in slots 3)) (next crossings to)
      rule (λ at_from. ap (next crossings) at_from ∙ sym on.follows) (λ at_to. ap (next crossings) at_to) apart goes

  -- in a component of two arcs
  pub apart : (from to : ℕ) → Goes_on from to → next crossings from ≢ from → to ≢ from
  apart from to on moves stays = moves (sym on.follows ∙ stays)

  pub in_two : (from to x : ℕ) → Goes_on from to → next crossings from ≢ from → size_at crossings from ≤ 2 → IsArc crossings x
      → component crossings x ≡ component crossings from → (x ≡ from) ⊎ (x ≡ to)
  in_two from to x on moves small is same =
      let place = HasPlace-directed crossings directed from on.from_is in
      let x_place = HasPlace-directed crossings directed x is in
      let alike : size_at crossings x ≡ size_at crossings from = ap (arcs_in (components_of crossings)) same in
      other_arc (component crossings from) (size_at crossings from) from to x small place.from place.below
      (λ within. on.follows ∙ place.inside within) (λ behind. on.follows ∙ place.last behind) (apart from to on moves)
      (omega (arith, x_place.from, same)) (omega (arith, x_place.below, same, alike))

  pub next-back : (from to : ℕ) → Goes_on from to → size_at crossings from ≤ 2 → next crossings to ≡ from
  next-back from to on small = ap (next crossings) on.follows ∙ next-twice crossings directed from on.from_is small

  pub label-enters_over : (place : ℕ) → place < crossings_in groups → label_from 1 groups (over_pass groups place).enters ≡ over_at place
  label-enters_over place below =
      sym (over-holds groups none (IsPassOf 1 groups) place below (IsPassOf-all 1 groups (omega arith))).label
      ∙ label-over groups none place below

  -- one that passes under somewhere
  pub positive-under : (crossing under from to place : ℕ) (listed : Bool) → Goes_on from to → next crossings from ≢ from
      → Goes listed (arc_in (slots_of crossings crossing) 1) (arc_in (slots_of crossings crossing) 3) from to
      → size_at crossings from ≤ 2 → label_from 1 groups from ≡ over_at place
      → first_under crossings (components_of crossings) (component crossings (arc_in (slots_of crossings crossing) 1)) ≡ Some under
      → is_positive crossings crossing ≡ listed
  positive-under crossing under from to place listed on moves goes small label found =
      let slots = slots_of crossings crossing in
      let components = components_of crossings in
      let one = arc_in slots 1 in
      let same = component-slot listed one (arc_in slots 3) from to on goes in
      let size : size_at crossings one ≡ size_at crossings from = ap (arcs_in components) same in
      let first = find-first (passes_under crossings components (component crossings one)) 1 (length crossings) under found in
      let is : IsCrossing crossings under = record { positive = first.from; within = omega (arith, first.below) } in
      let enters = arc_in (slots_of crossings under) 0 in
      let inside : component crossings enters ≡ component crossings from =
      eqb-true (component crossings enters) (component crossings one) first.passes ∙ same in
      elim (in_two from to enters on moves small (IsArc-at crossings under 0 directed is (omega arith)) inside) [
        | inl is_from ↦ absurd
            (under-over (under - 1) place (label-enters groups signs none under is ∙ ap (label_from 1 groups) is_from ∙ label))
        | inr is_to ↦
            let end : arc_in (slots_of crossings under) 2 ≡ from =
            directed.under under is ∙ ap (next crossings) is_to ∙ next-back from to on small in
            by_under (is_positive crossings crossing) listed one (arc_in slots 3) from to (arc_in (slots_of crossings under) 2)
            (is_positive-under crossings crossing under (omega (arith, size, small)) found) end (apart from to on moves) goes
      ]
