-- The code of components where no label is bad is a directed code.
--
-- Each rule of a directed code is read off the passes: a crossing has two, whose four ends are its slots (LabelCounts), so that the arcs of
-- its slots stand twice, once entered and once left (ArcCounts); and a pass goes from an arc to the next of its component
-- (ComponentPasses). No two under passes enter on one arc, as the arc tells the label and the label the crossing.
use Rattle.std.proofs.lemmas.Bool.Decides.{nat_tests}
use Rattle.std.proofs.Common.{◌≡◌, ◌≢◌, ℕ, suc, inl, inr, ◌⊎◌, ◌+◌, ◌-◌, ◌<◌, ◌∙◌, List, [], length, sym, ap, arith, ℤ, nat_abs}
use Rattle.std.specs.Prelude.{None, slice_index_or}
use Rattle.std.specs.List.{sum_by, range_with_len, AllByRecursion}
use Rattle.kh_types.specs.declared.dart.Dart.{Dart}
use Rattle.kh_types.specs.Code.{arc_in, slots_of, IsArc, IsCrossing}
use Rattle.kh_types.specs.Components.{components_of, component_of, next}
use Rattle.kh_types.specs.Darts.{arc_of, times, IsDart}
use Rattle.kh_types.specs.Accepted.{IsDirected, IsInterval}
use Rattle.code_passes.specs.Labels.{bad_label}
use Rattle.code_passes.specs.Passes.{Pass, all_passes, all_labels, crossings_in, crossings_of}
use Rattle.kh_types.proofs.ListSums.{sum_by-range_alike, sum_by-plus}
use Rattle.kh_types.proofs.Ranges.{below_four}
use Rattle.code_passes.proofs.LabelCounts.{under_at, under_at-is}
use Rattle.code_passes.proofs.ComponentPasses.{label_from, IsPassOf, IsPassOf-all}
use Rattle.code_passes.proofs.ArcCounts.{enters_on, leaves_on, sum-enters, sum-leaves}
use Rattle.code_passes.proofs.CrossingPasses.{under_pass, over_pass, under-holds, over-holds, label-under, sum-crossings}
use Rattle.code_passes.proofs.TextCrossings.{length-crossings, arc_count-crossings, HasSlots, HasSlots-at, HasSlots-of}
use Rattle.code_passes.proofs.TextComponents.{component-is, next-passes}
use Rattle.code_passes.proofs.Intervals.{IsInterval-component}
use Rattle.code_passes.proofs.DartCounts.{times_in, times-crossings}

-- how often an arc is an end of a pass
abbrev ends_on : ℕ → Pass → ℕ
ends_on arc pass = enters_on arc pass + leaves_on arc pass

-- the slots of a crossing hold the ends of its passes
times_in-passes : (under over : Pass) (slots : List ℕ) (arc : ℕ) → HasSlots under over slots
    → times_in slots arc ≡ ends_on arc under + ends_on arc over
times_in-passes under over slots arc has = grind (arith, nat_tests)

module _ (groups : List (List ℤ)) (signs : List ℤ) (none : bad_label (all_labels groups) ≡ None) where
  abbrev crossings : List (List ℕ)
  crossings = crossings_of groups signs

  -- the place of a crossing
  pub place-below : (crossing : ℕ) → IsCrossing crossings crossing → crossing - 1 < crossings_in groups
  place-below crossing is = omega (arith, is.positive, is.within, length-crossings groups signs)

  all-passes : AllByRecursion (IsPassOf 1 groups) (all_passes 1 groups)
  all-passes = IsPassOf-all 1 groups (omega arith)

  -- the ends of a pass are arcs
  pub IsArc-enters : (pass : Pass) → IsPassOf 1 groups pass → (arc : ℕ) → arc ≡ pass.enters → IsArc crossings arc
  IsArc-enters pass is arc same = grind (arith, nat_tests, arc_count-crossings groups signs none)

  pub IsArc-leaves : (pass : Pass) → IsPassOf 1 groups pass → (arc : ℕ) → arc ≡ pass.leaves → IsArc crossings arc
  IsArc-leaves pass is arc same = grind (arith, nat_tests, arc_count-crossings groups signs none)

  IsArc-slot : (dart : Dart) → IsDart crossings dart → IsArc crossings (arc_of crossings dart)
  IsArc-slot dart is =
      let place = dart.crossing - 1 in
      let slots = slots_of crossings dart.crossing in
      let below = place-below dart.crossing is.crossing in
      let has = HasSlots-of groups signs dart.crossing is.crossing in
      let under = under_pass groups place in
      let over = over_pass groups place in
      let is_under = under-holds groups none (IsPassOf 1 groups) place below all-passes in
      let is_over = over-holds groups none (IsPassOf 1 groups) place below all-passes in
      below_four (λ slot. IsArc crossings (arc_in slots slot))
      (IsArc-enters under is_under (arc_in slots 0) has.under_from)
      (elim has.over_arcs [
        | inl back ↦ IsArc-leaves over is_over (arc_in slots 1) back.0
        | inr onward ↦ IsArc-enters over is_over (arc_in slots 1) onward.0
      ])
      (IsArc-leaves under is_under (arc_in slots 2) has.under_to)
      (elim has.over_arcs [
        | inl back ↦ IsArc-enters over is_over (arc_in slots 3) back.1
        | inr onward ↦ IsArc-leaves over is_over (arc_in slots 3) onward.1
      ])
      dart.slot is.slot

  -- each arc is entered once and left once, so it stands twice
  times-two : (arc : ℕ) → IsArc crossings arc → times crossings arc ≡ 2
  times-two arc is =
      let within : arc < 1 + length (all_labels groups) = omega (arith, is.within, arc_count-crossings groups signs none) in
      let f = λ (place : ℕ). ends_on arc (under_pass groups place) + ends_on arc (over_pass groups place) in
      let all : times crossings arc ≡ sum_by (ends_on arc) (all_passes 1 groups) =
      times-crossings crossings arc
      ∙ ap (λ n. sum_by (λ place. times_in (slice_index_or crossings place []) arc) (range_with_len 0 n)) (length-crossings groups signs)
      ∙ sum_by-range_alike (λ place. times_in (slice_index_or crossings place []) arc) f 0 (crossings_in groups)
      (λ place from below.
      times_in-passes (under_pass groups place) (over_pass groups place) (slice_index_or crossings place []) arc
      (HasSlots-at groups signs place (omega (arith, below))))
      ∙ sum-crossings groups none (ends_on arc) in
      omega (
        arith,
        all,
        sum_by-plus (enters_on arc) (leaves_on arc) (all_passes 1 groups),
        sum-enters 1 arc groups is.positive within,
        sum-leaves 1 arc groups is.positive within,
      )

  -- components are intervals
  IsInterval-arc : (arc : ℕ) → IsArc crossings arc → component_of (components_of crossings) arc ≡ arc
      → IsInterval (components_of crossings) arc
  IsInterval-arc arc is own =
      IsInterval-component groups signs none arc is.positive (omega (arith, is.within, arc_count-crossings groups signs none))
      (sym (component-is groups signs none arc) ∙ own)

  -- a pass goes from an arc to the next
  pub under-next : (crossing : ℕ) → IsCrossing crossings crossing
      → arc_in (slots_of crossings crossing) 2 ≡ next crossings (arc_in (slots_of crossings crossing) 0)
  under-next crossing is =
      let has = HasSlots-of groups signs crossing is in
      has.under_to
      ∙ under-holds groups none (λ (pass : Pass). pass.leaves ≡ next crossings pass.enters) (crossing - 1) (place-below crossing is)
      (next-passes groups signs none)
      ∙ ap (λ arc. next crossings arc) (sym has.under_from)

  pub over-next : (crossing : ℕ) → IsCrossing crossings crossing
      → (arc_in (slots_of crossings crossing) 3 ≡ next crossings (arc_in (slots_of crossings crossing) 1))
      ⊎ (arc_in (slots_of crossings crossing) 1 ≡ next crossings (arc_in (slots_of crossings crossing) 3))
  over-next crossing is =
      let has = HasSlots-of groups signs crossing is in
      let leads = over-holds groups none (λ (pass : Pass). pass.leaves ≡ next crossings pass.enters) (crossing - 1)
      (place-below crossing is) (next-passes groups signs none) in
      elim has.over_arcs [
        | inl back ↦ inr (back.0 ∙ leads ∙ ap (λ arc. next crossings arc) (sym back.1))
        | inr onward ↦ inl (onward.1 ∙ leads ∙ ap (λ arc. next crossings arc) (sym onward.0))
      ]

  -- no two under passes come in on one arc, since the arc tells the label
  pub label-enters : (crossing : ℕ) → IsCrossing crossings crossing
      → under_at (crossing - 1) ≡ label_from 1 groups (arc_in (slots_of crossings crossing) 0)
  label-enters crossing is =
      let below = place-below crossing is in
      sym (label-under groups none (crossing - 1) below)
      ∙ (under-holds groups none (IsPassOf 1 groups) (crossing - 1) below all-passes).label
      ∙ ap (label_from 1 groups) (sym (HasSlots-of groups signs crossing is).under_from)

  under-apart : (earlier later : ℕ) → IsCrossing crossings earlier → IsCrossing crossings later → earlier < later
      → arc_in (slots_of crossings earlier) 0 ≢ arc_in (slots_of crossings later) 0
  under-apart earlier later is_earlier is_later before same =
      let labels : under_at (earlier - 1) ≡ under_at (later - 1) =
      label-enters earlier is_earlier ∙ ap (label_from 1 groups) same ∙ sym (label-enters later is_later) in
      let sizes : suc (earlier - 1) ≡ suc (later - 1) =
      ap nat_abs (sym (under_at-is (earlier - 1)) ∙ labels ∙ under_at-is (later - 1)) in
      omega (arith, sizes, before, is_earlier.positive)

  pub IsDirected-crossings : IsDirected crossings
  IsDirected-crossings = record {
    slots = IsArc-slot;
    twice = times-two;
    intervals = IsInterval-arc;
    under = under-next;
    over = over-next;
    two_arcs = λ earlier later is_earlier is_later before same.
        absurd (under-apart earlier later is_earlier is_later before same);
  }
