-- The components of the code of a text are the components that the text lists, each named by its first arc.
use Rattle.std.proofs.lemmas.Bool.Decides.{nat_tests}
use Rattle.std.proofs.Common.{◌≡◌, ℕ, zero, suc, inl, inr, ◌+◌, ◌-◌, ◌<◌, ◌≤◌, ◌∙◌, List, length, sym, ap, arith, ℤ}
use Rattle.std.specs.Prelude.{None}
use Rattle.std.specs.List.{flat_map, AllByRecursion}
use Rattle.std.proofs.lemmas.Bool.{cases_eq, cases_lt}
use Rattle.std.proofs.lemmas.List.{get_or_past}
use Rattle.kh_types.specs.Code.{arc_count}
use Rattle.kh_types.specs.Classes.{Respects, AreBelow, IsNamed}
use Rattle.kh_types.specs.Components.{passes_of, components_of, component_of, next}
use Rattle.kh_types.proofs.ClassLemmas.{classes-together, classes-finest}
use Rattle.kh_types.proofs.JoinedClasses.{IsNamed-classes_of}
use Rattle.kh_types.proofs.Lists.{AllByRecursion-weaker}
use Rattle.code_passes.specs.Labels.{bad_label}
use Rattle.code_passes.specs.Passes.{Pass, all_passes, all_labels, crossings_of}
use Rattle.code_passes.proofs.ComponentPasses.{after_arc, after_arc-inside, start_from, start-le, start-past, IsStart-arc, IsPassOf, IsPassOf-all}
use Rattle.code_passes.proofs.CrossingPasses.{entering, enters-entering, entering-holds}
use Rattle.code_passes.proofs.TextCrossings.{arc_count-crossings, pairs-of_passes, passes-of_pairs}

-- the first arc of the component of an arc
abbrev pub start_of : List (List ℤ) → ℕ → ℕ
start_of groups arc = start_from 1 groups arc

module _ (groups : List (List ℤ)) (signs : List ℤ) (none : bad_label (all_labels groups) ≡ None) where
  abbrev arcs : ℕ
  arcs = length (all_labels groups)

  abbrev pairs : List (ℕ × ℕ)
  pairs = flat_map passes_of (crossings_of groups signs)

  -- the passes join arcs of one component
  pub pairs-below : AreBelow (arc_count (crossings_of groups signs) + 1) pairs
  pairs-below =
      let size = arc_count-crossings groups signs none in
      pairs-of_passes (λ x y. (x < arc_count (crossings_of groups signs) + 1) × (y < arc_count (crossings_of groups signs) + 1))
      (λ x y both. (both.1, both.0)) groups signs none
      (AllByRecursion-weaker (IsPassOf 1 groups)
      (λ (pass : Pass).
      (pass.enters < arc_count (crossings_of groups signs) + 1) × (pass.leaves < arc_count (crossings_of groups signs) + 1))
      (all_passes 1 groups)
      (λ pass is. (omega (arith, is.below, size), omega (arith, is.leaves_below, size)))
      (IsPassOf-all 1 groups (omega arith)))

  start-respects : Respects (start_of groups) pairs
  start-respects =
      pairs-of_passes (λ x y. start_of groups x ≡ start_of groups y) (λ x y same. sym same) groups signs none
      (AllByRecursion-weaker (IsPassOf 1 groups) (λ (pass : Pass). start_of groups pass.enters ≡ start_of groups pass.leaves) (all_passes 1 groups)
      (λ pass is. sym is.start) (IsPassOf-all 1 groups (omega arith)))

  abbrev component : ℕ → ℕ
  component arc = component_of (components_of (crossings_of groups signs)) arc

  named : IsNamed (arc_count (crossings_of groups signs) + 1) (components_of (crossings_of groups signs))
  named = IsNamed-classes_of (arc_count (crossings_of groups signs) + 1) pairs pairs-below

  -- the code joins what each pass joins
  passes-together : AllByRecursion (λ (pass : Pass). component pass.enters ≡ component pass.leaves) (all_passes 1 groups)
  passes-together =
      passes-of_pairs (λ x y. component x ≡ component y) (λ x y same. sym same) groups signs none
      (classes-together (arc_count (crossings_of groups signs) + 1) pairs pairs-below)

  -- an arc and the arc before it in the same component
  one-back : (arc : ℕ) → 1 ≤ arc → arc + 1 ≤ arcs → start_of groups (arc + 1) ≡ start_of groups arc → component (arc + 1) ≡ component arc
  one-back arc from within same =
      let pass = entering groups arc in
      let enters : pass.enters ≡ arc = enters-entering groups arc from (omega (arith, within)) in
      let is = entering-holds groups (IsPassOf 1 groups) arc from (omega (arith, within)) (IsPassOf-all 1 groups (omega arith)) in
      let together = entering-holds groups (λ (p : Pass). component p.enters ≡ component p.leaves) arc from (omega (arith, within))
      passes-together in
      let leaves : pass.leaves ≡ arc + 1 = is.next
      ∙ ap (λ x. after_arc x (start_of groups x) (start_of groups (x + 1))) enters
      ∙ after_arc-inside arc (start_of groups arc) (start_of groups (arc + 1)) same in
      ap component (sym leaves) ∙ sym together ∙ ap component enters

  -- so all arcs of a component that the text lists are in one component of the code
  back-to_start : (steps first : ℕ) → 1 ≤ first → first + steps ≤ arcs → start_of groups (first + steps) ≡ first
      → component (first + steps) ≡ component first
  back-to_start zero first from within is = let e : first + zero ≡ first = omega arith in ap component e
  back-to_start (suc steps) first from within is =
      let e : first + suc steps ≡ first + steps + 1 = omega arith in
      let start = IsStart-arc 1 groups (first + suc steps) (omega arith) (omega (arith, within)) in
      let before = start.before (first + steps) (omega (arith, is)) (omega arith) ∙ is in
      ap component e
      ∙ one-back (first + steps) (omega (arith, from)) (omega (arith, within)) (ap (start_of groups) (sym e) ∙ is ∙ sym before)
      ∙ back-to_start steps first from (omega (arith, within)) before

  component-start : (arc : ℕ) → 1 ≤ arc → arc ≤ arcs → component arc ≡ component (start_of groups arc)
  component-start arc from within =
      let first = start_of groups arc in
      let start = IsStart-arc 1 groups arc from (omega (arith, within)) in
      let e : arc ≡ first + (arc - first) = omega (arith, start-le 1 groups arc) in
      ap component e
      ∙ back-to_start (arc - first) first start.from (omega (arith, within, start-le 1 groups arc)) (ap (start_of groups) (sym e))

  -- the first arc of a component is the least of its class
  component-first : (first : ℕ) → 1 ≤ first → first ≤ arcs → start_of groups first ≡ first → component first ≡ first
  component-first first from within own =
      grind (arith, nat_tests, arc_count-crossings, named, classes-finest, start-respects, pairs-below, start-le)

  -- so the component of an arc is the one that the text lists
  pub component-is : (arc : ℕ) → component_of (components_of (crossings_of groups signs)) arc ≡ start_of groups arc
  component-is arc =
      let size = arc_count-crossings groups signs none in
      elim (cases_lt arcs arc) [
        | inl past ↦
            get_or_past (components_of (crossings_of groups signs)) arc 0 (omega (arith, past, size, named.size))
            ∙ sym (start-past 1 groups arc (omega (arith, past)))
        | inr within ↦ elim (cases_eq arc 0) [
          | inl none_at_zero ↦
              let least = named.least arc (omega (arith, within, size)) in
              omega (arith, none_at_zero, least, start-le 1 groups arc)
          | inr positive ↦
              let start = IsStart-arc 1 groups arc (omega (arith, positive)) (omega (arith, within)) in
              component-start arc (omega (arith, positive)) within
              ∙ component-first (start_of groups arc) start.from (omega (arith, within, start-le 1 groups arc)) start.own
        ]
      ]

  -- the arc that follows an arc
  pub next-is : (arc : ℕ) → next (crossings_of groups signs) arc ≡ after_arc arc (start_of groups arc) (start_of groups (arc + 1))
  next-is arc = grind (arith, nat_tests, after_arc, component-is)

  -- a pass leaves on the arc that follows the one on which it enters
  pub next-passes : AllByRecursion (λ (pass : Pass). pass.leaves ≡ next (crossings_of groups signs) pass.enters) (all_passes 1 groups)
  next-passes = grind (arith, nat_tests, AllByRecursion-weaker, IsPassOf, next-is, IsPassOf-all)
