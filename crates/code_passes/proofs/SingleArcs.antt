-- Where no component has one label alone, no arc is its own next.
use Rattle.std.proofs.Common.{◌≡◌, ◌≢◌, ℕ, inl, inr, ◌+◌, ◌<◌, ◌≤◌, ◌∙◌, List, [], ◌∷◌, length, sym, arith, ℤ}
use Rattle.std.specs.Prelude.{None}
use Rattle.std.specs.List.{AllByRecursion}
use Rattle.std.proofs.lemmas.Bool.{cases_lt}
use Rattle.std.proofs.lemmas.Bool.Decides.{nat_tests}
use Rattle.kh_types.specs.Directions.{HasNoSingleArcs}
use Rattle.code_passes.specs.Labels.{bad_label}
use Rattle.code_passes.proofs.ComponentPasses.{length-labels_more, start_from, start-here, start-later, after_arc}
use Rattle.code_passes.proofs.TextCrossings.{arc_count-crossings}
use Rattle.code_passes.proofs.TextComponents.{start_of, next-is}
use Rattle.code_passes.specs.Passes.{all_labels, crossings_of}

-- the arc behind the first arc of a component is in the component
start-second : (first : ℕ) (groups : List (List ℤ)) (arc : ℕ) → AllByRecursion (λ (labels : List ℤ). length labels ≢ 1) groups
    → first ≤ arc → arc < first + length (all_labels groups) → start_from first groups arc ≡ arc
    → start_from first groups (arc + 1) ≡ arc
start-second first [] arc many from below own = absurd (omega (arith, from, below))
start-second first (labels ∷ more) arc many from below own = elim (cases_lt arc (first + length labels)) [
  | inl here ↦
      let is : arc ≡ first = sym own ∙ start-here first labels more arc from here in
      start-here first labels more (arc + 1) (omega (arith, from)) (within (length labels) arc first many.0 is here) ∙ sym is
  | inr past ↦
      start-later first labels more (arc + 1) (omega (arith, past))
      ∙ start-second (first + length labels) more arc many.1 past (omega (arith, below, length-labels_more labels more))
      (sym (start-later first labels more arc past) ∙ own)
]
  where
    within : (size arc first : ℕ) → size ≢ 1 → arc ≡ first → arc < first + size → arc + 1 < first + size
    within size arc first many is here = grind arith

pub HasNoSingleArcs-labels : (groups : List (List ℤ)) (signs : List ℤ) → bad_label (all_labels groups) ≡ None
    → AllByRecursion (λ (labels : List ℤ). length labels ≢ 1) groups → HasNoSingleArcs (crossings_of groups signs)
HasNoSingleArcs-labels groups signs none many arc is alone =
    let own = not_own arc (start_of groups arc) (start_of groups (arc + 1)) (sym (next-is groups signs none arc) ∙ alone) in
    own.1
    (start-second 1 groups arc many is.positive (omega (arith, is.within, arc_count-crossings groups signs none)) own.0 ∙ sym own.0)
  where
    not_own : (arc start next : ℕ) → after_arc arc start next ≡ arc → (start ≡ arc) × (next ≢ start)
    not_own arc start next same = grind (arith, nat_tests)
