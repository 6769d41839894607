-- Components are intervals: each has the arcs from its first one to its end.
use Rattle.std.proofs.lemmas.Bool.Decides.{nat_tests}
use Rattle.std.proofs.Common.{◌≡◌, ℕ, suc, inl, inr, ◌⊎◌, ◌+◌, ◌-◌, ◌<◌, ◌≤◌, ◌∙◌, List, [], ◌∷◌, length, get_or, refl, sym, ap, arith, Bool, true, ℤ}
use Rattle.std.specs.Prelude.{None, nat_eq}
use Rattle.std.specs.List.{count_by}
use Rattle.std.proofs.lemmas.Bool.{cases_Bool, cases_lt, eqb-true}
use Rattle.std.proofs.lemmas.List.Sums.{sum_by-cons}
use Rattle.kh_types.specs.Components.{components_of, component_of, arcs_in}
use Rattle.kh_types.specs.Accepted.{IsInterval}
use Rattle.code_passes.specs.Labels.{bad_label}
use Rattle.code_passes.proofs.Sums.{value_if}
use Rattle.code_passes.proofs.ComponentPasses.{length-labels_more, start_from, start-here, start-later, start-from_first, start-le, IsStart-arc}
use Rattle.code_passes.proofs.TextComponents.{start_of, component-is}
use Rattle.code_passes.specs.Passes.{all_labels, crossings_of}

-- the arcs of the component of an arc end before this number
pub record HasEnd (first : ℕ) (groups : List (List ℤ)) (arc end : ℕ) : Type 0 where
  pub inside : (other : ℕ) → start_from first groups arc ≤ other → other < end
      → start_from first groups other ≡ start_from first groups arc
  pub only : (other : ℕ) → start_from first groups other ≡ start_from first groups arc → other < end

start-small : (first : ℕ) (labels : List ℤ) (more : List (List ℤ)) (arc : ℕ) → arc < first + length labels
    → start_from first (labels ∷ more) arc < first + length labels
start-small first labels more arc below = grind (arith, nat_tests)

pub HasEnd-arc : (first : ℕ) (groups : List (List ℤ)) (arc : ℕ) → 1 ≤ first → first ≤ arc
    → arc < first + length (all_labels groups) → (end : ℕ) × HasEnd first groups arc end
HasEnd-arc first [] arc positive from below = absurd (omega (arith, from, below))
HasEnd-arc first (labels ∷ more) arc positive from below = elim (cases_lt arc (first + length labels)) [
  | inl here ↦
      let is = start-here first labels more arc from here in
      let only : (other : ℕ) → start_from first (labels ∷ more) other ≡ start_from first (labels ∷ more) arc
      → other < first + length labels =
      λ other same. elim (cases_lt other (first + length labels)) [
        | inl within ↦ within
        | inr past ↦
            let later = start-later first labels more other past in
            absurd
            (apart first (start_from (first + length labels) more other) (first + length labels) positive (omega (arith, from, here))
            (sym later ∙ same ∙ is) (start-from_first (first + length labels) more other past))
      ] in (
        first + length labels,
        record {
          inside = λ other after within.
              start-here first labels more other (omega (arith, after, is)) within ∙ sym is;
          only = only;
        },
      )
  | inr past ↦
      let is = start-later first labels more arc past in
      let within : arc < first + length labels + length (all_labels more) = omega (arith, below, length-labels_more labels more) in
      let start = IsStart-arc (first + length labels) more arc past within in
      let later = HasEnd-arc (first + length labels) more arc (omega (arith, positive)) past within in
      let only : (other : ℕ) → start_from first (labels ∷ more) other ≡ start_from first (labels ∷ more) arc → other < later.0 =
      λ other same. elim (cases_lt other (first + length labels)) [
        | inl before ↦ absurd (omega (arith, same, is, start.from, start-small first labels more other before))
        | inr behind ↦ later.1.only other (sym (start-later first labels more other behind) ∙ same ∙ is)
      ] in (
        later.0,
        record {
          inside = λ other after before.
              start-later first labels more other (omega (arith, after, is, start.from))
              ∙ later.1.inside other (omega (arith, after, is)) before ∙ sym is;
          only = only;
        },
      )
]
  where
    apart : (x start past : ℕ) → 1 ≤ x → x < past → start ≡ x → (start ≡ 0) ⊎ (past ≤ start) → ⊥
    apart x start past positive after same has6 = omega arith

-- where the numbers that pass stand at the places from a first one to an end, they are at most as many as these places
count-places : (p : ℕ → Bool) (xs : List ℕ) (offset first end : ℕ)
    → ((at : ℕ) → at < length xs → p (get_or xs at 0) ≡ true → (first ≤ offset + at) × (offset + at < end))
    → count_by p xs ≤ end - first
count-places p [] offset first end each = omega arith
count-places p (x ∷ xs) offset first end each =
    let cut = sum_by-cons (λ y. value_if 1 (p y)) x xs in
    elim (cases_Bool (p x)) [
      | inl passes ↦
          let here = each 0 (omega arith) passes in
          let one : value_if 1 (p x) ≡ 1 = ap (value_if 1) passes in
          let rest = count-places p xs (offset + 1) (offset + 1) end
          (λ at below at_passes. (omega arith, omega (arith, (each (suc at) (omega (arith, below)) at_passes).1))) in
          omega (arith, cut, one, rest, here.0, here.1)
      | inr fails ↦
          let zero_here : value_if 1 (p x) ≡ 0 = ap (value_if 1) fails in
          let rest = count-places p xs (offset + 1) first end
          (λ at below at_passes.
          let there = each (suc at) (omega (arith, below)) at_passes in (omega (arith, there.0), omega (arith, there.1))) in
          omega (arith, cut, zero_here, rest)
    ]

-- so each component of the code is an interval
pub IsInterval-component : (groups : List (List ℤ)) (signs : List ℤ) → bad_label (all_labels groups) ≡ None → (first : ℕ) → 1 ≤ first
    → first ≤ length (all_labels groups) → start_of groups first ≡ first → IsInterval (components_of (crossings_of groups signs)) first
IsInterval-component groups signs none first positive within own arc from below =
    let components = components_of (crossings_of groups signs) in
    let end = HasEnd-arc 1 groups first (omega arith) positive (omega (arith, within)) in
    let count : arcs_in components first ≤ end.0 - first =
    count-places (nat_eq first) components 0 first end.0
    (λ at at_below passes.
    let same : start_of groups at ≡ first =
    sym (component-is groups signs none at) ∙ sym (eqb-true first (component_of components at) passes) in
    let before = end.1.only at (same ∙ sym own) in
    (omega (arith, same, start-le 1 groups at), omega (arith, before))) in
    component-is groups signs none arc
    ∙ end.1.inside arc (omega (arith, from, own)) (omega (arith, count, from, below, end.1.only first refl)) ∙ own
