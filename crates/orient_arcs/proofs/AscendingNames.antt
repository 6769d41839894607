-- Names that ascend with the arcs of a code keep the order of its components.
use Rattle.std.proofs.lemmas.Bool.Decides.{nat_tests}
use Rattle.std.proofs.Common.{◌≡◌, ℕ, inl, inr, ◌+◌, ◌<◌, ◌≤◌, List, ap, arith}
use Rattle.std.proofs.lemmas.Bool.{cases_lt}
use Rattle.kh_types.specs.Code.{IsArc}
use Rattle.kh_types.specs.Accepted.{IsDirected}
use Rattle.kh_types.proofs.NextArcs.{component, component-inside, HasPlace-directed}
use Rattle.code_passes.proofs.CutArcs.{IsFirst, IsFirst-next, size, size-positive}
use Rattle.orient_arcs.specs.OtherNames.{KeepsComponents}

-- arcs from the first of a component on are in it, or in a component behind it
pub component-from : (crossings : List (List ℕ)) → IsDirected crossings → (first arc : ℕ) → IsFirst crossings first → IsArc crossings arc
    → first ≤ arc → first ≤ component crossings arc
component-from crossings directed first arc is arc_is from =
    grind (arith, nat_tests, cases_lt, component, HasPlace-directed, component-inside)

pub component-behind : (crossings : List (List ℕ)) → IsDirected crossings → (first arc : ℕ) → IsFirst crossings first → IsArc crossings arc
    → first + size crossings first ≤ arc → first < component crossings arc
component-behind crossings directed first arc is arc_is behind = grind (arith, nat_tests, IsFirst-next, component-from, size, size-positive)

-- names that ascend keep all of this
pub KeepsComponents-ascending : (f : ℕ → ℕ) (crossings : List (List ℕ)) → IsDirected crossings → ((x y : ℕ) → x < y → f x < f y)
    → KeepsComponents f crossings
KeepsComponents-ascending f crossings directed ascends = record {
  apart = λ x y x_is y_is same. elim (cases_lt x y) [
    | inl less ↦ let up = ascends x y less in absurd (omega (arith, up, same))
    | inr not_less ↦ elim (cases_lt y x) [
      | inl less ↦ let up = ascends y x less in absurd (omega (arith, up, same))
      | inr neither ↦ omega (arith, not_less, neither)
    ]
  ];
  across = λ x y x_is y_is behind. ascends x y
      (elim (cases_lt x y) [
        | inl less ↦ less
        | inr not_less ↦
            let x_place = HasPlace-directed crossings directed x x_is in
            let y_place = HasPlace-directed crossings directed y y_is in
            let inside = component-inside crossings directed x y x_is (omega (arith, behind, y_place.from)) (omega (arith, not_less, x_place.below)) in
            absurd (omega (arith, inside, behind))
      ]);
  within = λ x is. inl (elim (cases_lt (component crossings x) x) [
    | inl less ↦ let up = ascends (component crossings x) x less in omega (arith, up)
    | inr not_less ↦
        let place = HasPlace-directed crossings directed x is in
        let same : component crossings x ≡ x = omega (arith, not_less, place.from) in omega (arith, ap f same)
  ]);
}
