-- The passes at the crossings are all passes of the components, each once.
use Rattle.std.proofs.Common.{◌≡◌, ℕ, zero, suc, ◌+◌, ◌<◌, ◌≤◌, ◌∙◌, List, length, get_or, refl, sym, subst, ap, arith, Bool, ℤ, nat_abs, pos, negsuc}
use Rattle.std.specs.Prelude.{nat_eq, None}
use Rattle.std.specs.List.{sum_by, count_by, range_with_len, AllByRecursion}
use Rattle.std.specs.Ordering.{int_eq}
use Rattle.std.proofs.lemmas.Bool.{eqb-true}
use Rattle.std.proofs.lemmas.Bool.Decides.{Decides-int_eq}
use Rattle.std.proofs.lemmas.List.Elements.{All-from_get_or, All-from_recursion, All-get_or, recursion_from_All}
use Rattle.code_passes.specs.Labels.{bad_label}
use Rattle.code_passes.specs.Passes.{Pass, all_passes, no_pass, pass_of, all_labels, crossings_in}
use Rattle.code_passes.proofs.Sums.{value_if}
use Rattle.kh_types.proofs.ListSums.{sum_by-range_alike, sum_by-plus}
use Rattle.code_passes.proofs.LabelCounts.{Names, over_at, under_at, over_at-is, under_at-is, at_crossing, sum-by_crossings, stands, labels-name, stands-under, stands-over}
use Rattle.code_passes.proofs.ComponentPasses.{All-labels}
use Rattle.code_passes.proofs.ArcCounts.{sum_by-labels, sum-enters}
use Rattle.code_passes.proofs.Found.{found, found-passes, found-holds, sum-found, found-only}
use Rattle.kh_types.proofs.Integers.{int_eq-same}

-- whether a pass has a label
abbrev has_label : ℤ → Pass → Bool
has_label label pass = int_eq pass.label label

-- the passes at the crossing at a place
abbrev pub under_pass : List (List ℤ) → ℕ → Pass
under_pass groups place = pass_of (all_passes 1 groups) (under_at place)

abbrev pub over_pass : List (List ℤ) → ℕ → Pass
over_pass groups place = pass_of (all_passes 1 groups) (over_at place)

-- the labels of the passes stand as often as those of the components
count-has_label : (label : ℤ) (groups : List (List ℤ)) → count_by (has_label label) (all_passes 1 groups) ≡ stands label (all_labels groups)
count-has_label label groups = sum_by-labels (λ other. value_if 1 (int_eq other label)) 1 groups

module _ (groups : List (List ℤ)) (none : bad_label (all_labels groups) ≡ None) where
  count-under : (place : ℕ) → place < crossings_in groups → count_by (has_label (under_at place)) (all_passes 1 groups) ≡ 1
  count-under place below = count-has_label (under_at place) groups ∙ stands-under (all_labels groups) none place below

  count-over : (place : ℕ) → place < crossings_in groups → count_by (has_label (over_at place)) (all_passes 1 groups) ≡ 1
  count-over place below = count-has_label (over_at place) groups ∙ stands-over (all_labels groups) none place below

  -- what all passes have, those at a crossing have
  pub under-holds : (P : Pass → Type 0) (place : ℕ) → place < crossings_in groups → AllByRecursion P (all_passes 1 groups)
      → P (under_pass groups place)
  under-holds P place below all =
      found-holds (has_label (under_at place)) no_pass P (all_passes 1 groups) all (omega (arith, count-under place below))

  pub over-holds : (P : Pass → Type 0) (place : ℕ) → place < crossings_in groups → AllByRecursion P (all_passes 1 groups)
      → P (over_pass groups place)
  over-holds P place below all =
      found-holds (has_label (over_at place)) no_pass P (all_passes 1 groups) all (omega (arith, count-over place below))

  pub label-under : (place : ℕ) → place < crossings_in groups → (under_pass groups place).label ≡ under_at place
  label-under place below =
      (Decides-int_eq (under_pass groups place).label (under_at place)).0
      (found-passes (has_label (under_at place)) no_pass (all_passes 1 groups) (omega (arith, count-under place below)))

  pub label-over : (place : ℕ) → place < crossings_in groups → (over_pass groups place).label ≡ over_at place
  label-over place below =
      (Decides-int_eq (over_pass groups place).label (over_at place)).0
      (found-passes (has_label (over_at place)) no_pass (all_passes 1 groups) (omega (arith, count-over place below)))

  -- a sum over the passes is one over the two passes of each crossing
  pub sum-crossings : (f : Pass → ℕ)
      → sum_by (λ place. f (under_pass groups place) + f (over_pass groups place)) (range_with_len 0 (crossings_in groups))
      ≡ sum_by f (all_passes 1 groups)
  sum-crossings f =
      sum_by-range_alike (λ place. f (under_pass groups place) + f (over_pass groups place))
      (λ place. sum_by (λ pass. at_crossing (f pass) pass.label place) (all_passes 1 groups)) 0 (crossings_in groups)
      (λ place from below.
      let under = sum-found (has_label (under_at place)) no_pass f (all_passes 1 groups) (count-under place (omega (arith, below))) in
      let over = sum-found (has_label (over_at place)) no_pass f (all_passes 1 groups) (count-over place (omega (arith, below))) in
      omega (
        arith,
        under,
        over,
        sum_by-plus (λ pass. value_if (f pass) (has_label (under_at place) pass))
            (λ pass. value_if (f pass) (has_label (over_at place) pass)) (all_passes 1 groups),
      ))
      ∙ sum-by_crossings (λ (pass : Pass). pass.label) f (crossings_in groups) (all_passes 1 groups)
      (All-labels (Names (crossings_in groups)) 1 groups (labels-name (all_labels groups) none))

  -- what the passes at each crossing have, all passes have
  pub all-passes_hold : (P : Pass → Type 0)
      → ((place : ℕ) → place < crossings_in groups → P (under_pass groups place) × P (over_pass groups place))
      → AllByRecursion P (all_passes 1 groups)
  all-passes_hold P each =
      let passes = all_passes 1 groups in
      let names = All-from_recursion (λ (pass : Pass). Names (crossings_in groups) pass.label) passes
      (All-labels (Names (crossings_in groups)) 1 groups (labels-name (all_labels groups) none)) in
      recursion_from_All P passes
      (All-from_get_or P passes no_pass
      (λ at below.
      by_label at below (get_or passes at no_pass).label refl
      (All-get_or (λ (pass : Pass). Names (crossings_in groups) pass.label) passes at no_pass below names)))
    where
      by_label : (at : ℕ) → at < length (all_passes 1 groups) → (label : ℤ) → (get_or (all_passes 1 groups) at no_pass).label ≡ label
          → Names (crossings_in groups) (get_or (all_passes 1 groups) at no_pass).label → P (get_or (all_passes 1 groups) at no_pass)
      by_label at below (pos zero) is names = absurd (omega (arith, names.0, ap nat_abs is))
      by_label at below (pos (suc place)) is names =
          let passes = all_passes 1 groups in
          let within : place < crossings_in groups = omega (arith, names.1, ap nat_abs is) in
          subst P
          (found-only (has_label (over_at place)) no_pass passes at no_pass (count-over place within) below
          (int_eq-same (get_or passes at no_pass).label (over_at place) (is ∙ sym (over_at-is place))))
          (each place within).1
      by_label at below (negsuc place) is names =
          let passes = all_passes 1 groups in
          let within : place < crossings_in groups = omega (arith, names.1, ap nat_abs is) in
          subst P
          (found-only (has_label (under_at place)) no_pass passes at no_pass (count-under place within) below
          (int_eq-same (get_or passes at no_pass).label (under_at place) (is ∙ sym (under_at-is place))))
          (each place within).0

-- the pass that enters on an arc
abbrev pub entering : List (List ℤ) → ℕ → Pass
entering groups arc = found (λ pass. nat_eq pass.enters arc) (all_passes 1 groups) no_pass

pub enters-entering : (groups : List (List ℤ)) (arc : ℕ) → 1 ≤ arc → arc ≤ length (all_labels groups)
    → (entering groups arc).enters ≡ arc
enters-entering groups arc from within =
    eqb-true (entering groups arc).enters arc
    (found-passes (λ (pass : Pass). nat_eq pass.enters arc) no_pass (all_passes 1 groups)
    (omega (arith, sum-enters 1 arc groups from (omega (arith, within)))))

pub entering-holds : (groups : List (List ℤ)) (P : Pass → Type 0) (arc : ℕ) → 1 ≤ arc → arc ≤ length (all_labels groups)
    → AllByRecursion P (all_passes 1 groups) → P (entering groups arc)
entering-holds groups P arc from within all =
    found-holds (λ (pass : Pass). nat_eq pass.enters arc) no_pass P (all_passes 1 groups) all
    (omega (arith, sum-enters 1 arc groups from (omega (arith, within))))
