-- Each arc of some components is entered by one pass and left by one pass, and the labels of the passes are those of the components.
--
-- A component of n labels has the n numbers from its first on as arcs, and its passes enter on them in turn and leave on the next, the last
-- on the first. So within one component each arc is entered once and left once, and no other number is. Components follow one another
-- without gaps: summed over all of them, each arc up to the last counts 1.
use Rattle.std.proofs.Common.{◌≡◌, ℕ, inl, inr, ◌⊎◌, ◌+◌, ◌-◌, ◌<◌, ◌≤◌, ◌∙◌, List, [], ◌∷◌, length, map, refl, sym, ap, arith, ℤ, pos}
use Rattle.std.specs.Prelude.{nat_eq, if◌then◌else◌}
use Rattle.std.specs.List.{sum_by, range_with_len}
use Rattle.std.proofs.lemmas.Bool.{cases_eq, cases_lt}
use Rattle.std.proofs.lemmas.Bool.Decides.{nat_tests}
use Rattle.std.proofs.lemmas.List.{ext_get_or}
use Rattle.std.proofs.lemmas.List.FromFn.{length-map-range_with_len, get_or-map-range_with_len}
use Rattle.std.proofs.lemmas.List.Sums.{sum_by-append}
use Rattle.code_passes.specs.Labels.{listed_number}
use Rattle.code_passes.specs.Passes.{Pass, turned_labels, pass_at, passes_from, all_passes, all_labels}
use Rattle.code_passes.proofs.Sums.{value_if, only_at, sum-only, sum_by-none}
use Rattle.kh_types.proofs.ListSums.{sum_by-range_alike, sum_by-map}
use Rattle.code_passes.proofs.ComponentPasses.{length-turned_labels, sum_by-turned_labels, length-labels_more}

-- a list is the list of its numbers
map-listed_number : (numbers : List ℤ) → map (listed_number numbers) (range_with_len 0 (length numbers)) ≡ numbers
map-listed_number numbers =
    let size = length-map-range_with_len (listed_number numbers) 0 (length numbers) in
    ext_get_or (pos 0) (map (listed_number numbers) (range_with_len 0 (length numbers))) numbers size
    (λ at below.
    get_or-map-range_with_len (listed_number numbers) 0 (length numbers) at at (pos 0) (omega (arith, below, size)) (omega arith))

-- a sum over the labels of the passes
pub sum_by-labels : (f : ℤ → ℕ) (first : ℕ) (groups : List (List ℤ))
    → sum_by (λ pass. f pass.label) (all_passes first groups) ≡ sum_by f (all_labels groups)
sum_by-labels f first [] = refl
sum_by-labels f first (labels ∷ more) =
    let here : sum_by (λ pass. f pass.label) (passes_from first (turned_labels labels)) ≡ sum_by f labels =
    sum_by-map (λ pass. f pass.label) (pass_at first (turned_labels labels)) (range_with_len 0 (length (turned_labels labels)))
    ∙ sym (sum_by-map f (listed_number (turned_labels labels)) (range_with_len 0 (length (turned_labels labels))))
    ∙ ap (λ numbers. sum_by f numbers) (map-listed_number (turned_labels labels)) ∙ sum_by-turned_labels f labels in
    omega (
      arith,
      here,
      sum_by-labels f (first + length labels) more,
      sum_by-append (λ pass. f pass.label) (passes_from first (turned_labels labels)) (all_passes (first + length labels) more),
      sum_by-append f labels (all_labels more),
    )

-- whether a pass enters, or leaves, on an arc, as 1 or 0
abbrev pub enters_on : ℕ → Pass → ℕ
enters_on arc pass = value_if 1 (nat_eq pass.enters arc)

abbrev pub leaves_on : ℕ → Pass → ℕ
leaves_on arc pass = value_if 1 (nat_eq pass.leaves arc)

-- the passes of one component

sum-one : (f : ℕ → ℕ) (n k : ℕ) → k < n → ((at : ℕ) → at < n → f at ≡ only_at k 1 at) → sum_by f (range_with_len 0 n) ≡ 1
sum-one f n k below alike =
    sum_by-range_alike f (only_at k 1) 0 n (λ at from at_below. alike at (omega (arith, at_below)))
    ∙ sum-only k 1 0 n (omega arith) (omega (arith, below))

sum-zero : (f : ℕ → ℕ) (n : ℕ) → ((at : ℕ) → at < n → f at ≡ 0) → sum_by f (range_with_len 0 n) ≡ 0
sum-zero f n none =
    sum_by-range_alike f (λ at. 0) 0 n (λ at from at_below. none at (omega (arith, at_below))) ∙ sum_by-none (range_with_len 0 n)

enters-one : (first arc at : ℕ) → first ≤ arc → value_if 1 (nat_eq (first + at) arc) ≡ value_if 1 (nat_eq at (arc - first))
enters-one first arc at from = grind (arith, nat_tests)

enters-none : (first arc at n : ℕ) → at < n → (arc < first) ⊎ (first + n ≤ arc) → value_if 1 (nat_eq (first + at) arc) ≡ 0
enters-none first arc at n below outside = grind (arith, nat_tests)

leaves-first : (first at n : ℕ) → at < n
    → value_if 1 (nat_eq (if nat_eq (at + 1) n then first else first + at + 1) first) ≡ value_if 1 (nat_eq at (n - 1))
leaves-first first at n below = grind (arith, nat_tests)

leaves-one : (first arc at n : ℕ) → at < n → first < arc → arc < first + n
    → value_if 1 (nat_eq (if nat_eq (at + 1) n then first else first + at + 1) arc) ≡ value_if 1 (nat_eq at (arc - first - 1))
leaves-one first arc at n below after within = grind (arith, nat_tests)

leaves-none : (first arc at n : ℕ) → at < n → (arc < first) ⊎ (first + n ≤ arc)
    → value_if 1 (nat_eq (if nat_eq (at + 1) n then first else first + at + 1) arc) ≡ 0
leaves-none first arc at n below outside = grind (arith, nat_tests)

enters-here : (first arc : ℕ) (labels : List ℤ) → first ≤ arc → arc < first + length labels
    → sum_by (enters_on arc) (passes_from first labels) ≡ 1
enters-here first arc labels from below =
    sum_by-map (enters_on arc) (pass_at first labels) (range_with_len 0 (length labels))
    ∙ sum-one (λ at. enters_on arc (pass_at first labels at)) (length labels) (arc - first) (omega (arith, from, below))
    (λ at at_below. enters-one first arc at from)

enters-outside : (first arc : ℕ) (labels : List ℤ) → (arc < first) ⊎ (first + length labels ≤ arc)
    → sum_by (enters_on arc) (passes_from first labels) ≡ 0
enters-outside first arc labels outside = grind (arith, nat_tests, sum_by-map, sum-zero, enters-none)

leaves-here : (first arc : ℕ) (labels : List ℤ) → first ≤ arc → arc < first + length labels
    → sum_by (leaves_on arc) (passes_from first labels) ≡ 1
leaves-here first arc labels from below =
    let size = length labels in
    sum_by-map (leaves_on arc) (pass_at first labels) (range_with_len 0 size)
    ∙ elim (cases_eq first arc) [
      | inl same ↦
          ap (λ x. sum_by (λ at. leaves_on x (pass_at first labels at)) (range_with_len 0 size)) (sym same)
          ∙ sum-one (λ at. leaves_on first (pass_at first labels at)) size (size - 1) (omega (arith, from, below))
          (λ at at_below. leaves-first first at size at_below)
      | inr other ↦
          sum-one (λ at. leaves_on arc (pass_at first labels at)) size (arc - first - 1) (omega (arith, from, below))
          (λ at at_below. leaves-one first arc at size at_below (omega (arith, from, other)) below)
    ]

leaves-outside : (first arc : ℕ) (labels : List ℤ) → (arc < first) ⊎ (first + length labels ≤ arc)
    → sum_by (leaves_on arc) (passes_from first labels) ≡ 0
leaves-outside first arc labels outside = grind (arith, nat_tests, sum_by-map, sum-zero, leaves-none)

-- what is 1 on the arcs of each component, and 0 on others, is 1 on the arcs of all, and 0 before them
module _ (f : ℕ → Pass → ℕ)
    (here : (first arc : ℕ) (labels : List ℤ) → first ≤ arc → arc < first + length labels → sum_by (f arc) (passes_from first labels) ≡ 1)
    (outside : (first arc : ℕ) (labels : List ℤ) → (arc < first) ⊎ (first + length labels ≤ arc)
    → sum_by (f arc) (passes_from first labels) ≡ 0) where
  sum-before : (first arc : ℕ) (groups : List (List ℤ)) → arc < first → sum_by (f arc) (all_passes first groups) ≡ 0
  sum-before first arc [] before = refl
  sum-before first arc (labels ∷ more) before =
      grind (arith, nat_tests, sum_by-append, sum-before (first + length labels) arc more (omega (arith, before)))

  sum-of_all : (first arc : ℕ) (groups : List (List ℤ)) → first ≤ arc → arc < first + length (all_labels groups)
      → sum_by (f arc) (all_passes first groups) ≡ 1
  sum-of_all first arc [] from below = absurd (omega (arith, from, below))
  sum-of_all first arc (labels ∷ more) from below =
      let cut = sum_by-append (f arc) (passes_from first (turned_labels labels)) (all_passes (first + length labels) more) in
      let size = length-turned_labels labels in
      elim (cases_lt arc (first + length labels)) [
        | inl within ↦
            omega (
              arith,
              cut,
              here first arc (turned_labels labels) from (omega (arith, within, size)),
              sum-before (first + length labels) arc more within,
            )
        | inr past ↦
            omega (
              arith,
              cut,
              outside first arc (turned_labels labels) (inr (omega (arith, past, size))),
              sum-of_all (first + length labels) arc more past (omega (arith, below, length-labels_more labels more)),
            )
      ]

-- each arc is entered once, and left once
pub sum-enters : (first arc : ℕ) (groups : List (List ℤ)) → first ≤ arc → arc < first + length (all_labels groups)
    → sum_by (enters_on arc) (all_passes first groups) ≡ 1
sum-enters first arc groups from below = sum-of_all enters_on enters-here enters-outside first arc groups from below

pub sum-leaves : (first arc : ℕ) (groups : List (List ℤ)) → first ≤ arc → arc < first + length (all_labels groups)
    → sum_by (leaves_on arc) (all_passes first groups) ≡ 1
sum-leaves first arc groups from below = sum-of_all leaves_on leaves-here leaves-outside first arc groups from below
