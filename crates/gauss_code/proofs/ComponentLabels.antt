-- The labels of a component, taken from those of all arcs.
use Rattle.std.proofs.Common.{◌≡◌, ℕ, ◌+◌, ◌-◌, ◌<◌, ◌≤◌, ◌∙◌, ℤ, List, [], ◌∷◌, ◌++◌, drop, length, map, take, sym, ap, arith}
use Rattle.std.specs.Prelude.{IsTrue}
use Rattle.std.specs.List.{range_with_len}
use Rattle.std.proofs.Math.Seq.{drop-append_seam, take-append_seam}
use Rattle.std.proofs.lemmas.List.{drop-map, length-map, map_push, take-map, take_more}
use Rattle.std.proofs.lemmas.List.FromFn.{length-range_with_len}
use Rattle.kh_types.specs.Code.{Code, arc_count, arcs}
use Rattle.kh_types.specs.Components.{component_count, first_arcs}
use Rattle.kh_types.specs.Acceptance.{accepted}
use Rattle.kh_types.proofs.Ranges.{range-append}
use Rattle.orient_arcs.specs.Numbers.{first_arc}
use Rattle.orient_arcs.proofs.ComponentLemmas.{IsDirected-accepted}
use Rattle.orient_arcs.proofs.FirstArcs.{component-first_arc, first_is_arc}
use Rattle.code_passes.specs.ComponentLabels.{component_labels, entering_label}
use Rattle.code_passes.proofs.CutArcs.{IsFirst, end-within, size}

-- some numbers of a range that follow one another
section-range : (a k count n : ℕ) → k + count ≤ n → take count (drop k (range_with_len a n)) ≡ range_with_len (a + k) count
section-range a k count n within =
    let rest = n - (k + count) in
    let parts : n ≡ k + (count + rest) = omega (arith, within) in
    let front = range_with_len a k in
    let back = range_with_len (a + k) (count + rest) in
    ap (λ m. take count (drop k (range_with_len a m))) parts
    ∙ ap (λ xs. take count (drop k xs)) (range-append a k (count + rest))
    ∙ ap (λ i. take count (drop i (front ++ back))) (sym (length-range_with_len a k))
    ∙ ap (λ xs. take count xs) (drop-append_seam front back ∙ range-append (a + k) count rest)
    ∙ ap (λ i. take i (range_with_len (a + k) count ++ range_with_len (a + k + count) rest))
    (sym (length-range_with_len (a + k) count))
    ∙ take-append_seam (range_with_len (a + k) count) (range_with_len (a + k + count) rest)

-- the first arc of the component with a number
pub IsFirst-first_arc : (crossings : List (List ℕ)) (component : ℕ) → component < component_count crossings
    → IsFirst crossings (first_arc crossings component)
IsFirst-first_arc crossings component within = record {
  is_arc = first_is_arc crossings component within;
  own = component-first_arc crossings component within;
}

-- the labels of all arcs, and a component that is given by its number, by its first arc and by its length
pub record IsGiven (code : Code) (labels : List ℤ) (component first count : ℕ) : Type 0 where
  pub holds : IsTrue (accepted code)
  pub all : labels ≡ map (entering_label code.crossings) (arcs code.crossings)
  pub within : component < component_count code.crossings
  pub begins : first ≡ first_arc code.crossings component
  pub counts : count ≡ size code.crossings (first_arc code.crossings component)

first-positive : (code : Code) (labels : List ℤ) (component first count : ℕ) → IsGiven code labels component first count → 1 ≤ first
first-positive code labels component first count given =
    omega (arith, given.begins, (first_is_arc code.crossings component given.within).positive)

section-within : (code : Code) (labels : List ℤ) (component first count : ℕ) → IsGiven code labels component first count
    → first - 1 + count ≤ arc_count code.crossings
section-within code labels component first count given =
    let crossings = code.crossings in
    let ends = end-within crossings (IsDirected-accepted code given.holds) (first_arc crossings component)
    (IsFirst-first_arc crossings component given.within) in
    omega (arith, given.begins, given.counts, ends, first-positive code labels component first count given)

-- its labels stand among those of all arcs
pub labels-within : (code : Code) (labels : List ℤ) (component first count : ℕ) → IsGiven code labels component first count
    → first - 1 + count ≤ length labels
labels-within code labels component first count given =
    omega (
      arith,
      section-within code labels component first count given,
      ap length given.all ∙ length-map (arcs code.crossings) (entering_label code.crossings) ∙ length-range_with_len 1 (arc_count code.crossings),
    )

labels-of_component : (code : Code) (labels : List ℤ) (component first count : ℕ) → IsGiven code labels component first count
    → take count (drop (first - 1) labels) ≡ component_labels code.crossings (first_arc code.crossings component)
labels-of_component code labels component first count given =
    let crossings = code.crossings in
    let start = first - 1 in
    let begin : 1 + start ≡ first_arc crossings component =
    omega (arith, given.begins, first-positive code labels component first count given) in
    ap (λ ls. take count (drop start ls)) given.all
    ∙ ap (λ ls. take count ls) (drop-map (entering_label crossings) start (arcs crossings))
    ∙ take-map (entering_label crossings) count (drop start (arcs crossings))
    ∙ ap (λ xs. map (entering_label crossings) xs)
    (section-range 1 start count (arc_count crossings) (section-within code labels component first count given))
    ∙ ap (λ a. map (entering_label crossings) (range_with_len a count)) begin
    ∙ ap (λ n. map (entering_label crossings) (range_with_len (first_arc crossings component) n)) given.counts

-- the labels of one component more
pub component_more : (code : Code) (labels : List ℤ) (component first count : ℕ) (groups : List (List ℤ))
    → IsGiven code labels component first count
    → groups ≡ map (component_labels code.crossings) (take component (first_arcs code.crossings))
    → groups ++ take count (drop (first - 1) labels) ∷ []
    ≡ map (component_labels code.crossings) (take (component + 1) (first_arcs code.crossings))
component_more code labels component first count groups given are =
    let crossings = code.crossings in
    let firsts = first_arcs crossings in
    ap (λ gs. gs ++ take count (drop (first - 1) labels) ∷ []) are
    ∙ ap (λ g. map (component_labels crossings) (take component firsts) ++ g ∷ [])
    (labels-of_component code labels component first count given)
    ∙ sym (map_push (component_labels crossings) (take component firsts) (first_arc crossings component))
    ∙ ap (λ xs. map (component_labels crossings) xs) (sym (take_more firsts component 0 given.within))
