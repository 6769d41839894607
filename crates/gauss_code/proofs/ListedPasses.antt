-- The passes that the listing of a code stands for: one for each arc, that on which the arc enters a crossing.
--
-- What is printed lists for each component, from its least arc on, the label of the dart at which each arc enters. Read back, these labels
-- make the passes again: the pass at a place enters on the arc of that place and leaves on the next, as the components are intervals. So
-- the crossings that the passes make are those of the diagram.
use Rattle.std.proofs.Common.{◌≡◌, ℕ, zero, suc, ◌+◌, ◌-◌, ◌<◌, ◌≤◌, ◌∙◌, ℤ, List, [], ◌∷◌, ◌++◌, get_or, length, map, pos, refl, sym, ap, arith}
use Rattle.std.specs.Prelude.{nat_eq, replicate, if◌then◌else◌, unwrap_or}
use Rattle.std.specs.List.{AllByRecursion, flat_map, range_with_len}
use Rattle.std.specs.Option.{option_map}
use Rattle.std.specs.Ordering.{int_eq}
use Rattle.std.proofs.lemmas.Bool.Decides.{nat_tests}
use Rattle.std.proofs.lemmas.List.{map-append}
use Rattle.std.proofs.lemmas.List.FromFn.{get_or-map-range_with_len, length-map-range_with_len}
use Rattle.kh_types.specs.Code.{arc_count, arcs, IsArc}
use Rattle.kh_types.specs.Components.{first_arcs, next}
use Rattle.kh_types.proofs.Ranges.{find-map, range-append}
use Rattle.kh_types.proofs.NextArcs.{component, HasPlace-directed}
use Rattle.code_passes.specs.Passes.{Pass, all_passes, no_pass, pass_at, pass_of, passes_from}
use Rattle.code_passes.specs.ComponentLabels.{component_labels, entering_label, labels_of_code}
use Rattle.code_passes.proofs.ArcLabels.{IsOriented, entering_label-once}
use Rattle.gauss_code.proofs.Bodies.{HasLabel}
use Rattle.code_passes.proofs.CutArcs.{Cut, Cut-first_arcs, IsFirst, component-in, end-within, size, size-positive}
use Rattle.code_passes.proofs.Searches.{find-first}
use Rattle.code_passes.proofs.TwoArcComponents.{turned_labels-component}
use Rattle.kh_types.proofs.Integers.{int_eq-other, int_eq-same}

-- the pass that an arc enters
abbrev pub pass_on : List (List ℕ) → ℕ → Pass
pass_on crossings arc = record { label = entering_label crossings arc; enters = arc; leaves = next crossings arc }

-- two functions that agree on two ranges, number by number
map-ranges : {X : Type 0} (f g : ℕ → X) (a b n : ℕ) → ((x y : ℕ) → a ≤ x → x < a + n → x + b ≡ y + a → f x ≡ g y)
    → map f (range_with_len a n) ≡ map g (range_with_len b n)
map-ranges f g a b zero alike = refl
map-ranges {X} f g a b (suc n) alike =
    ap (λ (x : X). x ∷ map f (range_with_len (a + 1) n)) (alike a b (omega arith) (omega arith) (omega arith))
    ∙ ap (λ (xs : List X). g b ∷ xs)
    (map-ranges f g (a + 1) (b + 1) n
    (λ x y from below together. alike x y (omega (arith, from)) (omega (arith, below)) (omega (arith, together))))

-- the arcs of a component, and the next of each
next-in : (crossings : List (List ℕ)) → IsOriented crossings → (first at arc count : ℕ) → IsFirst crossings first
    → arc ≡ first + at → at < size crossings first → count ≡ size crossings first
    → (if nat_eq (at + 1) count then first else first + at + 1) ≡ next crossings arc
next-in crossings oriented first at arc count is is_arc below counts =
    let directed = oriented.directed in
    let ends = end-within crossings directed first is in
    let arc_is : IsArc crossings arc = record {
      positive = omega (arith, is_arc, is.is_arc.positive);
      within = omega (arith, is_arc, below, ends);
    } in
    let place = HasPlace-directed crossings directed arc arc_is in
    let same = component-in crossings directed first arc is (omega (arith, is_arc)) (omega (arith, is_arc, below)) in
    let alike : size crossings (component crossings arc) ≡ size crossings first = ap (size crossings) same in
    cases at count first (size crossings first) arc (next crossings arc) below counts is_arc
    (λ inside. place.inside (omega (arith, same, alike, inside, is_arc)))
    (λ last. place.last (omega (arith, same, alike, last, is_arc)) ∙ same)
  where
    cases : (k n a s x y : ℕ) → k < s → n ≡ s → x ≡ a + k → (k + 1 < s → y ≡ x + 1) → (s ≤ k + 1 → y ≡ a)
        → (if nat_eq (k + 1) n then a else a + k + 1) ≡ y
    cases k n a s x y below is_n is_x inside last = grind (arith, nat_tests)

-- a pass by its parts
abbrev made : ℤ → ℕ → ℕ → Pass
made label enters leaves = record { label = label; enters = enters; leaves = leaves }

-- the passes of a component
passes_from-component : (crossings : List (List ℕ)) → IsOriented crossings → (first : ℕ) → IsFirst crossings first
    → passes_from first (component_labels crossings first) ≡ map (pass_on crossings) (range_with_len first (size crossings first))
passes_from-component crossings oriented first is =
    let labels = component_labels crossings first in
    let count = length-map-range_with_len (entering_label crossings) first (size crossings first) in
    ap (λ n. map (pass_at first labels) (range_with_len 0 n)) count
    ∙ map-ranges (pass_at first labels) (pass_on crossings) 0 first (size crossings first)
    (λ at arc from below together.
    let is_arc : arc ≡ first + at = omega (arith, together) in
    let within : at < size crossings first = omega (arith, below) in
    same_pass (get_or labels at (pos 0)) (entering_label crossings arc) (first + at) arc
    (if nat_eq (at + 1) (length labels) then first else first + at + 1) (next crossings arc)
    (get_or-map-range_with_len (entering_label crossings) first (size crossings first) at arc (pos 0) within (sym is_arc)) (sym is_arc)
    (next-in crossings oriented first at arc (length labels) is is_arc within count))
  where
    same_pass : (label l : ℤ) (enters e leaves v : ℕ) → label ≡ l → enters ≡ e → leaves ≡ v
        → made label enters leaves ≡ made l e v
    same_pass label l enters e leaves v is_l is_e is_v =
        ap (λ x. made x enters leaves) is_l ∙ ap (λ x. made l x leaves) is_e ∙ ap (λ x. made l e x) is_v

-- loops have no passes
passes-loops : (first loops : ℕ) → all_passes first (replicate loops []) ≡ []
passes-loops first zero = refl
passes-loops first (suc loops) = passes-loops (first + 0) loops

all_passes-cut : (crossings : List (List ℕ)) → IsOriented crossings → (loops a n : ℕ) (firsts : List ℕ) → Cut crossings a firsts n
    → all_passes a (map (component_labels crossings) firsts ++ replicate loops []) ≡ map (pass_on crossings) (range_with_len a n)
all_passes-cut crossings oriented loops a n [] cut =
    passes-loops a loops ∙ ap (λ k. map (pass_on crossings) (range_with_len a k)) (sym cut)
all_passes-cut crossings oriented loops a n (first ∷ firsts) cut =
    let is = cut.1 in
    let count = size crossings a in
    let more = map (component_labels crossings) firsts ++ replicate loops [] in
    let parts : n ≡ count + (n - count) = omega (arith, cut.2) in
    ap (λ f. all_passes a (component_labels crossings f ∷ more)) cut.0
    ∙ ap (λ ls. passes_from a ls ++ all_passes (a + length (component_labels crossings a)) more)
    (turned_labels-component crossings a oriented is)
    ∙ ap (λ ps. ps ++ all_passes (a + length (component_labels crossings a)) more) (passes_from-component crossings oriented a is)
    ∙ ap (λ k. map (pass_on crossings) (range_with_len a count) ++ all_passes (a + k) more)
    (length-map-range_with_len (entering_label crossings) a count)
    ∙ ap (λ ps. map (pass_on crossings) (range_with_len a count) ++ ps)
    (all_passes-cut crossings oriented loops (a + count) (n - count) firsts cut.3)
    ∙ sym (map-append (pass_on crossings) (range_with_len a count) (range_with_len (a + count) (n - count)))
    ∙ ap (λ xs. map (pass_on crossings) xs) (sym (ap (λ k. range_with_len a k) parts ∙ range-append a count (n - count)))

-- all passes, in the order of the arcs that they enter on
pub all_passes-code : (crossings : List (List ℕ)) → IsOriented crossings → (loops : ℕ)
    → all_passes 1 (labels_of_code crossings ++ replicate loops []) ≡ map (pass_on crossings) (arcs crossings)
all_passes-code crossings oriented loops =
    all_passes-cut crossings oriented loops 1 (arc_count crossings) (first_arcs crossings)
    (Cut-first_arcs crossings oriented.directed)

labels-cut : (crossings : List (List ℕ)) (a n : ℕ) (firsts : List ℕ) → Cut crossings a firsts n
    → flat_map (λ labels. labels) (map (component_labels crossings) firsts) ≡ map (entering_label crossings) (range_with_len a n)
labels-cut crossings a n [] cut = ap (λ k. map (entering_label crossings) (range_with_len a k)) (sym cut)
labels-cut crossings a n (first ∷ firsts) cut =
    let count = size crossings a in
    let later = flat_map (λ labels. labels) (map (component_labels crossings) firsts) in
    let parts : n ≡ count + (n - count) = omega (arith, cut.2) in
    ap (λ f. component_labels crossings f ++ later) cut.0
    ∙ ap (λ ls. component_labels crossings a ++ ls) (labels-cut crossings (a + count) (n - count) firsts cut.3)
    ∙ sym (map-append (entering_label crossings) (range_with_len a count) (range_with_len (a + count) (n - count)))
    ∙ ap (λ xs. map (entering_label crossings) xs) (sym (ap (λ k. range_with_len a k) parts ∙ range-append a count (n - count)))

-- all labels, in the order of the arcs
pub labels-code : (crossings : List (List ℕ)) → IsOriented crossings
    → flat_map (λ labels. labels) (labels_of_code crossings) ≡ map (entering_label crossings) (arcs crossings)
labels-code crossings oriented =
    labels-cut crossings 1 (arc_count crossings) (first_arcs crossings) (Cut-first_arcs crossings oriented.directed)

-- each component has a label
HasLabel-range : (label : ℕ → ℤ) (a n : ℕ) → 1 ≤ n → HasLabel (map label (range_with_len a n))
HasLabel-range label a zero some = absurd (omega (arith, some))
HasLabel-range label a (suc n) some = record { some = refl }

HasLabel-cut : (crossings : List (List ℕ)) → IsOriented crossings → (a n : ℕ) (firsts : List ℕ) → Cut crossings a firsts n
    → AllByRecursion HasLabel (map (component_labels crossings) firsts)
HasLabel-cut crossings oriented a n [] cut = tt
HasLabel-cut crossings oriented a n (first ∷ firsts) cut =
    let positive = size-positive crossings oriented.directed a cut.1 in (
      HasLabel-range (entering_label crossings) first (size crossings first) (omega (arith, positive, ap (size crossings) cut.0)),
      HasLabel-cut crossings oriented (a + size crossings a) (n - size crossings a) firsts cut.3,
    )

pub HasLabel-code : (crossings : List (List ℕ)) → IsOriented crossings → AllByRecursion HasLabel (labels_of_code crossings)
HasLabel-code crossings oriented =
    HasLabel-cut crossings oriented 1 (arc_count crossings) (first_arcs crossings) (Cut-first_arcs crossings oriented.directed)

-- the pass with the label of an arc is the one that the arc enters
pub pass_of-label : (crossings : List (List ℕ)) → IsOriented crossings → (arc : ℕ) (label : ℤ) → IsArc crossings arc
    → entering_label crossings arc ≡ label → pass_of (map (pass_on crossings) (arcs crossings)) label ≡ pass_on crossings arc
pass_of-label crossings oriented arc label is has =
    ap (λ o. unwrap_or o no_pass)
    (find-map (λ pass. int_eq pass.label label) (pass_on crossings) (arcs crossings)
    ∙ ap (λ o. option_map (pass_on crossings) o)
    (find-first (λ x. int_eq (entering_label crossings x) label) 1 (arc_count crossings) arc is.positive (omega (arith, is.within))
    (int_eq-same (entering_label crossings arc) label has)
    (λ earlier from before.
    int_eq-other (entering_label crossings earlier) label
    (λ same.
    let earlier_is : IsArc crossings earlier = record { positive = from; within = omega (arith, before, is.within) } in
    let one = entering_label-once crossings oriented earlier arc earlier_is is (same ∙ sym has) in
    omega (arith, one, before)))))
