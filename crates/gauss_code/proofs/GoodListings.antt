-- The listing of a code has no fault.
use Rattle.std.proofs.Common.{◌≡◌, ℕ, ◌+◌, ◌/◌, ◌<◌, ◌≤◌, ◌∙◌, ℤ, pos, neg_ℤ, nat_abs, List, length, map, take, refl, sym, ap, arith, Bool, true, false, not, ◌&&◌, ◌||◌}
use Rattle.std.specs.Prelude.{Option, None, nat_eq, nat_lt, slice_index, if◌then◌else◌}
use Rattle.std.specs.List.{list_any, range_with_len}
use Rattle.std.specs.Option.{option_map, option_or}
use Rattle.std.specs.Ordering.{int_eq}
use Rattle.std.proofs.lemmas.Bool.{eq-eqb, le-ltb}
use Rattle.std.proofs.lemmas.Bool.Decides.{nat_tests}
use Rattle.std.proofs.lemmas.List.FromFn.{get_or-map-range_with_len, length-map-range_with_len, take-map-range_with_len}
use Rattle.kh_types.specs.Code.{arc_count, arcs, crossing_numbers, IsArc}
use Rattle.kh_types.specs.Directions.{is_positive, sign_of}
use Rattle.kh_types.specs.declared.limits.TheConstants.{CROSSINGS, LOOPS}
use Rattle.kh_types.proofs.Lists.{find-none}
use Rattle.gauss_code.specs.declared.stop.GaussStop.{GaussStop}
use Rattle.gauss_code.specs.declared.stop.GaussStop.TheVariants.{CrossingLimit, LoopLimit, Label, NoSigns, SignCount}
use Rattle.gauss_code.specs.Listings.{Body, labels_of, crossing_count, loop_group_count}
use Rattle.code_passes.specs.Labels.{bad_label, bad_sign, is_bad_label, is_bad_sign, names_none, listed_number}
use Rattle.gauss_code.specs.Faults.{gauss_fault_if, first_gauss_fault}
use Rattle.code_passes.specs.ComponentLabels.{entering_label}
use Rattle.code_passes.proofs.ArcLabels.{IsOriented, entering_label-names, entering_label-once}
use Rattle.gauss_code.proofs.PrintedTexts.{listing_with}
use Rattle.code_passes.proofs.Searches.{list_any-map, list_any-none}
use Rattle.kh_types.proofs.Integers.{int_eq-other}

-- the labels of all arcs, and the signs of all crossings
abbrev pub arc_labels : List (List ℕ) → List ℤ
arc_labels crossings = map (entering_label crossings) (arcs crossings)

abbrev pub signs : List (List ℕ) → List ℤ
signs crossings = map (sign_of crossings) (crossing_numbers crossings)

pub half-arc_labels : (crossings : List (List ℕ)) → length (arc_labels crossings) / 2 ≡ length crossings
half-arc_labels crossings = omega (arith, length-map-range_with_len (entering_label crossings) 1 (arc_count crossings))

-- a label of an arc is not bad
good_label : (crossings : List (List ℕ)) → IsOriented crossings → (at : ℕ) → at < arc_count crossings
    → is_bad_label (arc_labels crossings) at ≡ false
good_label crossings oriented at below =
    let arc = at + 1 in
    let label = entering_label crossings arc in
    let is : IsArc crossings arc = record { positive = omega arith; within = omega (arith, below) } in
    let here : listed_number (arc_labels crossings) at ≡ label =
    get_or-map-range_with_len (entering_label crossings) 1 (arc_count crossings) at arc (pos 0) below (omega arith) in
    let names = entering_label-names crossings oriented arc is in
    ap (λ x. names_none (length (arc_labels crossings) / 2) x || list_any (int_eq x) (take at (arc_labels crossings))) here
    ∙ ap (λ n. names_none n label || list_any (int_eq label) (take at (arc_labels crossings))) (half-arc_labels crossings)
    ∙ ap (λ b. b || list_any (int_eq label) (take at (arc_labels crossings)))
    (in_range (nat_abs label) (length crossings) names.positive names.within)
    ∙ ap (λ xs. list_any (int_eq label) xs) (take-map-range_with_len (entering_label crossings) 1 (arc_count crossings) at (omega (arith, below)))
    ∙ list_any-map (int_eq label) (entering_label crossings) (range_with_len 1 at)
    ∙ list_any-none (λ x. int_eq label (entering_label crossings x)) 1 at
    (λ earlier from before.
    int_eq-other label (entering_label crossings earlier)
    (λ same.
    let one = entering_label-once crossings oriented arc earlier is (record { positive = from; within = omega (arith, before, below) }) same in
    omega (arith, one, before)))
  where
    in_range : (x n : ℕ) → 1 ≤ x → x ≤ n → (nat_eq x 0 || nat_lt n x) ≡ false
    in_range x n positive within = grind (arith, nat_tests)

no_bad_label : (crossings : List (List ℕ)) → IsOriented crossings → bad_label (arc_labels crossings) ≡ None
no_bad_label crossings oriented =
    find-none (is_bad_label (arc_labels crossings)) 0 (length (arc_labels crossings))
    (λ at from below.
    good_label crossings oriented at (omega (arith, below, length-map-range_with_len (entering_label crossings) 1 (arc_count crossings))))

-- a sign is not bad
good_sign : (positive : Bool) → is_bad_sign (if positive then pos 1 else neg_ℤ (pos 1)) ≡ false
good_sign true = refl
good_sign false = refl

no_bad_sign : (crossings : List (List ℕ)) → bad_sign (signs crossings) ≡ None
no_bad_sign crossings =
    find-none (λ at. is_bad_sign (listed_number (signs crossings) at)) 0 (length (signs crossings))
    (λ at from below.
    ap is_bad_sign
    (get_or-map-range_with_len (sign_of crossings) 1 (length crossings) at (at + 1) (pos 0)
    (omega (arith, below, length-map-range_with_len (sign_of crossings) 1 (length crossings))) (omega arith))
    ∙ good_sign (is_positive crossings (at + 1)))

-- none of some faults
or_none : (first later : Option GaussStop) → first ≡ None → later ≡ None → option_or first later ≡ None
or_none first later none none_later = ap (λ o. option_or o later) none ∙ none_later

gauss_fault_if-fails : (holds : Bool) (fault : GaussStop) → holds ≡ false → gauss_fault_if holds fault ≡ None
gauss_fault_if-fails holds fault fails = ap (λ b. gauss_fault_if b fault) fails

and-false : (b : Bool) → (b && false) ≡ false
and-false true = refl
and-false false = refl

-- a body with these labels, few enough, and these signs has no fault
pub no_fault : (crossings : List (List ℕ)) (body : Body) (places : List ℕ) → IsOriented crossings → labels_of body ≡ arc_labels crossings
    → length crossings ≤ CROSSINGS → loop_group_count body ≤ LOOPS → first_gauss_fault (listing_with body (signs crossings)) places ≡ None
no_fault crossings body places oriented are few few_loops =
    or_none _ _ (gauss_fault_if-fails (nat_lt CROSSINGS (crossing_count body)) (CrossingLimit (crossing_count body))
    (le-ltb CROSSINGS (crossing_count body) (omega (arith, few, count))))
    (or_none _ _ (gauss_fault_if-fails (nat_lt LOOPS (loop_group_count body)) (LoopLimit (loop_group_count body)) (le-ltb LOOPS (loop_group_count body) few_loops))
    (or_none _ _ (ap (λ ls. option_map (λ at. Label (slice_index places at)) (bad_label ls)) are
    ∙ ap (λ o. option_map (λ at. Label (slice_index places at)) o) (no_bad_label crossings oriented))
    (or_none _ _ (gauss_fault_if-fails (nat_lt 0 (length (labels_of body)) && false) NoSigns (and-false (nat_lt 0 (length (labels_of body)))))
    (or_none _ _ (gauss_fault_if-fails (not (nat_eq (length (signs crossings)) (crossing_count body)))
    (SignCount (length (signs crossings)) (crossing_count body))
    (ap not (eq-eqb (length (signs crossings)) (crossing_count body)
    (length-map-range_with_len (sign_of crossings) 1 (length crossings) ∙ sym count))))
    (ap (λ o. option_map (λ at. Label (slice_index places (length (labels_of body) + at))) o)
    (no_bad_sign crossings))))))
  where
    count : crossing_count body ≡ length crossings
    count = ap (λ ls. length ls / 2) are ∙ half-arc_labels crossings
