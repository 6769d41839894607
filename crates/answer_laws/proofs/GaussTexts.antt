-- The signed Gauss text of a diagram within the limits is short.
use Rattle.std.proofs.Common.{◌≡◌, ℕ, suc, ◌+◌, ◌*◌, ◌<◌, ◌≤◌, ◌∙◌, List, [], ◌∷◌, ◌++◌, zero, length, map, codes, ℤ, pos, Bool, true, false, IsTrue, sym, ap, subst, arith}
use Rattle.std.specs.Prelude.{if◌then◌else◌, neg_ℤ, replicate, unsigned_abs}
use Rattle.std.specs.Fmt.{signed_decimal}
use Rattle.std.specs.List.{AllByRecursion, flat_map, range_with_len}
use Rattle.std.proofs.lemmas.Grind.{flat_map-append}
use Rattle.std.proofs.lemmas.List.{append-nil, length-append, length-map, length-replicate}
use Rattle.std.proofs.lemmas.List.FromFn.{length-map-range_with_len}
use Rattle.kh_types.specs.Acceptance.{accepted}
use Rattle.kh_types.specs.Code.{Code, arc_count, arcs, crossing_numbers}
use Rattle.kh_types.specs.Components.{first_arcs}
use Rattle.kh_types.specs.Directions.{is_positive, sign_of}
use Rattle.kh_types.specs.declared.limits.TheConstants.{CROSSINGS, INPUT_BYTES}
use Rattle.kh_types.proofs.AcceptedLemmas.{IsAccepted-is}
use Rattle.kh_types.proofs.Heads.{HasNoSingleArcs-accepted}
use Rattle.code_passes.specs.ComponentLabels.{component_labels, entering_label, labels_of_code}
use Rattle.code_passes.proofs.ArcLabels.{IsOriented, entering_label-names}
use Rattle.cancel_log.proofs.PrintedDiagrams.{length-signed}
use Rattle.gauss_code.specs.Listings.{Body, groups_of, labels_of}
use Rattle.gauss_code.specs.Printing.{body_of, body_text, gauss_text, group_text, next_group_text, next_number_text, numbers_text}
use Rattle.gauss_code.proofs.Bodies.{groups_of-body_of, labels_of-body_of}
use Rattle.gauss_code.proofs.ListedPasses.{HasLabel-code, labels-code}

-- a number of a text has no more than three digits
IsShort : ℤ → Type 0
IsShort number = unsigned_abs number < 1000

-- numbers behind commas
listed-le : (numbers : List ℤ) → AllByRecursion IsShort numbers → length (flat_map next_number_text numbers) ≤ 6 * length numbers
unfolding IsShort
listed-le [] short = omega arith
listed-le (number ∷ numbers) (first, short) =
    omega (
      arith,
      listed-le numbers short,
      length-signed number first,
      length-append (next_number_text number) (flat_map next_number_text numbers),
      length-append (codes ", ") (signed_decimal number),
    )

-- the first has no comma
numbers-le : (numbers : List ℤ) → length (numbers_text numbers) ≤ length (flat_map next_number_text numbers)
numbers-le [] = omega arith
numbers-le (number ∷ numbers) =
    omega (
      arith,
      length-append (signed_decimal number) (flat_map next_number_text numbers),
      length-append (next_number_text number) (flat_map next_number_text numbers),
      length-append (codes ", ") (signed_decimal number),
    )

-- a group has its two braces beside its numbers
group-le : (labels : List ℤ) → length (group_text labels) ≤ length (flat_map next_number_text labels) + 2
group-le labels = omega (arith, numbers-le labels, length-append (numbers_text labels) (codes "}"))

-- and a comma and a space before it
groups-le : (groups : List (List ℤ))
    → length (flat_map next_group_text groups) ≤ length (flat_map next_number_text (flat_map (λ labels. labels) groups)) + 4 * length groups
groups-le [] = omega arith
groups-le (labels ∷ groups) =
    omega (
      arith,
      group-le labels,
      groups-le groups,
      length-append (next_group_text labels) (flat_map next_group_text groups),
      ap length (flat_map-append next_number_text labels (flat_map (λ ls. ls) groups)),
      length-append (flat_map next_number_text labels) (flat_map next_number_text (flat_map (λ ls. ls) groups)),
    )

-- so it is with the body of a text
body-le : (body : Body) → length (body_text body) ≤ length (flat_map next_number_text (labels_of body)) + 4 * length (groups_of body)
body-le (Body.Bare []) = omega arith
body-le (Body.Bare (label ∷ labels)) =
    let same : label ∷ (labels ++ []) ≡ label ∷ labels = ap (λ ls. label ∷ ls) (append-nil labels) in
    subst (λ (ls : List ℤ). length (numbers_text (label ∷ labels)) ≤ length (flat_map next_number_text ls) + 4)
    (sym same) (omega (arith, numbers-le (label ∷ labels)))
body-le (Body.Groups group groups) =
    omega (
      arith,
      group-le group,
      groups-le groups,
      length-append (group_text group) (flat_map next_group_text groups),
      ap length (flat_map-append next_number_text group (flat_map (λ ls. ls) groups)),
      length-append (flat_map next_number_text group) (flat_map next_number_text (flat_map (λ ls. ls) groups)),
    )

-- the labels of a code name its crossings, and its signs are 1 or -1

short-range : (label : ℕ → ℤ) (a n : ℕ) → ((x : ℕ) → a ≤ x → x < a + n → IsShort (label x))
    → AllByRecursion IsShort (map label (range_with_len a n))
short-range label a zero each = tt
short-range label a (suc n) each =
    (each a (omega arith) (omega arith), short-range label (a + 1) n (λ x from below. each x (omega (arith, from)) (omega (arith, below))))

short-sign : (positive : Bool) → IsShort (if positive then pos 1 else neg_ℤ (pos 1))
unfolding IsShort
short-sign true = omega arith
short-sign false = omega arith

short-labels : (crossings : List (List ℕ)) → IsOriented crossings → length crossings ≤ CROSSINGS
    → AllByRecursion IsShort (map (entering_label crossings) (arcs crossings))
unfolding IsShort
short-labels crossings oriented few =
    short-range (entering_label crossings) 1 (arc_count crossings)
    (λ arc from below.
    let names = entering_label-names crossings oriented arc (record { positive = from; within = omega (arith, below) }) in
    omega (arith, few, names.within))

pub gauss_text-le : (code : Code) → IsTrue (accepted code) → length code.crossings ≤ CROSSINGS → length (gauss_text code) + 1 ≤ INPUT_BYTES
gauss_text-le code is few =
    let crossings = code.crossings in
    let whole = HasNoSingleArcs-accepted code is in
    let oriented : IsOriented crossings = record { directed = whole.0; moves = whole.1 } in
    let components = labels_of_code crossings in
    let body = body_of components code.loops in
    let each = HasLabel-code crossings oriented in
    let labels = labels_of-body_of components code.loops each ∙ labels-code crossings oriented in
    let signs = map (sign_of crossings) (crossing_numbers crossings) in
    omega (
      arith,
      few,
      ((IsAccepted-is code).0 is).components,
      body-le body,
      ap (λ ls. length (flat_map next_number_text ls)) labels,
      listed-le (map (entering_label crossings) (arcs crossings)) (short-labels crossings oriented few),
      length-map-range_with_len (entering_label crossings) 1 (arc_count crossings),
      ap length (groups_of-body_of components code.loops each),
      length-append components (replicate code.loops []),
      length-map (first_arcs crossings) (component_labels crossings),
      length-replicate {A = List ℤ} code.loops [],
      numbers-le signs,
      listed-le signs
          (short-range (sign_of crossings) 1 (length crossings) (λ crossing from below. short-sign (is_positive crossings crossing))),
      length-map-range_with_len (sign_of crossings) 1 (length crossings),
      length-append (codes "GaussCode[") (body_text body ++ (codes "] Signs[" ++ (numbers_text signs ++ codes "]"))),
      length-append (body_text body) (codes "] Signs[" ++ (numbers_text signs ++ codes "]")),
      length-append (codes "] Signs[") (numbers_text signs ++ codes "]"),
      length-append (numbers_text signs) (codes "]"),
    )
