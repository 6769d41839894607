-- The text of a code reads as the code.
--
-- The text is spelled from the listing, and the listing is that of the diagram: its labels are not bad, its signs are those of the
-- crossings, its components begin as they are turned. So it has no fault, and the code that it stands for has the diagram's crossings
-- (ListedPasses) and loops.
use Rattle.std.proofs.Common.{◌≡◌, ℕ, zero, suc, inl, inr, ◌+◌, ◌-◌, ◌/◌, ◌<◌, ◌≤◌, ◌∙◌, ℤ, pos, neg_ℤ, All, List, [], ◌∷◌, get_or, length, map, Ok, refl, sym, ap, subst, arith, Bool, true, false}
use Rattle.std.specs.Prelude.{IsTrue, if◌then◌else◌}
use Rattle.std.specs.List.{AllByRecursion, range_with_len}
use Rattle.std.proofs.lemmas.Bool.{cases_Bool}
use Rattle.std.proofs.lemmas.List.{ext_get_or}
use Rattle.std.proofs.lemmas.List.FromFn.{get_or-map-range_with_len, length-map-range_with_len}
use Rattle.kh_types.specs.Code.{Code, arc_count, arc_in, arcs, slots_of, IsCrossing}
use Rattle.kh_types.specs.Components.{first_arcs, next}
use Rattle.kh_types.specs.Directions.{is_positive, sign_of}
use Rattle.kh_types.specs.Acceptance.{accepted}
use Rattle.kh_types.specs.declared.limits.TheConstants.{CROSSINGS, LOOPS}
use Rattle.kh_types.proofs.PassPairs.{IsArc-at}
use Rattle.kh_types.proofs.Heads.{HasNoSingleArcs-accepted, IsPass-over, IsPass-under}
use Rattle.kh_lex.specs.Lines.{with_feed}
use Rattle.kh_lex.specs.Symbols.{Means}
use Rattle.kh_lex.proofs.WrittenLines.{Means-line}
use Rattle.kh_lex.proofs.WrittenTexts.{IsWritten, Means-written}
use Rattle.gauss_code.specs.Listings.{groups_of, crossing_count, loop_group_count}
use Rattle.gauss_code.specs.Grammar.{gauss_spelled, number_places}
use Rattle.code_passes.specs.Passes.{Pass, all_passes, pass_of, slots_by_passes, slots_between}
use Rattle.gauss_code.specs.Codes.{listed_code}
use Rattle.code_passes.specs.ComponentLabels.{component_labels, label_at, entering_label, labels_of_code}
use Rattle.gauss_code.specs.Printing.{body_of, gauss_text, listing_of}
use Rattle.gauss_code.specs.Reading.{IsGaussReading}
use Rattle.code_passes.proofs.ArcLabels.{IsOriented, entering_label-names, entering_label-under}
use Rattle.gauss_code.proofs.Bodies.{groups_of-body_of, HasSmallNumbers-body_of, labels_of-body_of, loop_group_count-body_of}
use Rattle.gauss_code.proofs.GoodListings.{half-arc_labels, no_fault, signs}
use Rattle.code_passes.proofs.CutArcs.{Cut, Cut-first_arcs, end-within, size}
use Rattle.gauss_code.proofs.ListedPasses.{HasLabel-code, all_passes-code, labels-code, pass_of-label, pass_on}
use Rattle.gauss_code.proofs.PrintedTexts.{AreSmall, IsSmall, written-listing_text}
use Rattle.code_passes.proofs.Searches.{matched_false, matched_true}

-- the numbers of the listing are small
small-range : (label : ℕ → ℤ) (a n : ℕ) → ((x : ℕ) → a ≤ x → x < a + n → IsSmall (label x)) → AreSmall (map label (range_with_len a n))
small-range label a zero each = tt
small-range label a (suc n) each =
    (each a (omega arith) (omega arith), small-range label (a + 1) n (λ x from below. each x (omega (arith, from)) (omega (arith, below))))

small-cut : (crossings : List (List ℕ)) → IsOriented crossings → length crossings ≤ CROSSINGS → (a n : ℕ) (firsts : List ℕ)
    → Cut crossings a firsts n → AllByRecursion AreSmall (map (component_labels crossings) firsts)
small-cut crossings oriented few a n [] cut = tt
small-cut crossings oriented few a n (first ∷ firsts) cut =
    let is = cut.1 in
    let ends = end-within crossings oriented.directed a is in (
      subst (λ (f : ℕ). AreSmall (component_labels crossings f)) (sym cut.0)
          (small-range (entering_label crossings) a (size crossings a)
          (λ x from below.
          let names = entering_label-names crossings oriented x (record {
            positive = omega (arith, from, is.is_arc.positive);
            within = omega (arith, below, ends);
          }) in
          record { within = omega (arith, names.within, few) })),
      small-cut crossings oriented few (a + size crossings a) (n - size crossings a) firsts cut.3,
    )

-- the sign of a crossing, positive or not
abbrev sign_by : Bool → ℤ
sign_by positive = if positive then pos 1 else neg_ℤ (pos 1)

small-sign : (positive : Bool) → IsSmall (sign_by positive)
small-sign true = record { within = omega arith }
small-sign false = record { within = omega arith }

-- the slots of a crossing
four_slots : (slots : List ℕ) → length slots ≡ 4 → arc_in slots 0 ∷ arc_in slots 1 ∷ arc_in slots 2 ∷ arc_in slots 3 ∷ [] ≡ slots
four_slots [] is = absurd (omega (arith, is))
four_slots (i ∷ []) is = absurd (omega (arith, is))
four_slots (i ∷ j ∷ []) is = absurd (omega (arith, is))
four_slots (i ∷ j ∷ k ∷ []) is = absurd (omega (arith, is))
four_slots (i ∷ j ∷ k ∷ l ∷ []) is = refl
four_slots (i ∷ j ∷ k ∷ l ∷ m ∷ slots) is = absurd (omega (arith, is))

-- the passes that all arcs enter
abbrev listed : List (List ℕ) → List Pass
listed crossings = map (pass_on crossings) (arcs crossings)

-- they are those between its two passes
between : (crossings : List (List ℕ)) → IsOriented crossings → (crossing : ℕ) → IsCrossing crossings crossing
    → slots_between (pass_of (listed crossings) (neg_ℤ (pos crossing))) (pass_of (listed crossings) (pos crossing))
    (sign_of crossings crossing)
    ≡ arc_in (slots_of crossings crossing) 0 ∷ arc_in (slots_of crossings crossing) 1 ∷ arc_in (slots_of crossings crossing) 2
    ∷ arc_in (slots_of crossings crossing) 3 ∷ []
between crossings oriented crossing is =
    let slots = slots_of crossings crossing in
    let at = λ (slot : ℕ) (below : slot < 4). IsArc-at crossings crossing slot oriented.directed is below in
    let sign = sign_of crossings crossing in
    let over_pass = pass_of (listed crossings) (pos crossing) in
    let under = pass_of-label crossings oriented (arc_in slots 0) (neg_ℤ (pos crossing)) (at 0 (omega arith))
    (entering_label-under crossings oriented crossing is) in
    let under_pass = IsPass-under crossings oriented.directed oriented.moves crossing is in
    let passes = IsPass-over crossings oriented.directed oriented.moves crossing is in
    ap (λ pass. slots_between pass over_pass sign) under
    ∙ (elim (cases_Bool (is_positive crossings crossing)) [
      | inl positive ↦
          let pass = matched_true (is_positive crossings crossing) _ _ passes positive in
          let over = pass_of-label crossings oriented (arc_in slots 3) (pos crossing) (at 3 (omega arith)) (ap label_at pass.head) in
          ap (λ p. slots_between (pass_on crossings (arc_in slots 0)) p sign) over
          ∙ ap (λ b. slots_between (pass_on crossings (arc_in slots 0)) (pass_on crossings (arc_in slots 3)) (sign_by b)) positive
          ∙ ap (λ x. arc_in slots 0 ∷ x ∷ next crossings (arc_in slots 0) ∷ arc_in slots 3 ∷ []) (sym pass.follows)
          ∙ ap (λ x. arc_in slots 0 ∷ arc_in slots 1 ∷ x ∷ arc_in slots 3 ∷ []) (sym under_pass.follows)
      | inr negative ↦
          let pass = matched_false (is_positive crossings crossing) _ _ passes negative in
          let over = pass_of-label crossings oriented (arc_in slots 1) (pos crossing) (at 1 (omega arith)) (ap label_at pass.head) in
          ap (λ p. slots_between (pass_on crossings (arc_in slots 0)) p sign) over
          ∙ ap (λ b. slots_between (pass_on crossings (arc_in slots 0)) (pass_on crossings (arc_in slots 1)) (sign_by b)) negative
          ∙ ap (λ x. arc_in slots 0 ∷ arc_in slots 1 ∷ next crossings (arc_in slots 0) ∷ x ∷ []) (sym pass.follows)
          ∙ ap (λ x. arc_in slots 0 ∷ arc_in slots 1 ∷ x ∷ arc_in slots 3 ∷ []) (sym under_pass.follows)
    ])

-- the crossing at a place
slots_at-code : (crossings : List (List ℕ)) → IsOriented crossings → (at : ℕ) → at < length crossings → length (get_or crossings at []) ≡ 4
    → slots_by_passes (listed crossings) (signs crossings) at ≡ get_or crossings at []
slots_at-code crossings oriented at below four =
    let crossing = at + 1 in
    let place : at + 1 - 1 ≡ at = omega arith in
    let here : slots_of crossings crossing ≡ get_or crossings at [] = ap (λ k. get_or crossings k []) place in
    let is : IsCrossing crossings crossing = record { positive = omega arith; within = omega (arith, below) } in
    ap (λ sign. slots_between (pass_of (listed crossings) (neg_ℤ (pos crossing))) (pass_of (listed crossings) (pos crossing)) sign)
    (get_or-map-range_with_len (sign_of crossings) 1 (length crossings) at crossing (pos 0) below (omega arith))
    ∙ between crossings oriented crossing is
    ∙ four_slots (slots_of crossings crossing) (ap length here ∙ four)
    ∙ here

crossings-code : (crossings : List (List ℕ)) → IsOriented crossings → All (λ slots. length slots ≡ 4) crossings
    → map (slots_by_passes (listed crossings) (signs crossings)) (range_with_len 0 (length crossings)) ≡ crossings
crossings-code crossings oriented four =
    let made = map (slots_by_passes (listed crossings) (signs crossings)) (range_with_len 0 (length crossings)) in
    let count = length-map-range_with_len (slots_by_passes (listed crossings) (signs crossings)) 0 (length crossings) in
    ext_get_or [] made crossings count
    (λ at within.
    let below : at < length crossings = omega (arith, within, count) in
    get_or-map-range_with_len (slots_by_passes (listed crossings) (signs crossings)) 0 (length crossings) at at [] below (omega arith)
    ∙ slots_at-code crossings oriented at below (four at [] below))

-- a code by its parts
abbrev made : List (List ℕ) → ℕ → Code
made crossings loops = record { crossings = crossings; loops = loops }

-- the code of the listing of a code is the code
listed_code-listing : (code : Code) → IsOriented code.crossings → All (λ slots. length slots ≡ 4) code.crossings
    → code ≡ listed_code (body_of (labels_of_code code.crossings) code.loops) (signs code.crossings)
listed_code-listing code oriented four =
    let crossings = code.crossings in
    let components = labels_of_code crossings in
    let body = body_of components code.loops in
    let each = HasLabel-code crossings oriented in
    let passes : all_passes 1 (groups_of body) ≡ listed crossings =
    ap (λ groups. all_passes 1 groups) (groups_of-body_of components code.loops each) ∙ all_passes-code crossings oriented code.loops in
    let count : crossing_count body ≡ length crossings =
    ap (λ ls. length ls / 2) (labels_of-body_of components code.loops each ∙ labels-code crossings oriented) ∙ half-arc_labels crossings in
    sym (ap (λ ps. made (map (slots_by_passes ps (signs crossings)) (range_with_len 0 (crossing_count body))) (loop_group_count body)) passes
    ∙ ap (λ n. made (map (slots_by_passes (listed crossings) (signs crossings)) (range_with_len 0 n)) (loop_group_count body)) count
    ∙ ap (λ xs. made xs (loop_group_count body)) (crossings-code crossings oriented four)
    ∙ ap (λ n. made crossings n) (loop_group_count-body_of components code.loops each))

-- a text reads as a code, where it means what is listed of the code
reads-meaning : (text : List ℕ) (code : Code) → IsTrue (accepted code) → All (λ slots. length slots ≡ 4) code.crossings
    → length code.crossings ≤ CROSSINGS → code.loops ≤ LOOPS → Means text (gauss_spelled (listing_of code)) → IsGaussReading text (Ok code)
reads-meaning text code holds four few few_loops means =
    let crossings = code.crossings in
    let is = HasNoSingleArcs-accepted code holds in
    let oriented : IsOriented crossings = record { directed = is.0; moves = is.1 } in
    let components = labels_of_code crossings in
    let body = body_of components code.loops in
    let each = HasLabel-code crossings oriented in
    record {
      listing = listing_of code;
      places = number_places means.tokens;
      lists = record { tokens = means.tokens; cut = means.cut; spells = means.meaning; at = refl };
      good = no_fault crossings body (number_places means.tokens) oriented
          (labels_of-body_of components code.loops each ∙ labels-code crossings oriented) few
          (omega (arith, few_loops, loop_group_count-body_of components code.loops each));
      same = listed_code-listing code oriented four;
    }

-- the text of a code is written by the symbols of what is listed of it
written-gauss_text : (code : Code) → IsTrue (accepted code) → length code.crossings ≤ CROSSINGS
    → IsWritten (gauss_text code) (gauss_spelled (listing_of code))
written-gauss_text code holds few =
    let crossings = code.crossings in
    let is = HasNoSingleArcs-accepted code holds in
    let oriented : IsOriented crossings = record { directed = is.0; moves = is.1 } in
    let components = labels_of_code crossings in
    written-listing_text (body_of components code.loops) (signs crossings)
    (HasSmallNumbers-body_of components code.loops
    (small-cut crossings oriented few 1 (arc_count crossings) (first_arcs crossings) (Cut-first_arcs crossings oriented.directed)))
    (small-range (sign_of crossings) 1 (length crossings) (λ crossing from below. small-sign (is_positive crossings crossing)))

-- the text of a code reads as the code
pub IsGaussReading-gauss_text : (code : Code) → IsTrue (accepted code) → All (λ slots. length slots ≡ 4) code.crossings
    → length code.crossings ≤ CROSSINGS → code.loops ≤ LOOPS → IsGaussReading (gauss_text code) (Ok code)
IsGaussReading-gauss_text code holds four few few_loops =
    reads-meaning (gauss_text code) code holds four few few_loops
    (Means-written (gauss_text code) (gauss_spelled (listing_of code)) (written-gauss_text code holds few))

-- and so does a line of it
pub IsGaussReading-line : (code : Code) → IsTrue (accepted code) → All (λ slots. length slots ≡ 4) code.crossings
    → length code.crossings ≤ CROSSINGS → code.loops ≤ LOOPS → IsGaussReading (with_feed (gauss_text code)) (Ok code)
IsGaussReading-line code holds four few few_loops =
    reads-meaning (with_feed (gauss_text code)) code holds four few few_loops
    (Means-line (gauss_text code) (gauss_spelled (listing_of code)) (written-gauss_text code holds few))
