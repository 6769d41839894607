-- Components of a closed braid begin at the least bottoms that they pass.
--
-- A component begins at its least name. A name is low where it is that of an arc through the bottom, and these have the numbers of their
-- positions, less than all others. A pass that enters on a name that is not low leaves on a low one or on a greater one; so going round, a
-- component comes to a low name, and its least name is the least of them.
use Rattle.std.proofs.Common.{◌≡◌, ℕ, zero, suc, ◌⊎◌, inl, inr, ◌+◌, ◌-◌, ◌*◌, ◌<◌, ◌≤◌, ◌∙◌, ℤ, List, [], ◌∷◌, length, refl, sym, ap, subst, arith, Bool, true, false, not, ◌&&◌, ◌||◌, eq-eqb, eqb-true}
use Rattle.std.specs.Prelude.{nat_eq, slice_index, slice_index_or, unwrap_or, if◌then◌else◌}
use Rattle.std.specs.List.{list_any, range_with_len, AllByRecursion}
use Rattle.std.specs.Option.{option_or}
use Rattle.std.proofs.lemmas.Bool.{both_ways, cases_Bool, and_parts, not-false}
use Rattle.std.proofs.lemmas.Bool.Decides.{nat_tests}
use Rattle.std.proofs.lemmas.List.{get_or-map, length-map}
use Rattle.std.proofs.lemmas.List.FromFn.{get_or-map-range_with_len, length-map-range_with_len}
use Rattle.kh_types.proofs.RangeCounts.{list_any-at}
use Rattle.kh_types.proofs.Ranges.{list_any-below_none}
use Rattle.kh_types.proofs.Searches.{Search-is}
use Rattle.kh_types.proofs.Searches.Search.{missing, some}
use Rattle.code_passes.proofs.LabelCounts.{find-none_at}
use Rattle.code_passes.specs.Passes.{Pass}
use Rattle.code_passes.specs.Parts.{Parts, is_positive_at, over_pass, passes_at, passes_through, slots_in, under_pass}
use Rattle.orient_arcs.specs.Renumbered.{all_of, entering, follows, is_in, name_in_component, named_components, renamed_crossing}
use Rattle.orient_arcs.proofs.Bridge.{components-are}
use Rattle.orient_arcs.proofs.Members.{IsIn, IsIn-get, IsIn-left, IsIn-right, get-IsIn, is_in-true, true-is_in}
use Rattle.orient_arcs.proofs.Ordered.{AreOrdered-components}
use Rattle.orient_arcs.proofs.PairedPasses.{All-flat_map_range, entering-enters, entering-holds}
use Rattle.braid_maker.specs.Words.{arc_above, arc_below, closed_crossings, crossing_of_letter, last_below, touches}
use Rattle.braid_maker.specs.Braids.{left_of, lower_left_is_over}
use Rattle.braid_maker.specs.Closures.{AreLetters, arc_name, bottom_arc, closure_parts, is_bottom}
use Rattle.braid_maker.specs.Bottoms.{HasBottom, IsLeastBottom, bottom_name}
use Rattle.braid_maker.proofs.Accepted.{ArePaired-closure}
use Rattle.braid_maker.proofs.Names.{Named-is, position, greater}
use Rattle.braid_maker.proofs.Nearest.{Last-is, found, none}

-- the arc above a crossing that is passed at a position tells the position
above-is : (left : ℕ → ℕ) (q x : ℕ) → touches left q x ≡ true
    → ((q ≡ left x) × (arc_above left q x ≡ 2 * x + 1)) ⊎ ((q ≡ left x + 1) × (arc_above left q x ≡ 2 * x + 2))
above-is left q x touched = elim (cases_Bool (nat_eq (left x) q)) [
  | inl here ↦ inl (sym (eqb-true (left x) q here), ap (λ b. if b then 2 * x + 1 else 2 * x + 2) here)
  | inr away ↦
      inr (
        sym (eqb-true (left x + 1) q (sym (ap (λ b. b || nat_eq (left x + 1) q) away) ∙ touched)),
        ap (λ b. if b then 2 * x + 1 else 2 * x + 2) away,
      )
]

-- the arc through a bottom leaves a crossing that is passed there
record IsAbove (n : ℕ) (left : ℕ → ℕ) (q x : ℕ) : Type 0 where
  below : x < n
  touched : touches left q x ≡ true
  arc : bottom_arc n left q ≡ arc_above left q x

bottom-above : (n : ℕ) (left : ℕ → ℕ) (q : ℕ) → list_any (touches left q) (range_with_len 0 n) ≡ true → (x : ℕ) × IsAbove n left q x
bottom-above n left q passed = elim (Last-is (touches left q) n) [
  | found x below passes last is ↦
      (x, record { below = below; touched = passes; arc = ap (λ o. arc_above left q (unwrap_or o 0)) is })
  | none all is ↦
      absurd (both_ways (list_any (touches left q) (range_with_len 0 n)) (list_any-below_none (touches left q) n all) passed)
]

bottoms-apart : (n : ℕ) (left : ℕ → ℕ) (p q : ℕ) → list_any (touches left p) (range_with_len 0 n) ≡ true
    → list_any (touches left q) (range_with_len 0 n) ≡ true → bottom_arc n left p ≡ bottom_arc n left q → p ≡ q
bottoms-apart n left p q p_passed q_passed same =
    let x = bottom-above n left p p_passed in
    let y = bottom-above n left q q_passed in
    elim (above-is left p x.0 x.1.touched) [
      | inl one ↦ elim (above-is left q y.0 y.1.touched) [
        | inl other ↦
            let at : x.0 ≡ y.0 = omega (arith, same, x.1.arc, y.1.arc, one.1, other.1) in one.0 ∙ ap left at ∙ sym other.0
        | inr other ↦ absurd (omega (arith, same, x.1.arc, y.1.arc, one.1, other.1))
      ]
      | inr one ↦ elim (above-is left q y.0 y.1.touched) [
        | inl other ↦ absurd (omega (arith, same, x.1.arc, y.1.arc, one.1, other.1))
        | inr other ↦
            let at : x.0 ≡ y.0 = omega (arith, same, x.1.arc, y.1.arc, one.1, other.1) in one.0 ∙ ap (λ k. left k + 1) at ∙ sym other.0
      ]
    ]

is-bottom : (n : ℕ) (left : ℕ → ℕ) (q : ℕ) → list_any (touches left q) (range_with_len 0 n) ≡ true → is_bottom n left (bottom_arc n left q) q ≡ true
is-bottom n left q passed = two passed (eq-eqb (bottom_arc n left q) (bottom_arc n left q) refl)
  where
    two : {x y : Bool} → x ≡ true → y ≡ true → (x && y) ≡ true
    two first_is second_is = cc

-- the arc through the bottom of a position has that position as its name
bottom-named : (n : ℕ) (left : ℕ → ℕ) (strands q : ℕ) → 1 ≤ q → q ≤ strands → list_any (touches left q) (range_with_len 0 n) ≡ true
    → arc_name n left strands (bottom_arc n left q) ≡ q
bottom-named n left strands q positive within passed = elim (Search-is (is_bottom n left (bottom_arc n left q)) 1 strands) [
  | some p from below passes is ↦
      let both = and_parts (list_any (touches left p) (range_with_len 0 n)) (nat_eq (bottom_arc n left p) (bottom_arc n left q)) passes in
      ap (λ o. unwrap_or o (strands + bottom_arc n left q)) is
      ∙ bottoms-apart n left p q both.0 passed (eqb-true (bottom_arc n left p) (bottom_arc n left q) both.1)
  | missing fails is ↦
      absurd
      (both_ways (is_bottom n left (bottom_arc n left q) q) (fails q positive (omega (arith, within))) (is-bottom n left q passed))
]

-- a name is low where it is that of an arc through a bottom
record IsLow (n : ℕ) (left : ℕ → ℕ) (strands name : ℕ) : Type 0 where
  positive : 1 ≤ name
  within : name ≤ strands
  passed : list_any (touches left name) (range_with_len 0 n) ≡ true

low-named : (n : ℕ) (left : ℕ → ℕ) (strands arc : ℕ) → 1 ≤ arc → arc_name n left strands arc ≤ strands
    → IsLow n left strands (arc_name n left strands arc)
low-named n left strands arc positive low = elim (Search-is (is_bottom n left arc) 1 strands) [
  | some q from below passes is ↦
      let named : arc_name n left strands arc ≡ q = ap (λ o. unwrap_or o (strands + arc)) is in
      let both = and_parts (list_any (touches left q) (range_with_len 0 n)) (nat_eq (bottom_arc n left q) arc) passes in
      record {
        positive = omega (arith, named, from);
        within = low;
        passed = ap (λ p. list_any (touches left p) (range_with_len 0 n)) named ∙ both.0;
      }
  | missing fails is ↦
      let named : arc_name n left strands arc ≡ strands + arc = ap (λ o. unwrap_or o (strands + arc)) is in
      absurd (omega (arith, named, positive, low))
]

-- a pass that enters on a name that is not low leaves on a low one or on a greater one
record Rises (n : ℕ) (left : ℕ → ℕ) (strands : ℕ) (pass : Pass) : Type 0 where
  rises : strands < pass.enters → (pass.leaves ≤ strands) ⊎ (pass.enters < pass.leaves)
  low : pass.leaves ≤ strands → IsLow n left strands pass.leaves

rises-at : (n : ℕ) (left : ℕ → ℕ) (strands q k up : ℕ) → k < n → 1 ≤ q → q ≤ strands → touches left q k ≡ true → 2 * k + 1 ≤ up
    → strands < arc_name n left strands (arc_below n left q k)
    → (arc_name n left strands up ≤ strands) ⊎ (arc_name n left strands (arc_below n left q k) < arc_name n left strands up)
rises-at n left strands q k up below positive within touched high above = elim (Last-is (touches left q) k) [
  | found p p_below passes last is ↦
      let arc_is : arc_below n left q k ≡ arc_above left q p =
      ap (λ o. arc_above left q (unwrap_or (option_or o (last_below (touches left q) n)) 0)) is in
      let small : arc_above left q p ≤ 2 * p + 2 = elim (above-is left q p passes) [
        | inl one ↦ omega (arith, one.1)
        | inr other ↦ omega (arith, other.1)
      ] in
      elim (Named-is n left strands (arc_below n left q k)) [
        | position r few at named ↦ absurd (omega (arith, named, few, above))
        | greater named ↦ elim (Named-is n left strands up) [
          | position r few at up_named ↦ inl (omega (arith, up_named, few))
          | greater up_named ↦ inr (omega (arith, named, up_named, arc_is, small, p_below, high))
        ]
      ]
  | none all is ↦
      let arc_is : arc_below n left q k ≡ bottom_arc n left q =
      ap (λ o. arc_above left q (unwrap_or (option_or o (last_below (touches left q) n)) 0)) is in
      let passed = list_any-at (touches left q) 0 n k (omega arith) (omega (arith, below)) touched in
      let named = ap (arc_name n left strands) arc_is ∙ bottom-named n left strands q positive within passed in
      absurd (omega (arith, named, within, above))
]

-- the four arcs at a crossing
pass-rises : (n : ℕ) (left : ℕ → ℕ) (strands : ℕ) (label : ℤ) (q k up : ℕ) → k < n → 1 ≤ q → q ≤ strands → touches left q k ≡ true → 2 * k + 1 ≤ up
    → (let pass : Pass = record { label = label; enters = arc_name n left strands (arc_below n left q k); leaves = arc_name n left strands up } in Rises n left strands pass)
pass-rises n left strands label q k up below positive within touched high = record {
  rises = rises-at n left strands q k up below positive within touched high;
  low = low-named n left strands up (omega (arith, high));
}

here : (x : ℕ) → (nat_eq x x || nat_eq (x + 1) x) ≡ true
here x = grind (arith, nat_tests)

right : (x : ℕ) → (nat_eq x (x + 1) || nat_eq (x + 1) (x + 1)) ≡ true
right x = grind (arith, nat_tests)

passes-rise : (n : ℕ) (left : ℕ → ℕ) (strands k : ℕ) (b : Bool) → k < n → 1 ≤ left k → left k < strands
    → (let lower_left = arc_below n left (left k) k in let lower_right = arc_below n left (left k + 1) k in
    let slots = renamed_crossing (arc_name n left strands)
    (if b then lower_right ∷ (2 * k + 2) ∷ (2 * k + 1) ∷ lower_left ∷ [] else lower_left ∷ lower_right ∷ (2 * k + 2) ∷ (2 * k + 1) ∷ []) in
    AllByRecursion (Rises n left strands) (under_pass slots k ∷ over_pass slots b k ∷ []))
passes-rise n left strands k true below positive within = (
  pass-rises n left strands _ (left k + 1) k (2 * k + 1) below (omega arith) (omega (arith, within)) (right (left k)) (omega arith),
  (pass-rises n left strands _ (left k) k (2 * k + 2) below positive (omega (arith, within)) (here (left k)) (omega arith), tt),
)
passes-rise n left strands k false below positive within = (
  pass-rises n left strands _ (left k) k (2 * k + 2) below positive (omega (arith, within)) (here (left k)) (omega arith),
  (pass-rises n left strands _ (left k + 1) k (2 * k + 1) below (omega arith) (omega (arith, within)) (right (left k)) (omega arith), tt),
)

all-rise : (strands : ℕ) (letters : List ℤ) → AreLetters strands letters
    → AllByRecursion (Rises (length letters) (left_of letters) strands) (passes_through (closure_parts strands letters))
all-rise strands letters are =
    let n = length letters in
    let left = left_of letters in
    let over = lower_left_is_over letters in
    let parts : Parts = closure_parts strands letters in
    let crossings = closed_crossings (length letters) (left_of letters) (lower_left_is_over letters) in
    let size : length crossings ≡ length letters =
    length-map-range_with_len (crossing_of_letter (length letters) (left_of letters) (lower_left_is_over letters)) 0 (length letters) in
    let all_size : length parts.crossings ≡ length letters = length-map crossings (renamed_crossing (arc_name n left strands)) ∙ size in
    All-flat_map_range (Rises (length letters) (left_of letters) strands) (passes_at parts) 0 (length parts.crossings)
    (λ k from below.
    let k_below : k < length letters = omega (arith, below, all_size) in
    let slots : slots_in parts.crossings k ≡ renamed_crossing (arc_name n left strands) (crossing_of_letter n left over k) =
    get_or-map (renamed_crossing (arc_name n left strands)) crossings k [] [] (omega (arith, k_below, size))
    ∙ ap (renamed_crossing (arc_name n left strands)) (get_or-map-range_with_len (crossing_of_letter n left over) 0 n k k [] k_below (omega arith)) in
    let sign : is_positive_at parts.positive k ≡ over k = get_or-map-range_with_len over 0 n k k false k_below (omega arith) in
    let bounds = are k k_below in
    subst (λ (s : List ℕ). AllByRecursion (Rises n left strands) (under_pass s k ∷ over_pass s (is_positive_at parts.positive k) k ∷ [])) (sym slots)
    (subst
    (λ (b : Bool). AllByRecursion (Rises n left strands)
    (under_pass (renamed_crossing (arc_name n left strands) (crossing_of_letter n left over k)) k
    ∷ over_pass (renamed_crossing (arc_name n left strands) (crossing_of_letter n left over k)) b k ∷ []))
    (sym sign) (passes-rise n left strands k (over k) k_below bounds.0 bounds.1)))

-- a name of a component is one of all
component-in : (components : List (List ℕ)) (at place : ℕ) → at < length components → place < length (slice_index_or components at [])
    → IsIn (name_in_component components at place) (all_of components)
component-in [] at place below place_below = absurd (omega (arith, below))
component-in (names ∷ more) zero place below place_below =
    IsIn-left (slice_index names place) names (all_of more) (IsIn-get names place place_below)
component-in (names ∷ more) (suc at) place below place_below =
    IsIn-right (name_in_component more at place) names (all_of more) (component-in more at place (omega (arith, below)) place_below)

pub bottom_name-is : (strands : ℕ) (letters : List ℤ) (q : ℕ) → HasBottom strands letters q → bottom_name strands letters q ≡ q
bottom_name-is strands letters q has =
    bottom-named (length letters) (left_of letters) strands q has.positive has.within
    (not-false (list_any (touches (left_of letters) q) (range_with_len 0 (length letters))) has.crossed)

pub least-bottom : (strands : ℕ) (letters : List ℤ) (at : ℕ) → AreLetters strands letters
    → at < length (named_components (passes_through (closure_parts strands letters)))
    → IsLeastBottom strands letters (slice_index_or (named_components (passes_through (closure_parts strands letters))) at [])
    (name_in_component (named_components (passes_through (closure_parts strands letters))) at 0)
least-bottom strands letters at are below =
    let parts : Parts = closure_parts strands letters in
    let paired = ArePaired-closure strands letters in
    let passes = passes_through parts in
    let components = named_components passes in
    let names = slice_index_or components at [] in
    let ordered = AreOrdered-components parts paired in
    let some_names = ordered.some at below in
    let end = length names - 1 in
    let end_below : length names - 1 < length names = omega (arith, some_names) in
    let first = name_in_component components at 0 in
    let last = name_in_component components at end in
    let head = (components-are parts paired).named last (component-in components at end below end_below) in
    let pass = entering passes last in
    let rises = entering-holds parts paired (Rises (length letters) (left_of letters) strands) last (all-rise strands letters are) head in
    let enters = entering-enters parts paired last head in
    let round : follows passes last ≡ first = ordered.round at end below (omega (arith, some_names)) in
    let before = ordered.least at end below end_below in
    let low : first ≤ strands = elim (le_or first strands) [
      | inl is ↦ is
      | inr high ↦ elim (rises.rises (omega (arith, enters, before, high))) [
        | inl is ↦ omega (arith, is, round)
        | inr up ↦ absurd (omega (arith, up, enters, round, before))
      ]
    ] in
    let is_low : IsLow (length letters) (left_of letters) strands first =
    subst (IsLow (length letters) (left_of letters) strands) round (rises.low (omega (arith, low, round))) in
    let has : HasBottom strands letters first = record { positive = is_low.positive; within = is_low.within; crossed = ap not is_low.passed } in
    record {
      has = has;
      passed = ap (is_in names) (bottom_name-is strands letters first has) ∙ is_in-true first names (IsIn-get names 0 (omega (arith, some_names)));
      least = λ other other_has other_in.
          let found_at = get-IsIn other names
          (true-is_in other names (ap (is_in names) (sym (bottom_name-is strands letters other other_has)) ∙ other_in)) in
          omega (arith, ordered.least at found_at.0 below found_at.1, found_at.2);
    }
  where
    le_or : (x y : ℕ) → (x ≤ y) ⊎ (y < x)
    le_or x y = grind arith
