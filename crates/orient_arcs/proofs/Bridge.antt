-- The renumbered code is the code of the labels of its components.
--
-- Here two descriptions meet: renumbered parts, by names and their order, and a code as components of labels (code_passes). The components
-- of the parts have labels (Labels); their passes are those of the names, under new numbers, so that the renumbered crossings are the
-- crossings of these labels with the signs of the parts. What code_passes says of such codes then holds: they are directed, with these
-- signs.
use Rattle.std.proofs.lemmas.Bool.Decides.{nat_tests}
use Rattle.std.proofs.Common.{◌≡◌, ◌≢◌, ℕ, zero, suc, inl, inr, ◌+◌, ◌-◌, ◌*◌, ◌<◌, ◌∙◌, List, [], ◌∷◌, length, map, get_or, refl, sym, ap, ap₂, subst, arith, Bool, true, false}
use Rattle.std.specs.Prelude.{if◌then◌else◌, None, slice_index_or, ℤ, pos, neg_ℤ, MatchBool}
use Rattle.std.specs.List.{range_with_len, AllByRecursion}
use Rattle.std.specs.Ordering.{int_eq}
use Rattle.std.proofs.lemmas.List.{length-map, get_or-map}
use Rattle.std.proofs.lemmas.List.FromFn.{get_or-map-range_with_len}
use Rattle.kh_types.specs.Code.{arc_in, slots_of, IsArc, IsCrossing}
use Rattle.kh_types.specs.Components.{next}
use Rattle.kh_types.specs.Directions.{is_positive}
use Rattle.kh_types.specs.Accepted.{IsDirected}
use Rattle.code_passes.specs.Labels.{listed_number, bad_label}
use Rattle.code_passes.specs.Passes as gauss
use Rattle.code_passes.specs.Passes.{Pass, all_passes, slots_between, all_labels, crossings_in, crossings_of}
use Rattle.code_passes.proofs.CrossingPasses as passing
use Rattle.code_passes.proofs.CrossingPasses.{under-holds, over-holds, label-under, label-over}
use Rattle.code_passes.proofs.TextComponents.{next-passes}
use Rattle.code_passes.proofs.DirectedText.{IsDirected-crossings}
use Rattle.code_passes.proofs.OverPasses.{GoodText}
use Rattle.code_passes.proofs.TextSigns.{is_positive-listed}
use Rattle.code_passes.specs.Parts.{Parts, ArePaired, passes_through, slots_in, is_positive_at, under_pass, over_pass}
use Rattle.orient_arcs.specs.Renumbered.{entering, follows, label_entered, bound_of, all_of, named_components, order_of, number_in, renamed_crossing, renumber}
use Rattle.orient_arcs.proofs.Members.{IsIn, AreDistinct, length-among, position-get, get-IsIn}
use Rattle.orient_arcs.proofs.AllComponents.{AreSoFar, AreSoFar-fold}
use Rattle.orient_arcs.proofs.PairedPasses.{heads_of, heads-distinct, length-heads, AreNext-passes, label-within, label-once, entering-at, heads-at}
use Rattle.orient_arcs.proofs.Labels.{IsIn-order, order-IsIn, AreDistinct-order, IsNumbered, all-numbered, labels-all, no-bad_label}

-- names are below the bound
pub below-bound : (passes : List Pass) (x : ℕ) → IsIn x (map (λ (pass : Pass). pass.enters) passes) → x < bound_of passes
below-bound [] x is = absurd is
below-bound (p ∷ passes) x (inl same) = omega (arith, same)
below-bound (p ∷ passes) x (inr later) = let below = below-bound passes x later in omega (arith, below)

pub map-as_range : {X : Type 0} (f : List ℕ → X) (xs : List (List ℕ)) (a : ℕ) (g : ℕ → X)
    → ((k : ℕ) → k < length xs → g (a + k) ≡ f (slice_index_or xs k [])) → map g (range_with_len a (length xs)) ≡ map f xs
map-as_range f [] a g same = refl
map-as_range f (x ∷ xs) a g same =
    let e : a + 0 ≡ a = omega arith in
    ap₂ (λ y ys. y ∷ ys) (ap g (sym e) ∙ same 0 (omega arith))
    (map-as_range f xs (a + 1) g
    (λ k below. let e : a + 1 + k ≡ a + suc k = omega arith in ap g e ∙ same (suc k) (omega (arith, below))))

pub renamed-slot : (number : ℕ → ℕ) (slots : List ℕ) (slot : ℕ) → slot < 4
    → arc_in (renamed_crossing number slots) slot ≡ number (arc_in slots slot)
renamed-slot number slots slot below = grind (arith, nat_tests)

pub slot-renumbered : (parts : Parts) (crossing slot : ℕ) → IsCrossing parts.crossings crossing → slot < 4
    → arc_in (slots_of (renumber parts).crossings crossing) slot
    ≡ number_in (order_of (passes_through parts)) (arc_in (slots_of parts.crossings crossing) slot)
slot-renumbered parts crossing slot is slot_below =
    ap (λ (new : List ℕ). arc_in new slot)
    (get_or-map (renamed_crossing (number_in (order_of (passes_through parts)))) parts.crossings (crossing - 1) [] []
    (omega (arith, is.positive, is.within)))
    ∙ renamed-slot (number_in (order_of (passes_through parts))) (slots_of parts.crossings crossing) slot slot_below

module _ (parts : Parts) (paired : ArePaired parts) where
  abbrev passes : List Pass
  passes = passes_through parts

  abbrev label : ℕ → ℤ
  label = label_entered passes

  abbrev components : List (List ℕ)
  components = named_components passes

  abbrev order : List ℕ
  order = order_of passes

  pub components-are : AreSoFar (follows passes) (map (λ (pass : Pass). pass.enters) passes) (0 + bound_of passes) components
  components-are = grind (arith, nat_tests, AreSoFar-fold, AreNext-passes)

  pub all-heads : (x : ℕ) → IsIn x (heads_of parts paired) → IsIn x (all_of components)
  all-heads x is = components-are.covers x (omega (arith, below-bound passes x is)) is

  pub order-heads : (x : ℕ) → IsIn x order → IsIn x (heads_of parts paired)
  order-heads x is = components-are.named x (order-IsIn label components x is)

  pub heads-order : (x : ℕ) → IsIn x (heads_of parts paired) → IsIn x order
  heads-order x is = IsIn-order label components x (all-heads x is)

  pub distinct-order : AreDistinct order
  distinct-order = AreDistinct-order label components components-are.distinct

  pub length-all : length (all_of components) ≡ 2 * length parts.crossings
  length-all =
      let few = length-among (all_of components) (heads_of parts paired) components-are.distinct components-are.named in
      let many = length-among (heads_of parts paired) (all_of components) (heads-distinct parts paired) all-heads in
      omega (arith, few, many, length-heads parts paired)

  pub length-order : length order ≡ 2 * length parts.crossings
  length-order =
      let few = length-among order (heads_of parts paired) distinct-order order-heads in
      let many = length-among (heads_of parts paired) order (heads-distinct parts paired) heads-order in
      omega (arith, few, many, length-heads parts paired)

  -- the labels of the components, and the signs
  abbrev pub groups_of : List (List ℤ)
  groups_of = map (map label) components

  sign_at : ℕ → ℤ
  sign_at place = if is_positive_at parts.positive place then pos 1 else neg_ℤ (pos 1)

  pub signs_of : List ℤ
  signs_of = map sign_at (range_with_len 0 (length parts.crossings))

  pub sign-is : (place : ℕ) → place < length parts.crossings
      → int_eq (listed_number signs_of place) (pos 1) ≡ is_positive_at parts.positive place
  unfolding signs_of sign_at
  sign-is place below =
      ap (λ s. int_eq s (pos 1))
      (get_or-map-range_with_len sign_at 0 (length parts.crossings) place place (pos 0) below (omega arith))
      ∙ by (is_positive_at parts.positive place)
    where
      by : (b : Bool) → int_eq (if b then pos 1 else neg_ℤ (pos 1)) (pos 1) ≡ b
      by b = grind (arith, nat_tests)

  pub no-bad : bad_label (all_labels groups_of) ≡ None
  no-bad =
      ap bad_label (labels-all label components)
      ∙ no-bad_label label (all_of components)
      (λ x y x_is y_is same. label-once parts paired x y (components-are.named x x_is) (components-are.named y y_is) same)
      (λ x is.
      let within = label-within parts paired x (components-are.named x is) in
      (within.0, omega (arith, within.1, length-all)))
      components-are.distinct

  pub crossings-in : crossings_in groups_of ≡ length parts.crossings
  crossings-in =
      let size : length (all_labels groups_of) ≡ length (all_of components) =
      ap length (labels-all label components) ∙ length-map (all_of components) label in
      omega (arith, size, length-all)

  numbered : AllByRecursion (IsNumbered label (follows passes) order) (all_passes 1 groups_of)
  numbered = all-numbered label (follows passes) order distinct-order components [] refl components-are.rounds

  -- the pass of a label is that of its name
  numbered-is : (pass own : Pass) → IsNumbered label (follows passes) order pass → pass.label ≡ own.label
      → entering passes own.enters ≡ own → IsIn own.enters (heads_of parts paired)
      → (pass.enters ≡ number_in order own.enters) × (pass.leaves ≡ number_in order own.leaves)
  numbered-is pass own is same entering_own own_is = grind (arith, nat_tests, label-once, order-heads)

  abbrev own_under : ℕ → Pass
  own_under place = under_pass (slots_in parts.crossings place) place

  abbrev own_over : ℕ → Pass
  own_over place = over_pass (slots_in parts.crossings place) (is_positive_at parts.positive place) place

  pub under-is : (place : ℕ) → place < length parts.crossings
      → ((passing.under_pass groups_of place).enters ≡ number_in order (own_under place).enters)
      × ((passing.under_pass groups_of place).leaves ≡ number_in order (own_under place).leaves)
  under-is place below =
      let within : place < crossings_in groups_of = omega (arith, below, crossings-in) in
      numbered-is (passing.under_pass groups_of place) (own_under place)
      (under-holds groups_of no-bad (IsNumbered label (follows passes) order) place within numbered)
      (label-under groups_of no-bad place within) (entering-at parts paired place below).0 (heads-at parts paired place below).0

  pub over-is : (place : ℕ) → place < length parts.crossings
      → ((passing.over_pass groups_of place).enters ≡ number_in order (own_over place).enters)
      × ((passing.over_pass groups_of place).leaves ≡ number_in order (own_over place).leaves)
  over-is place below =
      let within : place < crossings_in groups_of = omega (arith, below, crossings-in) in
      numbered-is (passing.over_pass groups_of place) (own_over place)
      (over-holds groups_of no-bad (IsNumbered label (follows passes) order) place within numbered)
      (label-over groups_of no-bad place within) (entering-at parts paired place below).1.0 (heads-at parts paired place below).1.0

  slots-are : (place : ℕ) → place < length parts.crossings
      → gauss.slots_by_passes (all_passes 1 groups_of) signs_of place ≡ renamed_crossing (number_in order) (slots_in parts.crossings place)
  slots-are place below =
      let under = passing.under_pass groups_of place in
      let over = passing.over_pass groups_of place in
      let slots = slots_in parts.crossings place in
      by (is_positive_at parts.positive place) (int_eq (listed_number signs_of place) (pos 1)) (sign-is place below) under over slots
      (under-is place below) (over-is place below).0 (over-is place below).1
    where
      by : (b test : Bool) → test ≡ b → (under over : Pass) (slots : List ℕ)
          → (under.enters ≡ number_in (order_of (passes_through parts)) (arc_in slots 0))
          × (under.leaves ≡ number_in (order_of (passes_through parts)) (arc_in slots 2))
          → over.enters ≡ number_in (order_of (passes_through parts)) (arc_in slots (if b then 3 else 1))
          → over.leaves ≡ number_in (order_of (passes_through parts)) (arc_in slots (if b then 1 else 3))
          → (if test then under.enters ∷ over.leaves ∷ under.leaves ∷ over.enters ∷ []
          else under.enters ∷ over.enters ∷ under.leaves ∷ over.leaves ∷ [])
          ≡ renamed_crossing (number_in (order_of (passes_through parts))) slots
      by true test is under over slots at_under enters leaves = grind (arith, nat_tests)
      by false test is under over slots at_under enters leaves = grind (arith, nat_tests)

  pub crossings-are : crossings_of groups_of signs_of ≡ (renumber parts).crossings
  crossings-are = grind (arith, nat_tests, signs_of, crossings-in, map-as_range, slots-are)

  pub IsDirected-renumbered : IsDirected (renumber parts).crossings
  IsDirected-renumbered = grind (arith, nat_tests, crossings-are, IsDirected-crossings, signs_of, no-bad)

  -- a crossing under its new numbers
  pub length-renumbered : length (renumber parts).crossings ≡ length parts.crossings
  length-renumbered = length-map parts.crossings (renamed_crossing (number_in order))

  renamed-at : (place : ℕ) → place < length parts.crossings
      → slice_index_or (renumber parts).crossings place [] ≡ renamed_crossing (number_in order) (slots_in parts.crossings place)
  renamed-at place below = get_or-map (renamed_crossing (number_in order)) parts.crossings place [] [] below

  -- an over pass goes on to the next
  over-next : (place : ℕ) → place < length parts.crossings
      → number_in order (own_over place).leaves ≡ next (renumber parts).crossings (number_in order (own_over place).enters)
  over-next place below =
      let over = passing.over_pass groups_of place in
      let is = over-is place below in
      sym is.1
      ∙ over-holds groups_of no-bad (λ (pass : Pass). pass.leaves ≡ next (crossings_of groups_of signs_of) pass.enters) place
      (omega (arith, below, crossings-in)) (next-passes groups_of signs_of no-bad)
      ∙ ap (λ cs. next cs over.enters) crossings-are ∙ ap (next (renumber parts).crossings) is.0

  pub over-direction : (crossing : ℕ) → IsCrossing parts.crossings crossing
      → MatchBool (is_positive_at parts.positive (crossing - 1))
      (arc_in (slots_of (renumber parts).crossings crossing) 1
      ≡ next (renumber parts).crossings (arc_in (slots_of (renumber parts).crossings crossing) 3))
      (arc_in (slots_of (renumber parts).crossings crossing) 3
      ≡ next (renumber parts).crossings (arc_in (slots_of (renumber parts).crossings crossing) 1))
  over-direction crossing is =
      let place = crossing - 1 in
      let below : place < length parts.crossings = omega (arith, is.positive, is.within) in
      let slots = slots_in parts.crossings place in
      subst (λ (new : List ℕ). MatchBool (is_positive_at parts.positive place)
      (arc_in new 1 ≡ next (renumber parts).crossings (arc_in new 3))
      (arc_in new 3 ≡ next (renumber parts).crossings (arc_in new 1))) (sym (renamed-at place below))
      (by (is_positive_at parts.positive place) slots (over-next place below))
    where
      by : (b : Bool) (slots : List ℕ)
          → number_in (order_of (passes_through parts)) (arc_in slots (if b then 1 else 3))
          ≡ next (renumber parts).crossings (number_in (order_of (passes_through parts)) (arc_in slots (if b then 3 else 1)))
          → MatchBool b
          (number_in (order_of (passes_through parts)) (arc_in slots 1)
          ≡ next (renumber parts).crossings (number_in (order_of (passes_through parts)) (arc_in slots 3)))
          (number_in (order_of (passes_through parts)) (arc_in slots 3)
          ≡ next (renumber parts).crossings (number_in (order_of (passes_through parts)) (arc_in slots 1)))
      by true slots same = same
      by false slots same = same

  -- numbers tell names apart
  pub number-once : (x y : ℕ) → IsIn x (heads_of parts paired) → IsIn y (heads_of parts paired)
      → number_in order x ≡ number_in order y → x ≡ y
  number-once x y x_is y_is same =
      let at_x = get-IsIn x order (heads-order x x_is) in
      let at_y = get-IsIn y order (heads-order y y_is) in
      let place_x : number_in order x ≡ at_x.0 + 1 =
      ap (number_in order) (sym at_x.2) ∙ ap (λ k. k + 1) (position-get order at_x.0 distinct-order at_x.1) in
      let place_y : number_in order y ≡ at_y.0 + 1 =
      ap (number_in order) (sym at_y.2) ∙ ap (λ k. k + 1) (position-get order at_y.0 distinct-order at_y.1) in
      let places : at_x.0 ≡ at_y.0 = omega (arith, same, place_x, place_y) in
      sym at_x.2 ∙ ap (λ k. get_or order k 0) places ∙ at_y.2

  pub number-arc : (x : ℕ) → IsIn x (heads_of parts paired) → IsArc parts.crossings (number_in order x)
  number-arc x is =
      let at = get-IsIn x order (heads-order x is) in
      let place : number_in order x ≡ at.0 + 1 =
      ap (number_in order) (sym at.2) ∙ ap (λ k. k + 1) (position-get order at.0 distinct-order at.1) in
      record { positive = omega (arith, place); within = omega (arith, place, at.1, length-order) }

  -- each name at a slot is a head
  pub slot-head : (place slot : ℕ) → place < length parts.crossings → slot < 4
      → IsIn (arc_in (slots_in parts.crossings place) slot) (heads_of parts paired)
  slot-head place slot below slot_below =
      let heads = heads-at parts paired place below in
      let closed = λ (pass : Pass) (own : entering passes pass.enters ≡ pass) (is : IsIn pass.enters (heads_of parts paired)).
      subst (λ (x : ℕ). IsIn x (heads_of parts paired)) (ap (λ (p : Pass). p.leaves) own)
      ((AreNext-passes parts paired).closed pass.enters is) in
      let own = entering-at parts paired place below in
      by (is_positive_at parts.positive place) (slots_in parts.crossings place) slot slot_below heads.0
      (closed (own_under place) own.0 heads.0) heads.1.0 (closed (own_over place) own.1.0 heads.1.0)
    where
      by : (b : Bool) (slots : List ℕ) (s : ℕ) → s < 4 → IsIn (arc_in slots 0) (heads_of parts paired)
          → IsIn (arc_in slots 2) (heads_of parts paired) → IsIn (arc_in slots (if b then 3 else 1)) (heads_of parts paired)
          → IsIn (arc_in slots (if b then 1 else 3)) (heads_of parts paired) → IsIn (arc_in slots s) (heads_of parts paired)
      by b slots zero s_below zeroth second enters leaves = zeroth
      by true slots (suc zero) s_below zeroth second enters leaves = leaves
      by false slots (suc zero) s_below zeroth second enters leaves = enters
      by b slots (suc (suc zero)) s_below zeroth second enters leaves = second
      by true slots (suc (suc (suc zero))) s_below zeroth second enters leaves = enters
      by false slots (suc (suc (suc zero))) s_below zeroth second enters leaves = leaves
      by b slots (suc (suc (suc (suc s)))) s_below zeroth second enters leaves = absurd (omega (arith, s_below))

  -- a crossing whose over pass goes from one name to another keeps its sign
  pub sign-kept : (crossing : ℕ) → IsCrossing parts.crossings crossing
      → arc_in (slots_of parts.crossings crossing) 1 ≢ arc_in (slots_of parts.crossings crossing) 3
      → is_positive (renumber parts).crossings crossing ≡ is_positive_at parts.positive (crossing - 1)
  sign-kept crossing is differ =
      let place = crossing - 1 in
      let below : place < length parts.crossings = omega (arith, is.positive, is.within) in
      let heads = heads-at parts paired place below in
      let own = entering-at parts paired place below in
      let over = passing.over_pass groups_of place in
      let text : GoodText = record { groups = groups_of; signs = signs_of; none = no-bad } in
      let is_here : IsCrossing (crossings_of groups_of signs_of) crossing =
      subst (λ (cs : List (List ℕ)). IsCrossing cs crossing) (sym crossings-are)
      (record { positive = is.positive; within = omega (arith, is.within, length-renumbered) }) in
      let moves : next (crossings_of groups_of signs_of) over.enters ≢ over.enters =
      λ same.
      let leaves : over.leaves ≡ over.enters =
      over-holds groups_of no-bad (λ (pass : Pass). pass.leaves ≡ next (crossings_of groups_of signs_of) pass.enters) place
      (omega (arith, below, crossings-in)) (next-passes groups_of signs_of no-bad) ∙ same in
      let names = number-once (own_over place).leaves (own_over place).enters
      (subst (λ (x : ℕ). IsIn x (heads_of parts paired)) (ap (λ (p : Pass). p.leaves) own.1.0)
      ((AreNext-passes parts paired).closed (own_over place).enters heads.1.0))
      heads.1.0 (sym (over-is place below).1 ∙ leaves ∙ (over-is place below).0) in
      by (is_positive_at parts.positive place) (slots_in parts.crossings place) differ names in
      sym (ap (λ cs. is_positive cs crossing) crossings-are)
      ∙ is_positive-listed text crossing is_here moves ∙ sign-is place below
    where
      by : (b : Bool) (slots : List ℕ) → arc_in slots 1 ≢ arc_in slots 3
          → arc_in slots (if b then 1 else 3) ≡ arc_in slots (if b then 3 else 1) → ⊥
      by true slots differ same = differ same
      by false slots differ same = differ (sym same)
