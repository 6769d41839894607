-- The crossings of the code of some components and signs: their slots, and the pairs of arcs that their passes join.
use Rattle.std.proofs.lemmas.Bool.Decides.{nat_tests}
use Rattle.std.proofs.Common.{◌≡◌, ℕ, zero, suc, ◌⊎◌, ◌-◌, ◌<◌, List, [], ◌∷◌, length, arith, ℤ}
use Rattle.std.specs.Prelude.{None, slice_index_or}
use Rattle.std.specs.List.{flat_map, AllByRecursion}
use Rattle.std.proofs.lemmas.List.FromFn.{length-map-range_with_len, get_or-map-range_with_len}
use Rattle.kh_types.specs.Code.{arc_in, arc_count, slots_of, IsCrossing}
use Rattle.kh_types.specs.Components.{passes_of}
use Rattle.kh_types.proofs.PassPairs.{passes-all}
use Rattle.code_passes.specs.Labels.{bad_label}
use Rattle.code_passes.specs.Passes.{Pass, all_passes, slots_between, slots_by_passes, all_labels, crossings_in, crossings_of}
use Rattle.code_passes.proofs.LabelCounts.{length-labels}
use Rattle.code_passes.proofs.CrossingPasses.{under_pass, over_pass, under-holds, over-holds, all-passes_hold}

pub length-crossings : (groups : List (List ℤ)) (signs : List ℤ) → length (crossings_of groups signs) ≡ crossings_in groups
length-crossings groups signs = length-map-range_with_len (slots_by_passes (all_passes 1 groups) signs) 0 (crossings_in groups)

-- there are as many arcs as labels
pub arc_count-crossings : (groups : List (List ℤ)) (signs : List ℤ) → bad_label (all_labels groups) ≡ None
    → arc_count (crossings_of groups signs) ≡ length (all_labels groups)
arc_count-crossings groups signs none = omega (arith, length-crossings groups signs, length-labels (all_labels groups) none)

-- the slots of a crossing, given its passes: those of the over pass are 1 and 3, in one direction or the other
pub record HasSlots (under over : Pass) (slots : List ℕ) : Type 0 where
  pub under_from : arc_in slots 0 ≡ under.enters
  pub under_to : arc_in slots 2 ≡ under.leaves
  pub over_arcs : ((arc_in slots 1 ≡ over.leaves) × (arc_in slots 3 ≡ over.enters))
      ⊎ ((arc_in slots 1 ≡ over.enters) × (arc_in slots 3 ≡ over.leaves))

HasSlots-between : (under over : Pass) (sign : ℤ) → HasSlots under over (slots_between under over sign)
HasSlots-between under over sign = grind (arith, nat_tests)

pub slots-at : (groups : List (List ℤ)) (signs : List ℤ) (place : ℕ) → place < crossings_in groups
    → slice_index_or (crossings_of groups signs) place [] ≡ slots_by_passes (all_passes 1 groups) signs place
slots-at groups signs place below = grind (arith, nat_tests, get_or-map-range_with_len)

pub HasSlots-at : (groups : List (List ℤ)) (signs : List ℤ) (place : ℕ) → place < crossings_in groups
    → HasSlots (under_pass groups place) (over_pass groups place) (slice_index_or (crossings_of groups signs) place [])
HasSlots-at groups signs place below = grind (arith, nat_tests, under_pass, over_pass, slots-at, HasSlots-between)

pub HasSlots-of : (groups : List (List ℤ)) (signs : List ℤ) (crossing : ℕ) → IsCrossing (crossings_of groups signs) crossing
    → HasSlots (under_pass groups (crossing - 1)) (over_pass groups (crossing - 1)) (slots_of (crossings_of groups signs) crossing)
HasSlots-of groups signs crossing is =
    HasSlots-at groups signs (crossing - 1) (omega (arith, is.positive, is.within, length-crossings groups signs))

-- what holds of the pairs of all crossings holds of those of each
pairs-each : (P : ℕ × ℕ → Type 0) (crossings : List (List ℕ)) → AllByRecursion P (flat_map passes_of crossings)
    → (place : ℕ) → place < length crossings → AllByRecursion P (passes_of (slice_index_or crossings place []))
pairs-each P [] all place below = absurd (omega (arith, below))
pairs-each P (slots ∷ rest) all zero below = (all.0, (all.1.0, tt))
pairs-each P (slots ∷ rest) all (suc place) below = pairs-each P rest all.1.1 place (omega (arith, below))

-- what passes have in either direction, the pairs of arcs that they join have, and the other way round
module _ (R : ℕ → ℕ → Type 0) (turns : (x y : ℕ) → R x y → R y x) where
  pairs-of_slots : (under over : Pass) (slots : List ℕ) → HasSlots under over slots → R under.enters under.leaves
      → R over.enters over.leaves → AllByRecursion (λ pair. R pair.0 pair.1) (passes_of slots)
  pairs-of_slots under over slots has at_under at_over = grind (arith, nat_tests)

  slots-of_pairs : (under over : Pass) (slots : List ℕ) → HasSlots under over slots
      → AllByRecursion (λ pair. R pair.0 pair.1) (passes_of slots) → R under.enters under.leaves × R over.enters over.leaves
  slots-of_pairs under over slots has all = grind (arith, nat_tests)

  pub pairs-of_passes : (groups : List (List ℤ)) (signs : List ℤ) → bad_label (all_labels groups) ≡ None
      → AllByRecursion (λ (pass : Pass). R pass.enters pass.leaves) (all_passes 1 groups)
      → AllByRecursion (λ pair. R pair.0 pair.1) (flat_map passes_of (crossings_of groups signs))
  pairs-of_passes groups signs none all =
      passes-all (λ pair. R pair.0 pair.1) (crossings_of groups signs)
      (λ crossing is.
      let below : crossing - 1 < crossings_in groups = omega (arith, is.positive, is.within, length-crossings groups signs) in
      pairs-of_slots (under_pass groups (crossing - 1)) (over_pass groups (crossing - 1)) (slots_of (crossings_of groups signs) crossing)
      (HasSlots-of groups signs crossing is)
      (under-holds groups none (λ (pass : Pass). R pass.enters pass.leaves) (crossing - 1) below all)
      (over-holds groups none (λ (pass : Pass). R pass.enters pass.leaves) (crossing - 1) below all))

  pub passes-of_pairs : (groups : List (List ℤ)) (signs : List ℤ) → bad_label (all_labels groups) ≡ None
      → AllByRecursion (λ pair. R pair.0 pair.1) (flat_map passes_of (crossings_of groups signs))
      → AllByRecursion (λ (pass : Pass). R pass.enters pass.leaves) (all_passes 1 groups)
  passes-of_pairs groups signs none all =
      all-passes_hold groups none (λ (pass : Pass). R pass.enters pass.leaves)
      (λ place below.
      slots-of_pairs (under_pass groups place) (over_pass groups place) (slice_index_or (crossings_of groups signs) place [])
      (HasSlots-at groups signs place below)
      (pairs-each (λ pair. R pair.0 pair.1) (crossings_of groups signs) all place (omega (arith, below, length-crossings groups signs))))
