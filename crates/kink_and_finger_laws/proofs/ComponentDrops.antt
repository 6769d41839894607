-- Where crossings are dropped, components and loops together stay.
use Rattle.std.proofs.lemmas.Bool.Decides.{nat_tests}
use Rattle.std.proofs.Common.{◌≡◌, ℕ, zero, suc, inl, inr, ◌+◌, ◌<◌, List, [], ◌∷◌, ◌++◌, ap, subst, arith, refl, Bool, not, length, map}
use Rattle.std.specs.Prelude.{slice_index}
use Rattle.std.specs.List.{flat_map, range_with_len, AllByRecursion}
use Rattle.std.proofs.lemmas.Bool.{cases_Bool}
use Rattle.std.proofs.lemmas.List.{map-append}
use Rattle.kh_types.specs.Classes.{classes_of, class_count, Respects, AreBelow}
use Rattle.kh_types.specs.Code.{Code, arc_count}
use Rattle.kh_types.specs.Components.{passes_of, component_count}
use Rattle.kh_types.specs.Darts.{HasArcsTwice}
use Rattle.kh_types.proofs.ClassCounts.{class_count-components}
use Rattle.kh_types.proofs.JoinedClasses.{classes_of-same}
use Rattle.kh_types.proofs.Lists.{AllByRecursion-append}
use Rattle.gluing_laws.specs.Glue.{renamed}
use Rattle.code_passes.specs.Parts.{slots_in}
use Rattle.kink_and_finger_laws.specs.Drops.{straight_pairs, straight_names, renamed_slots, kept_places, kept_crossings, dropped}
use Rattle.kink_and_finger_laws.specs.DropComponents.{standing_class_count, parts_component_count}
use Rattle.kink_and_finger_laws.proofs.KeptCodes.{straight-below, all-gone, gone-all}
use Rattle.kink_and_finger_laws.proofs.SmoothingPairs.{passes-low, all_first, all_second}
use Rattle.kink_and_finger_laws.proofs.StandingNames.{IsOfNames, IsOfNames-passes, classes-dropped, passes-all}

-- all passes, by places

pub passes-each : (P : ℕ × ℕ → Type 0) (crossings : List (List ℕ)) (place : ℕ) → AllByRecursion P (flat_map passes_of crossings)
    → place < length crossings → AllByRecursion P (passes_of (slots_in crossings place))
passes-each P [] place holds below = absurd (omega (arith, below))
passes-each P (slots ∷ rest) zero holds below = all_first P (passes_of slots) (flat_map passes_of rest) holds
passes-each P (slots ∷ rest) (suc place) holds below =
    passes-each P rest place (all_second P (passes_of slots) (flat_map passes_of rest) holds) (omega (arith, below))

-- those of the crossings that stay, under their names
abbrev kept_passes : List (List ℕ) → (ℕ → Bool) → List (ℕ × ℕ)
kept_passes crossings gone = flat_map (λ place. passes_of (slots_in crossings place)) (kept_places crossings gone)

passes-renamed : (crossings : List (List ℕ)) (names places : List ℕ)
    → flat_map passes_of (map (λ place. renamed_slots names (slots_in crossings place)) places)
    ≡ renamed (slice_index names) (flat_map (λ place. passes_of (slots_in crossings place)) places)
passes-renamed crossings names [] = refl
passes-renamed crossings names (place ∷ places) = grind (arith, nat_tests, map-append, passes-renamed crossings names places)

pub components-dropped : (code : Code) (gone : ℕ → Bool) (kept : ℕ → ℕ) (k : ℕ) → HasArcsTwice code.crossings
    → kept_places code.crossings gone ≡ map kept (range_with_len 0 k) → ((i : ℕ) → i < k → kept i < length code.crossings)
    → parts_component_count (arc_count code.crossings + 1) (dropped code gone) ≡ component_count code.crossings + code.loops
components-dropped code gone kept k twice places kept_below =
    let n = arc_count code.crossings + 1 in
    let straight = straight_pairs code.crossings gone in
    let stays : ℕ → Bool = λ place. not (gone place) in
    let outer_low : AreBelow (arc_count code.crossings + 1) (kept_passes code.crossings gone) =
    all-gone (λ pair. (pair.0 < arc_count code.crossings + 1) × (pair.1 < arc_count code.crossings + 1))
    (λ place. passes_of (slots_in code.crossings place)) stays 0 (length code.crossings)
    (λ place from below is. passes-low code.crossings (arc_count code.crossings + 1) place twice (omega arith) (omega (arith, below))) in
    let whole_low : AreBelow (arc_count code.crossings + 1) (flat_map passes_of code.crossings) =
    passes-all (λ pair. (pair.0 < arc_count code.crossings + 1) × (pair.1 < arc_count code.crossings + 1)) code.crossings
    (λ place below. passes-low code.crossings (arc_count code.crossings + 1) place twice (omega arith) below) in
    let renames : flat_map passes_of (kept_crossings code.crossings gone)
    ≡ renamed (slice_index (straight_names code.crossings gone)) (kept_passes code.crossings gone) =
    passes-renamed code.crossings (straight_names code.crossings gone) (kept_places code.crossings gone) in
    let counts = classes-dropped code.crossings gone kept k (kept_passes code.crossings gone) twice places kept_below outer_low
    (subst (λ (ps : List (ℕ × ℕ)). IsOfNames (kept_crossings code.crossings gone) ps) renames (IsOfNames-passes (kept_crossings code.crossings gone))) in
    let same : classes_of (arc_count code.crossings + 1) (straight_pairs code.crossings gone ++ kept_passes code.crossings gone)
    ≡ classes_of (arc_count code.crossings + 1) (flat_map passes_of code.crossings) =
    classes_of-same (arc_count code.crossings + 1) (straight ++ kept_passes code.crossings gone) (flat_map passes_of code.crossings)
    (AllByRecursion-append (λ pair. (pair.0 < arc_count code.crossings + 1) × (pair.1 < arc_count code.crossings + 1)) straight
    (kept_passes code.crossings gone) (straight-below code.crossings gone twice) outer_low) whole_low
    (λ f respects.
    passes-all (λ pair. f pair.0 ≡ f pair.1) code.crossings
    (λ place below. elim (cases_Bool (gone place)) [
      | inl away ↦
          gone-all (λ pair. f pair.0 ≡ f pair.1) (λ place. passes_of (slots_in code.crossings place)) gone 0 (length code.crossings) place
          (all_first (λ pair. f pair.0 ≡ f pair.1) straight (kept_passes code.crossings gone) respects) (omega arith) (omega (arith, below)) away
      | inr here ↦
          gone-all (λ pair. f pair.0 ≡ f pair.1) (λ place. passes_of (slots_in code.crossings place)) stays 0 (length code.crossings) place
          (all_second (λ pair. f pair.0 ≡ f pair.1) straight (kept_passes code.crossings gone) respects) (omega arith) (omega (arith, below))
          (ap not here)
    ]))
    (λ f respects.
    let each : (place : ℕ) → place < length code.crossings → Respects f (passes_of (slots_in code.crossings place)) =
    λ place below. passes-each (λ pair. f pair.0 ≡ f pair.1) code.crossings place respects below in
    AllByRecursion-append (λ pair. f pair.0 ≡ f pair.1) straight (kept_passes code.crossings gone)
    (all-gone (λ pair. f pair.0 ≡ f pair.1) (λ place. passes_of (slots_in code.crossings place)) gone 0 (length code.crossings)
    (λ place from below is. each place (omega (arith, below))))
    (all-gone (λ pair. f pair.0 ≡ f pair.1) (λ place. passes_of (slots_in code.crossings place)) stays 0 (length code.crossings)
    (λ place from below is. each place (omega (arith, below))))) in
    let components = class_count-components code.crossings whole_low in
    let new = ap (λ ps. standing_class_count (arc_count code.crossings + 1) (kept_crossings code.crossings gone) ps) renames in
    omega (arith, counts, ap class_count same, components, new)
