-- The circles of what is left where crossings are dropped are the classes of the straight pairs and the other crossings' smoothings.
use Rattle.std.proofs.lemmas.Bool.Decides.{nat_tests}
use Rattle.std.proofs.Common.{◌≡◌, ℕ, suc, ◌+◌, ◌<◌, ◌∙◌, List, [], ◌∷◌, ◌++◌, sym, ap, subst, arith, refl, Bool, cond, length, map}
use Rattle.std.specs.Prelude.{slice_index, nat_eq}
use Rattle.std.specs.List.{flat_map, range_with_len, enumerate_from}
use Rattle.std.proofs.lemmas.List.{map-append}
use Rattle.std.proofs.lemmas.List.FromFn.{get_or-map-range_with_len, length-map-range_with_len}
use Rattle.kh_types.specs.Bits.{bit}
use Rattle.kh_types.specs.Classes.{classes_of, class_count, AreBelow}
use Rattle.kh_types.specs.Code.{Code, arc_in, arc_count}
use Rattle.kh_types.specs.Circles.{smoothing_of, smoothings_of}
use Rattle.kh_types.specs.Darts.{HasArcsTwice}
use Rattle.gluing_laws.specs.Glue.{renamed}
use Rattle.code_passes.specs.Parts.{slots_in}
use Rattle.kink_and_finger_laws.specs.Drops.{straight_pairs, straight_names, renamed_slots, kept_places, kept_crossings, dropped}
use Rattle.kink_and_finger_laws.specs.DropComponents.{standing_class_count}
use Rattle.kink_and_finger_laws.specs.DropCircles.{joined_at, outer_pairs, parts_circle_count}
use Rattle.kink_and_finger_laws.proofs.SmoothingPairs.{outer-all, joined-below}
use Rattle.kink_and_finger_laws.proofs.StandingNames.{IsOfNames, IsOfNames-smoothings, classes-dropped}

-- the smoothings of the crossings that stay, under their names

smoothing-renamed : (names slots : List ℕ) (b : ℕ) → smoothing_of b (renamed_slots names slots) ≡ renamed (slice_index names) (smoothing_of b slots)
smoothing-renamed names slots b = go (nat_eq b 0) names slots
  where
    go : (t : Bool) (names slots : List ℕ)
        → cond t ((slice_index names (arc_in slots 0), slice_index names (arc_in slots 1)) ∷ (slice_index names (arc_in slots 2), slice_index names (arc_in slots 3)) ∷ [])
        ((slice_index names (arc_in slots 0), slice_index names (arc_in slots 3)) ∷ (slice_index names (arc_in slots 1), slice_index names (arc_in slots 2)) ∷ [])
        ≡ renamed (slice_index names) (cond t ((arc_in slots 0, arc_in slots 1) ∷ (arc_in slots 2, arc_in slots 3) ∷ [])
        ((arc_in slots 0, arc_in slots 3) ∷ (arc_in slots 1, arc_in slots 2) ∷ []))
    go t names slots = grind (arith, nat_tests)

smoothings-renamed : (crossings : List (List ℕ)) (names : List ℕ) (state new start : ℕ) (places : List ℕ)
    → ((i : ℕ) → i < length places → bit new (start + i) ≡ bit state (slice_index places i))
    → flat_map (λ at. smoothing_of (bit new at.0) at.1) (enumerate_from start (map (λ place. renamed_slots names (slots_in crossings place)) places))
    ≡ renamed (slice_index names) (flat_map (joined_at crossings state) places)
smoothings-renamed crossings names state new start [] same = refl
smoothings-renamed crossings names state new start (place ∷ places) same =
    let z : start ≡ start + 0 = omega arith in
    let here : bit new start ≡ bit state place = ap (bit new) z ∙ same 0 (omega arith) in
    let later = smoothings-renamed crossings names state new (start + 1) places
    (λ i below.
    let e : start + 1 + i ≡ start + suc i = omega arith in ap (bit new) e ∙ same (suc i) (omega (arith, below))) in
    ap (λ xs. xs ++ flat_map (λ at. smoothing_of (bit new at.0) at.1)
    (enumerate_from (start + 1) (map (λ place. renamed_slots names (slots_in crossings place)) places)))
    (ap (λ b. smoothing_of b (renamed_slots names (slots_in crossings place))) here
    ∙ smoothing-renamed names (slots_in crossings place) (bit state place))
    ∙ ap (λ xs. renamed (slice_index names) (joined_at crossings state place) ++ xs) later
    ∙ sym (map-append (λ (pair : ℕ × ℕ). (slice_index names pair.0, slice_index names pair.1)) (joined_at crossings state place)
    (flat_map (joined_at crossings state) places))

-- the states agree: each crossing that stays has its smoothing
abbrev pub AgreeOn : ℕ → ℕ → List ℕ → Type 0
AgreeOn state new places = (i : ℕ) → i < length places → bit new i ≡ bit state (slice_index places i)

kept-smoothings : (crossings : List (List ℕ)) (gone : ℕ → Bool) (state new : ℕ) → AgreeOn state new (kept_places crossings gone)
    → smoothings_of (kept_crossings crossings gone) new
    ≡ renamed (slice_index (straight_names crossings gone)) (outer_pairs crossings gone state)
kept-smoothings crossings gone state new agree =
    smoothings-renamed crossings (straight_names crossings gone) state new 0 (kept_places crossings gone)
    (λ i below. let e : 0 + i ≡ i = omega arith in ap (bit new) e ∙ agree i below)

-- where crossings are dropped, a state of those that stay has as many circles as there are classes of the straight pairs and of the
-- smoothings of those that stay, in the arcs before
pub circles-dropped : (code : Code) (gone : ℕ → Bool) (kept : ℕ → ℕ) (k state new : ℕ) → HasArcsTwice code.crossings
    → kept_places code.crossings gone ≡ map kept (range_with_len 0 k) → ((i : ℕ) → i < k → kept i < length code.crossings)
    → ((i : ℕ) → i < k → bit new i ≡ bit state (kept i))
    → parts_circle_count (arc_count code.crossings + 1) (dropped code gone) new + 1
    ≡ class_count (classes_of (arc_count code.crossings + 1) (straight_pairs code.crossings gone ++ outer_pairs code.crossings gone state))
    + code.loops
circles-dropped code gone kept k state new twice places kept_below agree =
    let crossings = code.crossings in
    let outer = outer_pairs crossings gone state in
    let outer_low : AreBelow (arc_count crossings + 1) (outer_pairs crossings gone state) =
    outer-all (λ pair. (pair.0 < arc_count crossings + 1) × (pair.1 < arc_count crossings + 1)) crossings gone state
    (λ place below stays. joined-below crossings (arc_count crossings + 1) state place twice (omega arith) below) in
    let size_places : length (kept_places crossings gone) ≡ k = ap length places ∙ length-map-range_with_len kept 0 k in
    let smoothings : smoothings_of (kept_crossings crossings gone) new
    ≡ renamed (slice_index (straight_names crossings gone)) (outer_pairs crossings gone state) =
    kept-smoothings crossings gone state new
    (λ i below.
    let small : i < k = omega (arith, below, size_places) in
    agree i small
    ∙ ap (bit state) (sym (ap (λ ps. slice_index ps i) places ∙ get_or-map-range_with_len kept 0 k i i 0 small (omega arith)))) in
    let counts = classes-dropped crossings gone kept k outer twice places kept_below outer_low
    (subst (λ (ps : List (ℕ × ℕ)). IsOfNames (kept_crossings crossings gone) ps) smoothings
    (IsOfNames-smoothings (kept_crossings crossings gone) new)) in
    let same = ap (λ ps. standing_class_count (arc_count crossings + 1) (kept_crossings crossings gone) ps) smoothings in
    omega (arith, counts, same)
