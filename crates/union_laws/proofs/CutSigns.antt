-- Crossings of a code that is cut in two keep their signs: listed in the order of the parts, in the parts, and in the union of these.
--
-- A sign is read off the component of the over pass, and where that has two arcs, off the first crossing that it passes. All crossings that
-- it passes are of one side, so that the search finds the same one in the order of the parts (`sign-first`).
use Rattle.std.proofs.Common.{◌≡◌, ◌≢◌, ℕ, ◌+◌, ◌-◌, ◌<◌, ◌∙◌, List, [], length, get_or, refl, sym, subst, ap, ap₂, arith, Bool, false, cond, not, IsTrue, Option, Some, None}
use Rattle.std.specs.Prelude.{is_some, nat_eq, nat_le, unwrap_or}
use Rattle.std.specs.List.{find, range_with_len}
use Rattle.std.specs.Option.{option_map}
use Rattle.std.proofs.lemmas.Bool.{eqb-true}
use Rattle.std.proofs.lemmas.Bool.Decides.{nat_tests}
use Rattle.std.proofs.lemmas.List.{get_or-map, length-map}
use Rattle.kh_types.specs.Acceptance.{accepted}
use Rattle.kh_types.specs.Code.{Code, IsCrossing, arc_in, crossing_numbers, slots_of}
use Rattle.kh_types.specs.Components.{arcs_in, component_of, components_of}
use Rattle.kh_types.specs.Darts.{HasArcsTwice}
use Rattle.kh_types.specs.Directions.{is_positive, is_positive_by_next, is_positive_by_order, is_positive_by_under, is_positive_in}
use Rattle.kh_types.proofs.AcceptedLemmas.{HasArcsTwice-directed}
use Rattle.kh_types.proofs.Heads.{HasNoSingleArcs-accepted}
use Rattle.kh_types.proofs.Searches.{find-range_agree}
use Rattle.gluing_laws.specs.Arcs.{arc_by_place}
use Rattle.code_passes.specs.Parts.{slots_in}
use Rattle.code_passes.proofs.SignRules.{find-first}
use Rattle.orient_arcs.proofs.AcceptedParts.{over-apart}
use Rattle.orient_arcs.proofs.AlikeCrossings.{same-test}
use Rattle.orient_arcs.proofs.Bridge.{sign-kept}
use Rattle.link_algebra.specs.Unions.{union_of}
use Rattle.link_algebra.proofs.UnitedCircles.{length-both}
use Rattle.link_algebra.proofs.UnitedComponents.{IsPart-first, IsPart-second}
use Rattle.link_algebra.proofs.UnitedDirected.{each-crossing}
use Rattle.link_algebra.proofs.UnitedSigns.{IsAlone-first, IsAlone-second, positive-part}
use Rattle.union_laws.specs.Pieces.{IsCut, kept_first, kept_parts, kept_places, part_of}
use Rattle.union_laws.proofs.CutCodes.{first-directed, second-directed}
use Rattle.union_laws.proofs.CutComponents.{components-kept, one-side}
use Rattle.union_laws.proofs.CutNumbers.{length-other, length-part, length-parts}
use Rattle.union_laws.proofs.KeptParts.{ArePaired-kept, IsCut-rest}
use Rattle.union_laws.proofs.KeptPlaces.{length-first, place-back, place-below, place-front, place-once, place_in, slots-first}
use Rattle.union_laws.proofs.KeptSearches.{find-numbers, find-ordered}

-- the slots of the crossing at a place, by its number
slots-at : (crossings : List (List ℕ)) (place : ℕ) → slots_of crossings (place + 1) ≡ slots_in crossings place
slots-at crossings place = let e : place + 1 - 1 ≡ place = omega arith in ap (slots_in crossings) e

-- the first crossing that a component meets at a slot
abbrev met : List (List ℕ) → List ℕ → ℕ → ℕ → Option ℕ
met crossings components name slot =
    find (λ crossing. nat_eq (component_of components (arc_in (slots_of crossings crossing) slot)) name) (crossing_numbers crossings)

-- the two rules for components of two arcs, by what the searches find
abbrev by_found : List (List ℕ) → List ℕ → ℕ → Option ℕ → Option ℕ → Bool
by_found crossings slots crossing under over =
    cond (is_some under) (is_positive_by_under crossings slots (unwrap_or under 0))
    (is_positive_by_order slots (nat_eq (unwrap_or over 0) crossing))

module _ (keep : ℕ → Bool) (code : Code) (holds : IsTrue (accepted code)) (cut : IsCut keep code.crossings) where
  abbrev crossings : List (List ℕ)
  crossings = code.crossings

  abbrev first_kept : List (List ℕ)
  first_kept = kept_first keep code.crossings

  abbrev components : List ℕ
  components = components_of code.crossings

  abbrev at : ℕ → ℕ
  at = place_in keep code.crossings

  module _ (k : ℕ) (below : k < length code.crossings) where
    -- the component of the over pass of the crossing at a place of the order
    abbrev name : ℕ
    name = component_of components (arc_by_place crossings (at k) 1)

    -- whether it meets the crossing at a place of the code
    abbrev meets : ℕ → ℕ → Bool
    meets slot place = nat_eq (component_of components (arc_by_place crossings place slot)) name

    -- the place in the order of the first crossing that it meets
    abbrev first_met : ℕ → Option ℕ
    first_met slot = find (λ j. meets slot (at j)) (range_with_len 0 (length crossings))

    -- what the searches find, in the order and in the code
    met-first : (slot : ℕ) → met first_kept components name slot ≡ option_map (λ j. j + 1) (first_met slot)
    met-first slot =
        let test = λ (c : ℕ). nat_eq (component_of components (arc_in (slots_of first_kept c) slot)) name in
        ap (λ (n : ℕ). find test (range_with_len 1 n)) (length-first keep crossings)
        ∙ find-numbers test (length crossings)
        ∙ ap (option_map (λ j. j + 1))
        (find-range_agree (λ j. test (j + 1)) (λ j. meets slot (at j)) 0 (length crossings)
        (λ j from inside.
        ap (λ slots. nat_eq (component_of components (arc_in slots slot)) name)
        (slots-at first_kept j ∙ slots-first keep crossings j (omega (arith, inside)))))

    met-code : (slot : ℕ) → slot < 4
        → met crossings components name slot ≡ option_map (λ j. j + 1) (option_map at (first_met slot))
    met-code slot slot_below =
        let test = λ (c : ℕ). nat_eq (component_of components (arc_in (slots_of crossings c) slot)) name in
        find-numbers test (length crossings)
        ∙ ap (option_map (λ j. j + 1))
        (find-range_agree (λ j. test (j + 1)) (meets slot) 0 (length crossings)
        (λ j from inside. ap (λ slots. nat_eq (component_of components (arc_in slots slot)) name) (slots-at crossings j))
        ∙ find-ordered keep crossings (meets slot) (keep (at k))
        (λ place inside passes.
        one-side keep code holds cut place (at k) slot 1 inside (place-below keep crossings k below) slot_below (omega arith)
        (eqb-true (component_of components (arc_by_place crossings place slot)) name passes)))

    met-below : (slot j : ℕ) → first_met slot ≡ Some j → j < length crossings
    met-below slot j found =
        let first = find-first (λ i. meets slot (at i)) 0 (length crossings) j found in omega (arith, first.below)

    -- so the rules for components of two arcs answer the same
    found-alike : (slots : List ℕ) (under over : Option ℕ) → ((j : ℕ) → under ≡ Some j → j < length crossings)
        → ((j : ℕ) → over ≡ Some j → j < length crossings)
        → by_found first_kept slots (k + 1) (option_map (λ j. j + 1) under) (option_map (λ j. j + 1) over)
        ≡ by_found crossings slots (at k + 1) (option_map (λ j. j + 1) (option_map at under)) (option_map (λ j. j + 1) (option_map at over))
    found-alike slots (Some u) over u_below o_below =
        ap (λ others. nat_eq (arc_in slots 3) (arc_in others 2))
        (slots-at first_kept u ∙ slots-first keep crossings u (u_below u refl) ∙ sym (slots-at crossings (at u)))
    found-alike slots None (Some o) u_below o_below =
        ap (is_positive_by_order slots)
        (same-test (at o + 1) (at k + 1) (o + 1) (k + 1)
        (λ same. ap (λ j. j + 1) (place-once keep crossings o k (o_below o refl) below (omega (arith, same))))
        (λ same. let e : o ≡ k = omega (arith, same) in ap (λ j. at j + 1) e))
    found-alike slots None None u_below o_below = ap (is_positive_by_order slots) (never k (at k))
      where
        never : (x y : ℕ) → nat_eq 0 (x + 1) ≡ nat_eq 0 (y + 1)
        never x y = grind (arith, nat_tests)

    -- a crossing keeps its sign in the order of the parts
    pub sign-first : is_positive first_kept (k + 1) ≡ is_positive crossings (at k + 1)
    sign-first =
        let slots = slots_in crossings (at k) in
        let here : slots_of first_kept (k + 1) ≡ slots = slots-at first_kept k ∙ slots-first keep crossings k below in
        let there : slots_of crossings (at k + 1) ≡ slots = slots-at crossings (at k) in
        let rule = λ (all : List (List ℕ)) (own : List ℕ) (c : ℕ) (under over : Option ℕ).
        cond (nat_le 3 (arcs_in components (component_of components (arc_in own 1)))) (is_positive_by_next components own)
        (by_found all own c under over) in
        ap (λ cs. is_positive_in first_kept cs (k + 1)) (components-kept keep crossings)
        ∙ ap (λ own. rule first_kept own (k + 1) (met first_kept components (component_of components (arc_in own 1)) 0)
        (met first_kept components (component_of components (arc_in own 1)) 1)) here
        ∙ ap₂ (rule first_kept slots (k + 1)) (met-first 0) (met-first 1)
        ∙ ap (cond (nat_le 3 (arcs_in components name)) (is_positive_by_next components slots))
        (found-alike slots (first_met 0) (first_met 1) (met-below 0) (met-below 1))
        ∙ sym (ap₂ (rule crossings slots (at k + 1)) (met-code 0 (omega arith)) (met-code 1 (omega arith)))
        ∙ sym (ap (λ own. rule crossings own (at k + 1) (met crossings components (component_of components (arc_in own 1)) 0)
        (met crossings components (component_of components (arc_in own 1)) 1)) there)

-- and in its part
part-sign : (keep : ℕ → Bool) (code : Code) (loops : ℕ) → IsTrue (accepted code) → IsCut keep code.crossings → (k : ℕ)
    → k < length (kept_places keep code.crossings) → get_or (kept_places keep code.crossings) k 0 < length code.crossings
    → is_positive (part_of keep code loops).crossings (k + 1)
    ≡ is_positive code.crossings (get_or (kept_places keep code.crossings) k 0 + 1)
part-sign keep code loops holds cut k below inside =
    let places = kept_places keep code.crossings in
    let parts = kept_parts keep code loops in
    let place = get_or places k 0 in
    let is = HasNoSingleArcs-accepted code holds in
    let size : length parts.crossings ≡ length places = length-map places (slots_in code.crossings) in
    let e : k + 1 - 1 ≡ k = omega arith in
    let slots : slots_of parts.crossings (k + 1) ≡ slots_of code.crossings (place + 1) =
    slots-at parts.crossings k ∙ get_or-map (slots_in code.crossings) places k 0 [] below ∙ sym (slots-at code.crossings place) in
    let apart = over-apart code.crossings is.0 is.1 (place + 1)
    (record { positive = omega arith; within = omega (arith, inside) }) in
    sign-kept parts (ArePaired-kept keep code loops cut holds) (k + 1)
    (record { positive = omega arith; within = omega (arith, below, size) })
    (subst (λ (own : List ℕ). arc_in own 1 ≢ arc_in own 3) (sym slots) apart)
    ∙ ap (λ m. get_or parts.positive m false) e
    ∙ get_or-map (λ other. is_positive code.crossings (other + 1)) places k 0 false below

module _ (keep : ℕ → Bool) (code : Code) (loops others : ℕ) (holds : IsTrue (accepted code)) (cut : IsCut keep code.crossings)
    (adds : loops + others ≡ code.loops) where
  abbrev rest : ℕ → Bool
  rest place = not (keep place)

  abbrev first : Code
  first = part_of keep code loops

  abbrev second : Code
  second = part_of rest code others

  abbrev whole : List (List ℕ)
  whole = (union_of first second).crossings

  abbrev places : List ℕ
  places = kept_places keep code.crossings

  -- the crossing has the sign that it has in the order of the parts
  abbrev HasSign : ℕ → Type 0
  HasSign crossing = is_positive whole crossing ≡ is_positive (kept_first keep code.crossings) crossing

  first_twice : HasArcsTwice first.crossings
  first_twice = HasArcsTwice-directed first.crossings (first-directed keep code loops others holds cut adds)

  second_twice : HasArcsTwice second.crossings
  second_twice = HasArcsTwice-directed second.crossings (second-directed keep code loops others holds cut adds)

  length-places : length first.crossings ≡ length places
  length-places = length-part keep code loops others holds cut adds ∙ length-map places (slots_in code.crossings)

  length-rest : length second.crossings ≡ length (kept_places rest code.crossings)
  length-rest =
      length-other keep code loops others holds cut adds ∙ length-map (kept_places rest code.crossings) (slots_in code.crossings)

  ones : (k : ℕ) → k < length first.crossings → HasSign (0 + (k + 1))
  ones k below =
      let e : 0 + (k + 1) ≡ k + 1 = omega arith in
      let within : k < length code.crossings = omega (arith, below, length-parts keep code loops others holds cut adds) in
      let inside : k < length places = omega (arith, below, length-places) in
      let place = place-front keep code.crossings k inside in
      positive-part 0 first.crossings whole (IsPart-first first second first_twice second_twice) (k + 1)
      (IsAlone-first first second first_twice second_twice)
      (record { positive = omega arith; within = omega (arith, below) })
      ∙ part-sign keep code loops holds cut k inside (omega (arith, place, place-below keep code.crossings k within))
      ∙ ap (λ m. is_positive code.crossings (m + 1)) (sym place)
      ∙ sym (sign-first keep code holds cut k within)
      ∙ ap (is_positive (kept_first keep code.crossings)) (sym e)

  twos : (k : ℕ) → k < length second.crossings → HasSign (length first.crossings + (k + 1))
  twos k below =
      let n = length places in
      let e : length first.crossings + (k + 1) ≡ n + k + 1 = omega (arith, length-places) in
      let within : n + k < length code.crossings =
      omega (arith, below, length-places, length-parts keep code loops others holds cut adds) in
      let inside : k < length (kept_places rest code.crossings) = omega (arith, below, length-rest) in
      let place = place-back keep code.crossings k in
      positive-part (length first.crossings) second.crossings whole (IsPart-second first second first_twice second_twice) (k + 1)
      (IsAlone-second first second first_twice second_twice)
      (record { positive = omega arith; within = omega (arith, below) })
      ∙ part-sign rest code others holds (IsCut-rest keep code.crossings cut) k inside
      (omega (arith, place, place-below keep code.crossings (n + k) within))
      ∙ ap (λ m. is_positive code.crossings (m + 1)) (sym place)
      ∙ sym (sign-first keep code holds cut (n + k) within)
      ∙ ap (is_positive (kept_first keep code.crossings)) (sym e)

  -- and in the union of the parts
  pub sign-cut : (crossing : ℕ) → IsCrossing code.crossings crossing → HasSign crossing
  sign-cut crossing is =
      each-crossing HasSign first second
      (λ c is_c.
      let e : c - 1 + 1 ≡ c = omega (arith, is_c.positive) in
      subst (λ (m : ℕ). HasSign (0 + m)) e (ones (c - 1) (omega (arith, is_c.positive, is_c.within))))
      (λ c is_c.
      let e : c - 1 + 1 ≡ c = omega (arith, is_c.positive) in
      subst (λ (m : ℕ). HasSign (length first.crossings + m)) e (twos (c - 1) (omega (arith, is_c.positive, is_c.within))))
      crossing
      (record {
        positive = is.positive;
        within = omega (arith, is.within, length-both first second, length-parts keep code loops others holds cut adds);
      })
