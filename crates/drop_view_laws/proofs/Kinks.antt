-- The circles of states at a kink. The kink's arc is joined straight with both arcs that lead away, so it has their number. A state that
-- goes through the kink joins all three arcs; a state that closes the kink joins the two that lead away, and the kink's arc with itself.
use Rattle.std.proofs.Common.{◌≡◌, ◌≢◌, ℕ, ◌⊎◌, inl, inr, ◌+◌, ◌-◌, ◌%◌, ◌<◌, ◌≤◌, ◌∙◌, length, map, refl, sym, ap, subst, arith, cond, eq-eqb, eqb-true, IsTrue}
use Rattle.std.specs.Prelude.{nat_eq, slice_index}
use Rattle.std.specs.List.{range_with_len}
use Rattle.std.proofs.lemmas.Bool.{both_ways, cases_eq}
use Rattle.kh_types.specs.Acceptance.{accepted}
use Rattle.kh_types.specs.Bits.{bit}
use Rattle.kh_types.specs.CircleNumbers.{IsName}
use Rattle.kh_types.specs.Circles.{circle_of, circles_of}
use Rattle.kh_types.specs.Classes.{Respects}
use Rattle.kh_types.specs.Code.{Code}
use Rattle.kh_types.specs.Components.{passes_of}
use Rattle.kh_types.specs.Darts.{HasArcsTwice}
use Rattle.kh_types.proofs.AcceptedLemmas.{HasArcsTwice-accepted}
use Rattle.code_passes.specs.Parts.{ArePaired, slots_in}
use Rattle.gluing_laws.specs.Arcs.{arc_by_place}
use Rattle.orient_arcs.specs.Renumbered.{number_in, renumber}
use Rattle.kink_and_finger_laws.specs.DropCircles.{closing_at, joined_at, through_at}
use Rattle.kink_and_finger_laws.specs.Dropping.{HasKinkAt}
use Rattle.kink_and_finger_laws.specs.Drops.{dropped, kept_places, straight_names, without_kink}
use Rattle.kink_and_finger_laws.specs.Pulls.{early}
use Rattle.kink_and_finger_laws.proofs.BigonJoins.{closing-joined, joined-closing, joined-through, mark, mark-off, marked, pass-straight, straight-pass, through-joined}
use Rattle.kink_and_finger_laws.proofs.KeptCodes.{arc_by_place-below, straight-joined}
use Rattle.kink_and_finger_laws.proofs.KinkCircles.{early-low, kept_are, kink-own}
use Rattle.kink_and_finger_laws.proofs.Sound.{IsSound-kink}
use Rattle.kink_and_finger_laws.proofs.StandingNames.{arc_by_place-positive}
use Rattle.drop_view_laws.specs.DropViews.{AllShow, IsCircleOf, IsKinkView}
use Rattle.view_laws.specs.Views.{AreTogether}
use Rattle.drop_view_laws.specs.NamesLeft.{names_left, number_left, straight_name}
use Rattle.drop_view_laws.proofs.CircleMaps.{carried, joined-there}
use Rattle.drop_view_laws.proofs.DropMaps.{KeepsJoined, KeepsStraight, MovesOff, numbered-dropped, seen-dropped}
use Rattle.drop_view_laws.proofs.LeftNames as names
use Rattle.drop_view_laws.proofs.OffSides.{MovesOff-one, moved_one, moved_one-off, moved_one-side}

module _ (code : Code) (c p : ℕ) (is : IsTrue (accepted code)) (kink : HasKinkAt code.crossings c p) where
  twice : HasArcsTwice code.crossings
  twice = HasArcsTwice-accepted code is

  -- the kink's arc, and the two that lead away
  abbrev side : ℕ
  side = arc_by_place code.crossings c p

  abbrev first : ℕ
  first = arc_by_place code.crossings c ((p + 2) % 4)

  abbrev second : ℕ
  second = arc_by_place code.crossings c ((p + 3) % 4)

  name-at : (slot : ℕ) → slot < 4 → IsName code (arc_by_place code.crossings c slot)
  name-at slot below =
      let low = arc_by_place-below code.crossings c slot twice kink.below below in
      record {
        positive = arc_by_place-positive code.crossings c slot twice kink.below below;
        within = omega (arith, low);
      }

  size : length code.crossings ≡ length code.crossings - 1 + 1
  size = omega (arith, kink.below)

  within : c ≤ length code.crossings - 1
  within = omega (arith, kink.below)

  places : kept_places code.crossings (nat_eq c) ≡ map (early c (length code.crossings - 1)) (range_with_len 0 (length code.crossings - 1))
  places = kept_are code c (length code.crossings - 1) size within

  kept_below : (i : ℕ) → i < length code.crossings - 1 → early c (length code.crossings - 1) i < length code.crossings
  kept_below i below = early-low (length code.crossings) c (length code.crossings - 1) i size within below

  paired : ArePaired (dropped code (nat_eq c))
  paired = (IsSound-kink code c p is kink).paired

  -- the kink's arc meets no other crossing, and stands at no other slot of its own
  apart : (place slot : ℕ) → place < length code.crossings → slot < 4 → place ≢ c → arc_by_place code.crossings place slot ≢ side
  apart place slot below slot_below other same =
      elim (kink-own code.crossings c p place slot twice kink below slot_below same) [
        | inl own ↦ absurd (other (omega (arith, own, slot_below)))
        | inr own ↦ absurd (other (omega (arith, own, slot_below)))
      ]

  first_off : first ≢ side
  first_off same =
      elim (kink-own code.crossings c p c ((p + 2) % 4) twice kink kink.below (omega arith) same) [
        | inl own ↦ absurd (omega (arith, own))
        | inr own ↦ absurd (omega (arith, own))
      ]

  second_off : second ≢ side
  second_off same =
      elim (kink-own code.crossings c p c ((p + 3) % 4) twice kink kink.below (omega arith) same) [
        | inl own ↦ absurd (omega (arith, own))
        | inr own ↦ absurd (omega (arith, own))
      ]

  -- the three arcs have one straight name
  straight-slot : (slot : ℕ) → slot < 4
      → straight_name code (nat_eq c) (arc_by_place code.crossings c slot)
      ≡ slice_index (straight_names code.crossings (nat_eq c)) (arc_by_place code.crossings c slot)
  straight-slot slot below =
      names.straight-arc code (nat_eq c) (early c (length code.crossings - 1)) (length code.crossings - 1) twice places kept_below paired
      (arc_by_place code.crossings c slot) (arc_by_place-below code.crossings c slot twice kink.below below)

  passes : (slice_index (straight_names code.crossings (nat_eq c)) side ≡ slice_index (straight_names code.crossings (nat_eq c)) first)
      × (slice_index (straight_names code.crossings (nat_eq c)) (arc_by_place code.crossings c ((p + 1) % 4))
      ≡ slice_index (straight_names code.crossings (nat_eq c)) second)
  passes =
      let two = straight-joined code.crossings (nat_eq c) c twice kink.below (eq-eqb c c refl) in
      straight-pass (λ z. slice_index (straight_names code.crossings (nat_eq c)) z) (slots_in code.crossings c) p kink.slot
      (two.0, (two.1, tt))

  first-straight : straight_name code (nat_eq c) first ≡ straight_name code (nat_eq c) side
  first-straight = straight-slot ((p + 2) % 4) (omega arith) ∙ sym passes.0 ∙ sym (straight-slot p kink.slot)

  second-straight : straight_name code (nat_eq c) second ≡ straight_name code (nat_eq c) side
  second-straight =
      straight-slot ((p + 3) % 4) (omega arith) ∙ sym passes.1
      ∙ ap (λ z. slice_index (straight_names code.crossings (nat_eq c)) z) (sym kink.same)
      ∙ sym (straight-slot p kink.slot)

  first-number : number_left code (nat_eq c) first ≡ number_left code (nat_eq c) side
  first-number = ap (number_in (names_left code (nat_eq c))) first-straight

  second-number : number_left code (nat_eq c) second ≡ number_left code (nat_eq c) side
  second-number = ap (number_in (names_left code (nat_eq c))) second-straight

  moves : MovesOff code (nat_eq c) (λ z. z ≡ side) (moved_one side first)
  moves = MovesOff-one code (nat_eq c) side first first_off (name-at ((p + 2) % 4) (omega arith)) first-straight

  outer : (i slot : ℕ) → i < length code.crossings - 1 → slot < 4
      → arc_by_place code.crossings (early c (length code.crossings - 1) i) slot ≡ side → ⊥
  outer i slot below slot_below =
      apart (early c (length code.crossings - 1) i) slot (kept_below i below) slot_below
      (λ same. both_ways (nat_eq c (early c (length code.crossings - 1) i))
      (names.kept-stays code (nat_eq c) (early c (length code.crossings - 1)) (length code.crossings - 1) twice places kept_below paired i
      below)
      (eq-eqb c (early c (length code.crossings - 1) i) (sym same)))

  -- in each state the two arcs that lead away are on one circle
  leading : (state : ℕ) → (bit state c ≡ through_at p) ⊎ (bit state c ≡ closing_at p) → AreTogether code state first second
  leading state bit_is =
      let here = joined-there code state c twice kink.below in
      elim bit_is [
        | inl through ↦
            let two = through-joined (circle_of (circles_of code state)) (slots_in code.crossings c) p (bit state c) kink.slot through
            here in
            sym two.0 ∙ ap (circle_of (circles_of code state)) (sym kink.same) ∙ sym two.1
        | inr closes ↦ (closing-joined (circle_of (circles_of code state)) (slots_in code.crossings c) p (bit state c) kink.slot closes
            here).1
      ]

  straight : (state : ℕ) → (bit state c ≡ through_at p) ⊎ (bit state c ≡ closing_at p)
      → KeepsStraight code (nat_eq c) (moved_one side first) state
  straight state bit_is place below gone_there =
      let circle : ℕ → ℕ = λ z. circle_of (circles_of code state) z in
      let f : ℕ → ℕ = λ z. circle_of (circles_of code state) (moved_one side first z) in
      let at_side = ap circle (moved_one-side side first) in
      let at_first = ap circle (moved_one-off side first first first_off) in
      let at_second = ap circle (moved_one-off side first second second_off) in
      let here : Respects (λ z. circle_of (circles_of code state) (moved_one side first z)) (passes_of (slots_in code.crossings c)) =
      pass-straight f (slots_in code.crossings c) p kink.slot (at_side ∙ sym at_first)
      (ap f (sym kink.same) ∙ at_side ∙ leading state bit_is ∙ sym at_second) in
      let there = subst (λ (q : ℕ). Respects (λ z. circle_of (circles_of code state) (moved_one side first z))
      (passes_of (slots_in code.crossings q)))
      (eqb-true c place gone_there) here in
      (there.0, there.1.0)

  joined : (state new_state : ℕ) → (bit state c ≡ through_at p) ⊎ (bit state c ≡ closing_at p)
      → KeepsJoined code (nat_eq c) (λ z. z) state new_state
  joined state new_state bit_is place below gone_there =
      let f : ℕ → ℕ = λ z. circle_of (circles_of (renumber (dropped code (nat_eq c))) new_state) (number_left code (nat_eq c) z) in
      let to_side : (z : ℕ) → number_left code (nat_eq c) z ≡ number_left code (nat_eq c) side → f z ≡ f side =
      λ z same. ap (λ m. circle_of (circles_of (renumber (dropped code (nat_eq c))) new_state) m) same in
      let after_side : f (arc_by_place code.crossings c ((p + 1) % 4)) ≡ f side = ap f (sym kink.same) in
      let here : Respects f (joined_at code.crossings state c) =
      elim bit_is [
        | inl through ↦
            joined-through f (slots_in code.crossings c) p (bit state c) kink.slot through
            (after_side ∙ sym (to_side first first-number)) (to_side second second-number)
        | inr closes ↦
            joined-closing f (slots_in code.crossings c) p (bit state c) kink.slot closes (sym after_side)
            (to_side first first-number ∙ sym (to_side second second-number))
      ] in
      subst (λ (q : ℕ). Respects f (joined_at code.crossings state q)) (eqb-true c place gone_there) here

  through-shows : (state : ℕ) → bit state c ≡ through_at p → AllShow code (λ x. x ≡ side) state
  through-shows state through x x_is = elim (cases_eq x side) [
    | inl same ↦
        let two = through-joined (circle_of (circles_of code state)) (slots_in code.crossings c) p (bit state c) kink.slot through
        (joined-there code state c twice kink.below) in (
          second,
          name-at ((p + 3) % 4) (omega arith),
          second_off,
          two.1 ∙ ap (circle_of (circles_of code state)) (sym same),
        )
    | inr other ↦ (x, x_is, other, refl)
  ]

  closes-alone : (state : ℕ) → bit state c ≡ closing_at p → IsCircleOf code (λ x. x ≡ side) state side
  closes-alone state closes = record {
    all = λ x same. ap (circle_of (circles_of code state)) same;
    alone = λ x x_is together.
        let f : ℕ → ℕ = λ z. mark (arc_by_place code.crossings c p) z in
        let off : (place slot : ℕ) → place < length code.crossings → slot < 4 → place ≢ c
        → mark side (arc_by_place code.crossings place slot) ≡ 0 =
        λ place slot below slot_below other. mark-off side (arc_by_place code.crossings place slot)
        (apart place slot below slot_below other) in
        let side_is = name-at p kink.slot in
        let same = carried code state (λ z. mark (arc_by_place code.crossings c p) z) twice
        (λ place below.
        elim (cases_eq c place) [
          | inl here ↦
              subst (λ (q : ℕ). Respects (λ z. mark (arc_by_place code.crossings c p) z) (joined_at code.crossings state q)) here
              (joined-closing f (slots_in code.crossings c) p (bit state c) kink.slot closes (ap f kink.same)
              (mark-off side first first_off ∙ sym (mark-off side second second_off)))
          | inr other ↦
              marked f (bit state place) (slots_in code.crossings place)
              (λ slot slot_below. off place slot below slot_below (λ back. other (sym back)))
        ]) x side (omega (arith, x_is.within)) (omega (arith, side_is.within)) together in
        elim (cases_eq x side) [
          | inl is_side ↦ is_side
          | inr other ↦
              let zero_one : 0 ≡ 1 = sym (mark-off side x other) ∙ same ∙ ap (λ t. cond t 1 0) (eq-eqb side side refl) in
              absurd (omega (arith, zero_one))
        ];
  }

  pub IsKinkView-dropped : IsKinkView code (renumber (without_kink code c)) c p (number_left code (nat_eq c))
  IsKinkView-dropped = record {
    side_is = name-at p kink.slot;
    numbered = numbered-dropped code (nat_eq c) (early c (length code.crossings - 1)) (length code.crossings - 1) twice places kept_below
        paired
        (λ z. z ≡ side) (moved_one side first) moves outer;
    apart = apart;
    seen = λ state new_state agree bit_is.
        seen-dropped code (nat_eq c) (early c (length code.crossings - 1)) (length code.crossings - 1) twice places kept_below paired
        (λ z. z ≡ side) (moved_one side first) moves outer state new_state agree (straight state bit_is) (λ z. z) (λ z off. refl)
        (joined state new_state bit_is);
    through = through-shows;
    closing = closes-alone;
  }
