-- Along an edge two images of the permutation are exchanged, those of the two arcs that come to the crossing: so their circles are
-- joined, or one circle is parted.
use Rattle.std.proofs.lemmas.Bool.Decides.{nat_tests}
use Rattle.std.proofs.Common.{◌≡◌, ◌≢◌, ℕ, ◌⊎◌, inl, inr, ◌+◌, ◌-◌, ◌*◌, ◌/◌, ◌%◌, ◌<◌, ◌∙◌, List, refl, sym, ap, subst, length, arith, IsTrue}
use Rattle.kh_types.specs.Acceptance.{accepted}
use Rattle.kh_types.specs.Bits.{bit}
use Rattle.kh_types.specs.Code.{Code, IsCrossing, arc_count, place_of}
use Rattle.kh_types.specs.Colours.{IsColoured}
use Rattle.kh_types.specs.Circles.{circles_of}
use Rattle.kh_types.specs.Darts.{HasArcsTwice}
use Rattle.kh_types.proofs.AcceptedLemmas.{HasArcsTwice-accepted}
use Rattle.kh_types.proofs.DartColours.{IsColoured-accepted}
use Rattle.kh_types.specs.Permutations.{AreJoined, IsExchange}
use Rattle.kh_types.specs.Edges.{JoinsOrParts, arc_at_slot, state_behind}
use Rattle.kh_types.specs.CircleSteps.{arc_at, joined_slot}
use Rattle.kh_types.proofs.CircleCycles.{AreCycles-circles, IsSided-sided, arc-at_place, arc_or_not, follower, follower-arc, follower-other, follower-place, one_place, sided}
use Rattle.kh_types.proofs.EdgeBits.{bit-set_other, bit-set_there}
use Rattle.kh_types.proofs.Exchanges.{AreJoined-exchanged}
use Rattle.kh_types.proofs.JoinedSlots.{across-slot, arc_at-slot, place_colour}

place_colour-slot : (choice k slot : ℕ) → slot < 4 → place_colour choice (4 * k + slot) ≡ (bit choice k + slot) % 2
place_colour-slot choice k slot below = grind (arith, nat_tests)

-- one step from the dart at a slot of the crossing
step-slot : (crossings : List (List ℕ)) (choice state side k slot smoothing : ℕ) → HasArcsTwice crossings
    → IsColoured crossings choice → side < 2 → k < length crossings → slot < 4 → place_colour choice (4 * k + slot) ≡ side
    → bit state k ≡ smoothing
    → follower crossings choice state side (arc_at crossings (4 * k + slot))
    ≡ arc_at crossings (4 * k + joined_slot smoothing slot)
step-slot crossings choice state side k slot smoothing twice coloured side_below below slot_below is_side is_bit =
    grind (arith, nat_tests, follower-place, across-slot)

-- a dart of the same colour as slot 0, at its crossing, is at slot 0 or at slot 2
same_colour : (choice k place : ℕ) → place / 4 ≡ k → place_colour choice place ≡ place_colour choice (4 * k + 0)
    → (place ≡ 4 * k + 0) ⊎ (place ≡ 4 * k + 2)
same_colour choice k place here alike = grind (arith, nat_tests)

-- two states that differ at the crossing at one place, by the arcs at its slots 0 and 2
IsExchange-edge : (code : Code) (choice tail head k : ℕ) → IsTrue (accepted code) → IsColoured code.crossings choice
    → k < length code.crossings → bit tail k ≡ 0 → bit head k ≡ 1 → ((j : ℕ) → j ≢ k → bit head j ≡ bit tail j)
    → arc_at code.crossings (4 * k + 0) < arc_count code.crossings + code.loops + 1
    → arc_at code.crossings (4 * k + 2) < arc_count code.crossings + code.loops + 1
    → arc_at code.crossings (4 * k + 0) ≢ arc_at code.crossings (4 * k + 2)
    → IsExchange (arc_count code.crossings + code.loops + 1)
    (follower code.crossings choice tail (place_colour choice (4 * k + 0)))
    (follower code.crossings choice head (place_colour choice (4 * k + 0)))
    (arc_at code.crossings (4 * k + 0)) (arc_at code.crossings (4 * k + 2))
IsExchange-edge code choice tail head k is coloured below zero one agree first_below third_below apart =
    let crossings = code.crossings in
    let twice = HasArcsTwice-accepted code is in
    let side = place_colour choice (4 * k + 0) in
    let side_below : side < 2 = omega arith in
    let side_too : place_colour choice (4 * k + 2) ≡ side =
    place_colour-slot choice k 2 (omega arith) ∙ by_two (bit choice k) ∙ sym (place_colour-slot choice k 0 (omega arith)) in
    let step = λ (state slot smoothing : ℕ) (slot_below : slot < 4) (is_side : place_colour choice (4 * k + slot) ≡ side)
    (is_bit : bit state k ≡ smoothing).
    step-slot crossings choice state side k slot smoothing twice coloured side_below below slot_below is_side is_bit in
    record {
      x_below = first_below;
      y_below = third_below;
      apart = apart;
      at_x = step head 0 1 (omega arith) refl one ∙ sym (step tail 2 0 (omega arith) side_too zero);
      at_y = step head 2 1 (omega arith) side_too one ∙ sym (step tail 0 0 (omega arith) refl zero);
      others = λ x x_below not_d not_e. elim (arc_or_not crossings x) [
        | inl arc ↦
            let place = sided crossings choice side x in
            let there = IsSided-sided crossings choice side x twice coloured arc.0 side_below in
            let elsewhere : place / 4 ≢ k =
            λ here. elim (same_colour choice k place here there.has_side) [
              | inl first ↦ not_d (sym there.on_arc ∙ ap (λ p. arc_at crossings p) first)
              | inr third ↦ not_e (sym there.on_arc ∙ ap (λ p. arc_at crossings p) third)
            ] in
            follower-arc crossings choice head side x arc.0
            ∙ ap (λ b. arc_at crossings (4 * (place / 4) + joined_slot b (place % 4))) (agree (place / 4) elsewhere)
            ∙ sym (follower-arc crossings choice tail side x arc.0)
        | inr none ↦
            follower-other crossings choice head side x none.0 ∙ sym (follower-other crossings choice tail side x none.0)
      ];
    }
  where
    by_two : (x : ℕ) → (x + 2) % 2 ≡ (x + 0) % 2
    by_two x = omega arith

-- the theorem, of two states that differ at one crossing
AreJoined-edge : (code : Code) (tail head k : ℕ) → IsTrue (accepted code) → k < length code.crossings
    → bit tail k ≡ 0 → bit head k ≡ 1 → ((j : ℕ) → j ≢ k → bit head j ≡ bit tail j)
    → AreJoined (circles_of code tail) (circles_of code head) (arc_at code.crossings (4 * k + 0)) (arc_at code.crossings (4 * k + 2))
    ⊎ AreJoined (circles_of code head) (circles_of code tail) (arc_at code.crossings (4 * k + 0)) (arc_at code.crossings (4 * k + 2))
AreJoined-edge code tail head k is below zero one agree =
    let crossings = code.crossings in
    let m = arc_count crossings + code.loops + 1 in
    let found = IsColoured-accepted code is in
    let choice = found.0 in
    let coloured = found.1 in
    let side = place_colour choice (4 * k + 0) in
    let side_below : side < 2 = omega arith in
    let other = 1 - side in
    let sum : side + other ≡ 1 = omega arith in
    let first_is = arc-at_place crossings choice (4 * k + 0) coloured (omega (arith, below)) in
    let third_is = arc-at_place crossings choice (4 * k + 2) coloured (omega (arith, below)) in
    let alike : place_colour choice (4 * k + 0) ≡ place_colour choice (4 * k + 2) =
    place_colour-slot choice k 0 (omega arith) ∙ by_two (bit choice k) ∙ sym (place_colour-slot choice k 2 (omega arith)) in
    AreJoined-exchanged m (follower crossings choice tail side) (follower crossings choice tail other)
    (follower crossings choice head side) (follower crossings choice head other) (circles_of code tail) (circles_of code head)
    (arc_at crossings (4 * k + 0)) (arc_at crossings (4 * k + 2)) (AreCycles-circles code choice tail side other is coloured sum)
    (AreCycles-circles code choice head side other is coloured sum)
    (IsExchange-edge code choice tail head k is coloured below zero one agree (omega (arith, first_is.within))
    (omega (arith, third_is.within))
    (λ same. absurd (omega (
      arith,
      one_place crossings choice (4 * k + 0) (4 * k + 2) coloured (omega (arith, below)) (omega (arith, below)) same alike,
    ))))
  where
    by_two : (x : ℕ) → (x + 0) % 2 ≡ (x + 2) % 2
    by_two x = omega arith

pub joins_or_parts : (code : Code) (state crossing : ℕ) → IsTrue (accepted code) → IsCrossing code.crossings crossing
    → bit state (place_of crossing) ≡ 0 → JoinsOrParts code state crossing
joins_or_parts code state crossing is is_crossing zero =
    let k = place_of crossing in
    let tail = circles_of code state in
    let head = circles_of code (state_behind state crossing) in
    let below : k < length code.crossings = omega (arith, is_crossing.positive, is_crossing.within) in
    let second = arc_at code.crossings (4 * k + 2) in
    subst (λ (y : ℕ). AreJoined tail head (arc_at_slot code crossing 0) y ⊎ AreJoined head tail (arc_at_slot code crossing 0) y)
    (arc_at-slot code.crossings k 2 (omega arith))
    (subst (λ (x : ℕ). AreJoined tail head x second ⊎ AreJoined head tail x second)
    (arc_at-slot code.crossings k 0 (omega arith))
    (AreJoined-edge code state (state_behind state crossing) k is below zero (bit-set_there state k zero)
    (bit-set_other state k zero)))
