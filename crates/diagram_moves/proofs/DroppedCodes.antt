-- What is left where crossings are dropped becomes an accepted code.
use Rattle.std.proofs.Common.{◌≡◌, ℕ, ◌+◌, ◌-◌, ◌/◌, ◌%◌, ◌<◌, ◌≤◌, ◌∙◌, ℤ, length, map, sym, ap, arith, Bool, not, ◌||◌, IsTrue}
use Rattle.std.specs.Prelude.{nat_eq, slice_index}
use Rattle.std.specs.List.{filter, range_with_len}
use Rattle.std.proofs.lemmas.List.{length-map}
use Rattle.std.proofs.lemmas.List.FromFn.{length-map-range_with_len}
use Rattle.kh_types.specs.Directions.{positive_at}
use Rattle.kh_types.specs.Acceptance.{accepted}
use Rattle.kh_types.specs.Code.{Code, arc_in, arc_count}
use Rattle.kh_types.specs.Darts.{HasArcsTwice}
use Rattle.kh_types.specs.StateSum.{state_sum}
use Rattle.kh_types.proofs.AcceptedLemmas.{HasArcsTwice-accepted, IsAccepted-is}
use Rattle.kh_types.proofs.JoinedClasses.{IsNamed-classes_of}
use Rattle.gluing_laws.specs.Arcs.{arc_by_place}
use Rattle.code_passes.specs.Parts.{slots_in}
use Rattle.orient_arcs.specs.Renumbered.{renumber}
use Rattle.kink_and_finger_laws.specs.Drops.{dropped, kept_places, kept_crossings, straight_names, straight_pairs, is_of_two, without_kink, without_finger}
use Rattle.kink_and_finger_laws.specs.Dropping.{HasKinkAt, HasBigonAt, IsPlanarRest}
use Rattle.kink_and_finger_laws.specs.DropCircles.{parts_sum}
use Rattle.kink_and_finger_laws.specs.Pulls.{early, late}
use Rattle.kink_and_finger_laws.proofs.KeptCodes.{length-kept, kept-slots, kept-sign, renamed_slots-at, arc_by_place-below, straight-below}
use Rattle.kink_and_finger_laws.proofs.KinkCircles.{kept_are, early-low}
use Rattle.kink_and_finger_laws.proofs.KinkDropSums.{state_sum-without_kink}
use Rattle.kink_and_finger_laws.proofs.FingerDrops.{places-two, late-below}
use Rattle.kink_and_finger_laws.proofs.FingerDropSums.{state_sum-without_finger}
use Rattle.kink_and_finger_laws.proofs.ComponentDrops.{components-dropped}
use Rattle.kink_and_finger_laws.proofs.Smoothed.{IsPermutation-late}
use Rattle.kink_and_finger_laws.proofs.Sound.{IsSound-kink, IsSound-finger, two_below}
use Rattle.diagram_moves.specs.Joinable.{IsJoinable}
use Rattle.diagram_moves.specs.Kept.{IsKeptCode}
use Rattle.diagram_moves.proofs.Numbered.{IsAccepted-renumber, components-renumber, sign-renumber, state_sum-renumber}
use Rattle.gluing_laws.proofs.DartPairs.{arc_of-dart}

IsJoinable-dropped : (code : Code) (gone : ℕ → Bool) (kept : ℕ → ℕ) (k : ℕ) → HasArcsTwice code.crossings
    → kept_places code.crossings gone ≡ map kept (range_with_len 0 k) → ((i : ℕ) → i < k → kept i < length code.crossings)
    → IsPlanarRest (dropped code gone) → IsJoinable (arc_count code.crossings + 1) (dropped code gone)
IsJoinable-dropped code gone kept k twice places kept_below sound =
    let names = straight_names code.crossings gone in
    let named = IsNamed-classes_of (arc_count code.crossings + 1) (straight_pairs code.crossings gone) (straight-below code.crossings gone twice) in
    let size : length (kept_crossings code.crossings gone) ≡ k = length-kept code.crossings gone kept k places in
    record {
      paired = sound.paired;
      size = length-map (kept_places code.crossings gone) (positive_at code.crossings) ∙ ap length places ∙ length-map-range_with_len kept 0 k
          ∙ sym size;
      partner = sound.partner;
      planar = sound.planar;
      names = λ x below.
          let small : x / 4 < k = omega (arith, below, size) in
          let is : arc_by_place (kept_crossings code.crossings gone) (x / 4) (x % 4)
          ≡ slice_index (straight_names code.crossings gone) (arc_by_place code.crossings (kept (x / 4)) (x % 4)) =
          ap (λ slots. arc_in slots (x % 4)) (kept-slots code.crossings gone kept k (x / 4) places small)
          ∙ renamed_slots-at (straight_names code.crossings gone) (slots_in code.crossings (kept (x / 4))) (x % 4) (omega arith) in
          let old = arc_by_place-below code.crossings (kept (x / 4)) (x % 4) twice (kept_below (x / 4) small) (omega arith) in
          let least = named.least (arc_by_place code.crossings (kept (x / 4)) (x % 4)) old in
          omega (arith, arc_of-dart (kept_crossings code.crossings gone) x, is, old, least);
    }

-- what is dropped from an accepted code, with its state sum
IsKept-dropped : (code : Code) (gone : ℕ → Bool) (kept : ℕ → ℕ) (k : ℕ) → IsTrue (accepted code)
    → kept_places code.crossings gone ≡ map kept (range_with_len 0 k) → ((i : ℕ) → i < k → kept i < length code.crossings)
    → IsPlanarRest (dropped code gone)
    → ((exponent : ℤ) → parts_sum (arc_count code.crossings + 1) (dropped code gone) exponent ≡ state_sum code exponent)
    → IsKeptCode code (renumber (dropped code gone)) kept k
IsKept-dropped code gone kept k is places kept_below sound sums =
    let twice = HasArcsTwice-accepted code is in
    let joinable = IsJoinable-dropped code gone kept k twice places kept_below sound in
    let bound = arc_count code.crossings + 1 in
    let components = components-dropped code gone kept k twice places kept_below in
    let numbered_components = components-renumber (arc_count code.crossings + 1) (dropped code gone) joinable in
    let few = ((IsAccepted-is code).0 is).components in
    let size : length (kept_crossings code.crossings gone) ≡ k = length-kept code.crossings gone kept k places in
    record {
      accepted_too = IsAccepted-renumber (arc_count code.crossings + 1) (dropped code gone) joinable (omega (arith, components, few));
      size = length-map (kept_crossings code.crossings gone) _ ∙ size;
      components = numbered_components ∙ components;
      signs = λ place below.
          sign-renumber (arc_count code.crossings + 1) (dropped code gone) joinable place (omega (arith, below, size))
          ∙ kept-sign code.crossings gone kept k place places below;
      sums = λ exponent. state_sum-renumber (arc_count code.crossings + 1) (dropped code gone) joinable exponent ∙ sums exponent;
    }

pub IsKept-kink : (code : Code) (c p : ℕ) → IsTrue (accepted code) → HasKinkAt code.crossings c p
    → IsKeptCode code (renumber (without_kink code c)) (early c (length code.crossings - 1)) (length code.crossings - 1)
IsKept-kink code c p is kink =
    let size : length code.crossings ≡ length code.crossings - 1 + 1 = omega (arith, kink.below) in
    let within : c ≤ length code.crossings - 1 = omega (arith, kink.below) in
    IsKept-dropped code (nat_eq c) (early c (length code.crossings - 1)) (length code.crossings - 1) is
    (kept_are code c (length code.crossings - 1) size within)
    (λ i below. early-low (length code.crossings) c (length code.crossings - 1) i size within below)
    (IsSound-kink code c p is kink) (λ exponent. state_sum-without_kink code c p is kink exponent)

pub IsKept-finger : (code : Code) (c d p q : ℕ) → IsTrue (accepted code) → HasBigonAt code.crossings c d p q
    → IsKeptCode code (renumber (without_finger code c d))
    (λ i. early c (length code.crossings - 2 + 1) (early (late c (length code.crossings - 2 + 1) d) (length code.crossings - 2) i))
    (length code.crossings - 2)
IsKept-finger code c d p q is bigon =
    let k = length code.crossings - 2 in
    let size = two_below (length code.crossings) c d bigon.first_below bigon.second_below bigon.apart in
    let c_within : c ≤ length code.crossings - 2 + 1 = omega (arith, bigon.first_below, size) in
    let d_within : d ≤ length code.crossings - 2 + 1 = omega (arith, bigon.second_below, size) in
    let z_below = late-below c (length code.crossings - 2 + 1) d c_within (omega (arith, d_within)) bigon.apart in
    let z_within : late c (length code.crossings - 2 + 1) d ≤ length code.crossings - 2 = omega (arith, z_below) in
    IsKept-dropped code (is_of_two c d)
    (λ i. early c (length code.crossings - 2 + 1) (early (late c (length code.crossings - 2 + 1) d) (length code.crossings - 2) i))
    (length code.crossings - 2) is
    (ap (λ n. filter (λ x. not (nat_eq c x || nat_eq d x)) (range_with_len 0 n)) size
    ∙ places-two c d (length code.crossings - 2) c_within d_within bigon.apart)
    (λ i below.
    let inner = (IsPermutation-late (late c (length code.crossings - 2 + 1) d) (length code.crossings - 2) z_within).back_below i (omega (arith, below)) in
    let outer = (IsPermutation-late c (length code.crossings - 2 + 1) c_within).back_below
    (early (late c (length code.crossings - 2 + 1) d) (length code.crossings - 2) i) (omega (arith, inner)) in
    omega (arith, outer, size))
    (IsSound-finger code c d p q is bigon) (λ exponent. state_sum-without_finger code c d p q is bigon exponent)
