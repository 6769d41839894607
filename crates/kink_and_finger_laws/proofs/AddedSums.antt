-- A kink and a finger keep the state sum: so do their drops, which leave the code that was.
use Rattle.std.proofs.Common.{◌≡◌, ℕ, ◌+◌, ◌-◌, ◌*◌, ◌%◌, ◌<◌, ◌≤◌, ◌∙◌, ℤ, List, length, refl, sym, ap, arith, Bool, true, false}
use Rattle.std.specs.Prelude.{nat_eq, IsTrue}
use Rattle.std.proofs.lemmas.Bool.Decides.{nat_tests}
use Rattle.kh_types.specs.Acceptance.{accepted}
use Rattle.kh_types.specs.Code.{Code, arc_in, IsArc}
use Rattle.kh_types.specs.StateSum.{state_sum}
use Rattle.gluing_laws.specs.Arcs.{arc_by_place}
use Rattle.kink_and_finger_laws.specs.Drops.{after, is_of_two}
use Rattle.kink_and_finger_laws.specs.Dropping.{HasBigonAt, HasKinkAt}
use Rattle.kink_and_finger_laws.specs.FingerAdd.{fingered, fingered_crossings, head_number, opened}
use Rattle.kink_and_finger_laws.specs.KinkAdds.{kink_crossing, raised, with_kink}
use Rattle.kink_and_finger_laws.specs.Pulls.{dart_in}
use Rattle.kink_and_finger_laws.proofs.AddedDrops.{AreAddedGone, state_sum-added}
use Rattle.kink_and_finger_laws.proofs.AddedSizes.{HasNoSingleArcs-added, IsDirected-added}
use Rattle.kink_and_finger_laws.proofs.FingerDropSums.{state_sum-bigon}
use Rattle.kink_and_finger_laws.proofs.FingerPlanar.{AreBigonNames-fingered}
use Rattle.kink_and_finger_laws.proofs.FingerSlots.{first_slot, length-fingered, second_slot}
use Rattle.kink_and_finger_laws.proofs.FingeredCodes.{IsAdded-finger, IsDirected-fingered, finger_sign}
use Rattle.kink_and_finger_laws.proofs.OldDarts.{partner-named}
use Rattle.kh_types.proofs.AcceptedLemmas.{HasArcsTwice-directed}
use Rattle.kink_and_finger_laws.proofs.KinkDropSums.{state_sum-without_kink}
use Rattle.kink_and_finger_laws.proofs.KinkFaces.{accepted-kinked}
use Rattle.kink_and_finger_laws.proofs.KinkSlots.{inner_slot, kinked_crossings, last, length-kinked, slots_of-new}
use Rattle.kink_and_finger_laws.proofs.KinkedCodes.{IsAdded-kink, IsKinkable-accepted}
use Rattle.kink_and_finger_laws.proofs.MovableArcs.{AreFingerable}
use Rattle.kink_and_finger_laws.proofs.Opened.{low, lowered}

pub HasKinkAt-kinked : (crossings : List (List ℕ)) (a : ℕ) (over positive : Bool)
    → HasKinkAt (kinked_crossings crossings a over positive) (length crossings) (inner_slot over positive)
HasKinkAt-kinked crossings a over positive =
    let new = kinked_crossings crossings a over positive in
    let e : length crossings ≡ length crossings + 1 - 1 = omega arith in
    let at : (slot : ℕ) → arc_by_place new (length crossings) slot ≡ arc_in (kink_crossing over positive a) slot =
    λ slot. ap (λ k. arc_by_place new k slot) e ∙ ap (λ slots. arc_in slots slot) (slots_of-new crossings a over positive) in
    record {
      below = omega (arith, length-kinked crossings a over positive);
      slot = slot over positive;
      same = at (inner_slot over positive) ∙ same over positive ∙ sym (at (after (inner_slot over positive)));
    }
  where
    slot : (over positive : Bool) → inner_slot over positive < 4
    slot over positive = grind (arith, nat_tests)

    same : (over positive : Bool)
        → arc_in (kink_crossing over positive a) (inner_slot over positive) ≡ arc_in (kink_crossing over positive a) (after (inner_slot over positive))
    same over positive = grind (arith, nat_tests)

pub AreAddedGone-kink : (crossings : List (List ℕ)) (a : ℕ) (over positive : Bool)
    → AreAddedGone crossings (kinked_crossings crossings a over positive) (nat_eq (length crossings))
AreAddedGone-kink crossings a over positive = record {
  stays = λ place below. stays (length crossings) place below;
  goes = λ place from below. goes (length crossings) place from (omega (arith, below, length-kinked crossings a over positive));
}
  where
    stays : (n place : ℕ) → place < n → nat_eq n place ≡ false
    stays n place below = grind (arith, nat_tests)

    goes : (n place : ℕ) → n ≤ place → place < n + 1 → nat_eq n place ≡ true
    goes n place from below = grind (arith, nat_tests)

pub state_sum-kinked : (code : Code) (a : ℕ) (over positive : Bool) → IsTrue (accepted code) → IsArc code.crossings a → (exponent : ℤ)
    → state_sum (with_kink over positive a code) exponent ≡ state_sum code exponent
state_sum-kinked code a over positive holds arc exponent =
    let new = with_kink over positive a code in
    sym
    (state_sum-without_kink new (length code.crossings) (inner_slot over positive) (accepted-kinked code a over positive holds arc)
    (HasKinkAt-kinked code.crossings a over positive) exponent)
    ∙ state_sum-added code new (raised a) (last a) (lowered a) (λ k. positive) (nat_eq (length code.crossings))
    (IsAdded-kink code.crossings a over positive (IsKinkable-accepted code a holds arc))
    (AreAddedGone-kink code.crossings a over positive) refl exponent

pub HasBigonAt-fingered : (crossings : List (List ℕ)) (a b : ℕ) (positive ordered : Bool) → AreFingerable crossings a b
    → HasBigonAt (fingered_crossings crossings a b positive ordered) (length crossings) (length crossings + 1) (first_slot positive ordered)
    (second_slot positive ordered)
HasBigonAt-fingered crossings a b positive ordered can =
    let new = fingered_crossings crossings a b positive ordered in
    let size = length-fingered crossings a b positive ordered in
    let names = AreBigonNames-fingered crossings a b positive ordered can in
    let partners = partner-named new (HasArcsTwice-directed new (IsDirected-fingered crossings a b positive ordered can)) in
    let n = length crossings in
    let p = first_slot positive ordered in
    let q = second_slot positive ordered in
    let below : (place slot : ℕ) → place < n + 2 → dart_in place slot < 4 * length new =
    λ place slot place_below. omega (arith, place_below, size) in
    record {
      first_below = omega (arith, size);
      second_below = omega (arith, size);
      apart = λ same. omega (arith, same);
      first_side = partners (dart_in n p) (dart_in (n + 1) (q + 1)) (below n p (omega arith)) (below (n + 1) (q + 1) (omega arith))
          (λ same. omega (arith, same)) (sym names.side);
      second_side = partners (dart_in (n + 1) q) (dart_in n (p + 1)) (below (n + 1) q (omega arith)) (below n (p + 1) (omega arith))
          (λ same. omega (arith, same)) (sym names.other_side);
      odd = odd positive ordered;
    }
  where
    odd : (positive ordered : Bool) → (first_slot positive ordered + second_slot positive ordered) % 2 ≡ 1
    odd positive ordered = grind (arith, nat_tests)

pub AreAddedGone-finger : (crossings : List (List ℕ)) (a b : ℕ) (positive ordered : Bool)
    → AreAddedGone crossings (fingered_crossings crossings a b positive ordered) (is_of_two (length crossings) (length crossings + 1))
AreAddedGone-finger crossings a b positive ordered = record {
  stays = λ place below. stays (length crossings) place below;
  goes = λ place from below. goes (length crossings) place from (omega (arith, below, length-fingered crossings a b positive ordered));
}
  where
    stays : (n place : ℕ) → place < n → is_of_two n (n + 1) place ≡ false
    stays n place below = grind (arith, nat_tests)

    goes : (n place : ℕ) → n ≤ place → place < n + 2 → is_of_two n (n + 1) place ≡ true
    goes n place from below = grind (arith, nat_tests)

pub state_sum-fingered : (code : Code) (a b : ℕ) (positive ordered : Bool) → AreFingerable code.crossings a b → (exponent : ℤ)
    → state_sum (fingered code a b positive ordered) exponent ≡ state_sum code exponent
state_sum-fingered code a b positive ordered can exponent =
    let crossings = code.crossings in
    let new = fingered code a b positive ordered in
    let added = IsAdded-finger crossings a b positive ordered can in
    sym
    (state_sum-bigon new (length crossings) (length crossings + 1) (first_slot positive ordered) (second_slot positive ordered)
    (IsDirected-added added) (HasNoSingleArcs-added added) (HasBigonAt-fingered crossings a b positive ordered can) exponent)
    ∙ state_sum-added code new (opened a b) (head_number a b) (low a b) (finger_sign crossings positive)
    (is_of_two (length crossings) (length crossings + 1)) added (AreAddedGone-finger crossings a b positive ordered) refl exponent
