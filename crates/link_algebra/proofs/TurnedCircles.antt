-- The circles of a state are those of the state with all bits exchanged, where all crossings are turned by one slot.
--
-- A smoothing joins a slot with the one before or behind it. After a turn by one slot the other smoothing joins the turned slots. So a
-- state of the one code and the state with all bits exchanged of the other join corresponding darts, hence arcs under their names, and
-- their circles correspond; turning back gives the other direction.
use Rattle.std.proofs.lemmas.Bool.Decides.{nat_tests}
use Rattle.std.proofs.Common.{IsTrue, ap, arith, inl, inr, length, subst, sym, ℕ, ◌%◌, ◌*◌, ◌+◌, ◌-◌, ◌/◌, ◌<◌, ◌^◌, ◌∙◌, ◌≡◌, ◌⊎◌}
use Rattle.kh_types.proofs.CircleCycles.{circles-across, smoothings-below}
use Rattle.kh_types.proofs.ClassLemmas.{classes-finest}
use Rattle.kh_types.proofs.EdgeNames.{IsArc-slot}
use Rattle.kh_types.proofs.JoinedSlots.{across-slot, respects-across, joined_slot-below}
use Rattle.kh_types.proofs.QuantumDegrees.{plus_count-le}
use Rattle.kh_types.specs.Acceptance.{accepted}
use Rattle.kh_types.specs.Bits.{bit}
use Rattle.kh_types.specs.CircleNumbers.{IsName}
use Rattle.kh_types.specs.CircleSteps.{across, arc_at, joined_slot}
use Rattle.kh_types.specs.Circles.{smoothings_of}
use Rattle.kh_types.specs.Classes.{Respects}
use Rattle.kh_types.specs.Code.{Code, IsCrossing, arc_count}
use Rattle.kh_types.specs.Directions.{minus_count, plus_count}
use Rattle.kh_types.specs.Edges.{arc_at_slot}
use Rattle.square_laws.proofs.Merges.{circle_in}
use Rattle.link_algebra.proofs.Flips.{bit-flipped, flipped, flipped-below, flipped-twice}
use Rattle.link_algebra.proofs.Renamings.{IsRenaming, IsRenaming-back, IsTurned}

-- the circles of a state of a code are those of a state of another, under other names
pub record Corresponds (f back : ℕ → ℕ) (old new : Code) (s t : ℕ) : Type 0 where
  pub names : IsRenaming (arc_count old.crossings + old.loops) f back
  pub most : arc_count new.crossings + new.loops ≡ arc_count old.crossings + old.loops
  pub onward : (x y : ℕ) → IsName old x → IsName old y → circle_in old s x ≡ circle_in old s y → circle_in new t (f x) ≡ circle_in new t (f y)
  pub backward : (x y : ℕ) → IsName old x → IsName old y → circle_in new t (f x) ≡ circle_in new t (f y)
      → circle_in old s x ≡ circle_in old s y

pub most-same : (f back : ℕ → ℕ) (old new : Code) → IsTurned f back old new
    → arc_count new.crossings + new.loops ≡ arc_count old.crossings + old.loops
most-same f back old new turned = omega (arith, turned.size, turned.loops)

pub IsCrossing-same : (f back : ℕ → ℕ) (old new : Code) (crossing : ℕ) → IsTurned f back old new → IsCrossing new.crossings crossing
    → IsCrossing old.crossings crossing
IsCrossing-same f back old new crossing turned is = omega arith

-- turning crossings back
pub IsTurned-back : (f back : ℕ → ℕ) (old new : Code) → IsTrue (accepted old) → IsTurned f back old new → IsTurned back f new old
IsTurned-back f back old new is turned =
    record {
      size = sym turned.size;
      loops = sym turned.loops;
      names = subst (λ (m : ℕ). IsRenaming m back f) (sym (most-same f back old new turned))
          (IsRenaming-back (arc_count old.crossings + old.loops) f back turned.names);
      turned = λ crossing is_crossing.
          let old_crossing = IsCrossing-same f back old new crossing turned is_crossing in
          let at = turned.turned crossing old_crossing in (
            4 - at.0,
            other_way at.0 at.1,
            λ slot below.
                let from = (slot + (4 - at.0)) % 4 in
                let arc = IsArc-slot old crossing from is old_crossing (omega arith) in
                sym (turned.names.there (arc_at_slot old crossing from) arc.positive (omega (arith, arc.within)))
                ∙ ap back (sym (at.2 from (omega arith)))
                ∙ ap (λ k. back (arc_at_slot new crossing k)) (round at.0 slot at.1 below),
          );
      signs =
          let rest : minus_count new.crossings ≡ length old.crossings - (length old.crossings - plus_count old.crossings) =
          omega (arith, turned.signs, turned.size) in
          omega (arith, rest, plus_count-le old.crossings);
    }
  where
    other_way : (by : ℕ) → (by ≡ 1) ⊎ (by ≡ 3) → (4 - by ≡ 1) ⊎ (4 - by ≡ 3)
    other_way by (inl one) = inr (omega (arith, one))
    other_way by (inr three) = inl (omega (arith, three))

    round : (by slot : ℕ) → (by ≡ 1) ⊎ (by ≡ 3) → slot < 4 → ((slot + (4 - by)) % 4 + by) % 4 ≡ slot
    round by slot (inl one) below = omega (arith, one, below)
    round by slot (inr three) below = omega (arith, three, below)

-- the slot that a smoothing joins with a slot, turned, is the one that the other smoothing joins with the turned slot
slots-turned : (b c slot by : ℕ) → b + c ≡ 1 → slot < 4 → (by ≡ 1) ⊎ (by ≡ 3)
    → (joined_slot b slot + by) % 4 ≡ joined_slot c ((slot + by) % 4)
slots-turned b c slot by sum below ways = grind (arith, nat_tests)

-- the arc of a dart by its place
pub arc-placed : (code : Code) (k slot : ℕ) → slot < 4 → arc_at code.crossings (4 * k + slot) ≡ arc_at_slot code (k + 1) slot
arc-placed code k slot below = grind (arith, nat_tests)

respects-turned : (f back : ℕ → ℕ) (old new : Code) (s : ℕ) → IsTrue (accepted new) → IsTurned f back old new
    → s < 2 ^ length old.crossings
    → Respects (λ x. circle_in new (flipped (length old.crossings) s) (f x)) (smoothings_of old.crossings s)
respects-turned f back old new s new_is turned below =
    let n = length old.crossings in
    let t = flipped n s in
    respects-across (λ x. circle_in new t (f x)) old.crossings s
    (λ place within.
    let k = place / 4 in
    let u = place % 4 in
    let k_below : k < n = omega (arith, within) in
    let at = turned.turned (k + 1) (record { positive = omega arith; within = omega (arith, k_below) }) in
    let v = (u + at.0) % 4 in
    let j = joined_slot (bit s k) u in
    let j_below : j < 4 = joined_slot-below (bit s k) u (omega arith) in
    let moved : (slot : ℕ) → slot < 4 → f (arc_at old.crossings (4 * k + slot)) ≡ arc_at new.crossings (4 * k + (slot + at.0) % 4) =
    λ slot slot_below.
    ap f (arc-placed old k slot slot_below) ∙ sym (at.2 slot slot_below)
    ∙ sym (arc-placed new k ((slot + at.0) % 4) (omega arith)) in
    let whole : 4 * k + u ≡ place = omega arith in
    let there : 4 * k + (j + at.0) % 4 ≡ across t (4 * k + v) =
    ap (λ w. 4 * k + w) (slots-turned (bit s k) (bit t k) u at.0 (omega (arith, bit-flipped n s k below k_below)) (omega arith) at.1)
    ∙ sym (across-slot t k v (omega arith)) in
    ap (λ x. circle_in new t x) (moved j j_below ∙ ap (λ w. arc_at new.crossings w) there)
    ∙ circles-across new t (4 * k + v) new_is (omega (arith, k_below, turned.size))
    ∙ ap (λ x. circle_in new t x) (sym (moved u (omega arith)) ∙ ap (λ w. f (arc_at old.crossings w)) whole))

onward-turned : (f back : ℕ → ℕ) (old new : Code) (s : ℕ) → IsTrue (accepted old) → IsTrue (accepted new) → IsTurned f back old new
    → s < 2 ^ length old.crossings → (x y : ℕ) → IsName old x → IsName old y → circle_in old s x ≡ circle_in old s y
    → circle_in new (flipped (length old.crossings) s) (f x) ≡ circle_in new (flipped (length old.crossings) s) (f y)
onward-turned f back old new s is new_is turned below x y x_name y_name same =
    grind (arith, nat_tests, classes-finest, circle_in, flipped, respects-turned, smoothings-below)

pub IsName-moved : (f back : ℕ → ℕ) (old new : Code) (x : ℕ) → IsRenaming (arc_count old.crossings + old.loops) f back
    → arc_count new.crossings + new.loops ≡ arc_count old.crossings + old.loops → IsName old x → IsName new (f x)
IsName-moved f back old new x names most name = omega arith

pub Corresponds-turned : (f back : ℕ → ℕ) (old new : Code) (s : ℕ) → IsTrue (accepted old) → IsTrue (accepted new)
    → IsTurned f back old new → s < 2 ^ length old.crossings → Corresponds f back old new s (flipped (length old.crossings) s)
Corresponds-turned f back old new s is new_is turned below =
    let n = length old.crossings in
    let t = flipped n s in
    let most = most-same f back old new turned in
    record {
      names = turned.names;
      most = most;
      onward = onward-turned f back old new s is new_is turned below;
      backward = λ x y x_name y_name same.
          let size = turned.size in
          let t_below : t < 2 ^ length new.crossings = subst (λ (m : ℕ). t < 2 ^ m) (sym size) (flipped-below n s) in
          let again : flipped (length new.crossings) t ≡ s = ap (λ m. flipped m t) size ∙ flipped-twice n s below in
          let law = onward-turned back f new old t new_is is (IsTurned-back f back old new is turned) t_below (f x) (f y)
          (IsName-moved f back old new x turned.names most x_name) (IsName-moved f back old new y turned.names most y_name) same in
          let home : (z : ℕ) → IsName old z → circle_in old (flipped (length new.crossings) t) (back (f z)) ≡ circle_in old s z =
          λ z name.
          ap (λ r. circle_in old r (back (f z))) again ∙ ap (λ w. circle_in old s w) (turned.names.there z name.positive name.within) in
          sym (home x x_name) ∙ law ∙ home y y_name;
    }
