-- A code with a kink is its code with a crossing added: so it is directed, keeps the components and the signs of the old
-- crossings, and has one crossing more, of the kink's sign; and the kinked arc is followed by the next two numbers. All this
-- comes from the lemmas on added crossings, once what they ask is shown: numbers above the arc rise by two, so that the arc has
-- three parts. The first two parts are inner numbers, those whose next number is of the same old arc. The two passes of the new
-- crossing enter on these two, one on each, and each leaves on the next number, whichever pass comes first. Any arc of an
-- accepted code can have a kink.
use Rattle.std.proofs.Common.{◌≡◌, ℕ, ◌⊎◌, inl, inr, ◌+◌, ◌<◌, ◌≤◌, ◌∙◌, List, length, sym, ap, subst, arith, Bool, true, false, not}
use Rattle.std.specs.Prelude.{if◌then◌else◌, IsTrue}
use Rattle.std.proofs.lemmas.Bool.Decides.{nat_tests}
use Rattle.kh_types.specs.Code.{Code, slots_of, arc_count, IsArc, IsCrossing}
use Rattle.kh_types.specs.Components.{component_count, next}
use Rattle.kh_types.specs.Directions.{is_positive, plus_count, minus_count}
use Rattle.kh_types.specs.Acceptance.{accepted}
use Rattle.kh_types.specs.Accepted.{IsDirected}
use Rattle.kh_types.proofs.DirectionLemmas.{plus_count-le}
use Rattle.kh_types.proofs.Heads.{HasNoSingleArcs-accepted}
use Rattle.kink_and_finger_laws.specs.KinkAdds.{raised}
use Rattle.kink_and_finger_laws.specs.KinkCodes.{one_where}
use Rattle.kink_and_finger_laws.proofs.MovableArcs.{IsKinkable}
use Rattle.kink_and_finger_laws.proofs.PassEnds.{HasPasses}
use Rattle.kink_and_finger_laws.proofs.KinkSlots.{kinked_crossings, last, length-kinked, slots_of-new, arc_of-head, arc_of-tail, under_start, over_start, HasPasses-kink}
use Rattle.kink_and_finger_laws.proofs.Opened.{lowered}
use Rattle.kink_and_finger_laws.proofs.RisenNumbers.{AreRisen}
use Rattle.kink_and_finger_laws.proofs.AddedCodes.{IsInner, IsNew, IsAdded}
use Rattle.kink_and_finger_laws.proofs.AddedRuns.{IsStep-inner}
use Rattle.kink_and_finger_laws.proofs.AddedSizes.{IsDirected-added, component_count-added, next-added}
use Rattle.kink_and_finger_laws.proofs.AddedSigns as signs
use Rattle.kink_and_finger_laws.proofs.AddedSigns.{plus_count-added}

AreRisen-kink : (a : ℕ) → 1 ≤ a → AreRisen (raised a) (last a) (lowered a)
AreRisen-kink a positive = grind (arith, nat_tests)

-- the first two of the three parts of a
pub IsInner-kink : (crossings : List (List ℕ)) (a k : ℕ) → IsArc crossings a → k < 2 → IsInner crossings (lowered a) (a + k)
IsInner-kink crossings a k is below = grind (arith, nat_tests)

pub IsNew-kink : (crossings : List (List ℕ)) (a : ℕ) (over positive : Bool)
    → IsNew crossings (kinked_crossings crossings a over positive) (length crossings + 1)
IsNew-kink crossings a over positive = record { past = omega arith; within = omega (arith, length-kinked crossings a over positive) }

pub IsAdded-kink : (crossings : List (List ℕ)) (a : ℕ) (over positive : Bool) → IsKinkable crossings a
    → IsAdded crossings (kinked_crossings crossings a over positive) (raised a) (last a) (lowered a) (λ k. positive)
IsAdded-kink crossings a over positive can =
    let new = kinked_crossings crossings a over positive in
    let size = length-kinked crossings a over positive in
    let inner : (k : ℕ) → k < 2 → IsInner crossings (lowered a) (a + k) = λ k below. IsInner-kink crossings a k can.arc below in
    let e : a + 0 ≡ a = omega arith in
    let tail : IsInner crossings (lowered a) a = subst (λ (y : ℕ). IsInner crossings (lowered a) y) e (inner 0 (omega arith)) in
    let passes = subst
    (λ slots. HasPasses slots positive (under_start over a) (under_start over a + 1) (over_start over a) (over_start over a + 1))
    (sym (slots_of-new crossings a over positive)) (HasPasses-kink over positive a) in
    record {
      directed = can.directed;
      no_single = can.no_single;
      numbers = AreRisen-kink a can.arc.positive;
      longer = omega (arith, size);
      count = count a (arc_count crossings) (arc_count new) can.arc.within (omega (arith, size));
      head = arc_of-head crossings a over positive;
      tail = arc_of-tail crossings a over positive;
      inside = λ k is.
          let at : length crossings + 1 ≡ k = omega (arith, is.past, is.within, size) in
          record {
            under = under_start over a;
            over = over_start over a;
            passes = subst
                (λ slots. HasPasses slots positive (under_start over a) (under_start over a + 1) (over_start over a) (over_start over a + 1))
                (ap (slots_of new) at) passes;
            under_inner = either (IsInner crossings (lowered a)) over (a + 1) a (inner 1 (omega arith)) tail;
            over_inner = either (IsInner crossings (lowered a)) over a (a + 1) tail (inner 1 (omega arith));
          };
      entered = λ y is. (
        length crossings + 1,
        IsNew-kink crossings a over positive,
        elim (part over a y is.same) [ inl under ↦ inl (passes.under_from ∙ under) | inr over ↦ inr (passes.over_from ∙ over) ],
      );
    }
  where
    count : (a m n : ℕ) → a ≤ m → n ≡ m + 2 → last a m ≡ n
    count a m n within is = grind (arith, nat_tests)

    either : (P : ℕ → Type 0) (over : Bool) (x y : ℕ) → P x → P y → P (if over then x else y)
    either P true x y at_x at_y = at_x
    either P false x y at_x at_y = at_y

    part : (over : Bool) (a y : ℕ) → lowered a (y + 1) ≡ lowered a y → (under_start over a ≡ y) ⊎ (over_start over a ≡ y)
    part over a y same = grind (arith, nat_tests)

-- any arc of an accepted code
pub IsKinkable-accepted : (code : Code) (a : ℕ) → IsTrue (accepted code) → IsArc code.crossings a → IsKinkable code.crossings a
IsKinkable-accepted code a holds arc = grind (arith, nat_tests, HasNoSingleArcs-accepted code holds)

pub IsDirected-kinked : (crossings : List (List ℕ)) (a : ℕ) (over positive : Bool) → IsKinkable crossings a
    → IsDirected (kinked_crossings crossings a over positive)
IsDirected-kinked crossings a over positive can = IsDirected-added (IsAdded-kink crossings a over positive can)

pub component_count-kinked : (crossings : List (List ℕ)) (a : ℕ) (over positive : Bool) → IsKinkable crossings a
    → component_count (kinked_crossings crossings a over positive) ≡ component_count crossings
component_count-kinked crossings a over positive can = component_count-added (IsAdded-kink crossings a over positive can)

-- the arcs that follow along a
pub next-first : (crossings : List (List ℕ)) (a : ℕ) (over positive : Bool) → IsKinkable crossings a
    → next (kinked_crossings crossings a over positive) a ≡ a + 1
next-first crossings a over positive can =
    let e : a + 0 ≡ a = omega arith in
    let added = IsAdded-kink crossings a over positive can in
    next-added added a (a + 1) (IsStep-inner added a (subst (λ (y : ℕ). IsInner crossings (lowered a) y) e (IsInner-kink crossings a 0 can.arc (omega arith))))

pub next-second : (crossings : List (List ℕ)) (a : ℕ) (over positive : Bool) → IsKinkable crossings a
    → next (kinked_crossings crossings a over positive) (a + 1) ≡ a + 2
next-second crossings a over positive can =
    let added = IsAdded-kink crossings a over positive can in
    next-added added (a + 1) (a + 1 + 1) (IsStep-inner added (a + 1) (IsInner-kink crossings a 1 can.arc (omega arith))) ∙ omega arith

pub sign-old : (crossings : List (List ℕ)) (a : ℕ) (over positive : Bool) (crossing : ℕ) → IsKinkable crossings a
    → IsCrossing crossings crossing
    → is_positive (kinked_crossings crossings a over positive) crossing ≡ is_positive crossings crossing
sign-old crossings a over positive crossing can is =
    signs.sign-old (IsAdded-kink crossings a over positive can) crossing 1 is (length-kinked crossings a over positive)

pub sign-new : (crossings : List (List ℕ)) (a : ℕ) (over positive : Bool) → IsKinkable crossings a
    → is_positive (kinked_crossings crossings a over positive) (length crossings + 1) ≡ positive
sign-new crossings a over positive can =
    signs.sign-new (IsAdded-kink crossings a over positive can) (length crossings + 1) (IsNew-kink crossings a over positive)

-- so there is one positive crossing more, or one negative
pub plus_count-kinked : (crossings : List (List ℕ)) (a : ℕ) (over positive : Bool) → IsKinkable crossings a
    → plus_count (kinked_crossings crossings a over positive) ≡ plus_count crossings + one_where positive
plus_count-kinked crossings a over positive can =
    plus_count-added (IsAdded-kink crossings a over positive can) 1 (length-kinked crossings a over positive)
    ∙ ap (λ k. plus_count crossings + k) (one positive)
  where
    one : (positive : Bool) → 0 + (if positive then 1 else 0) ≡ one_where positive
    one positive = grind (arith, nat_tests)

pub minus_count-kinked : (crossings : List (List ℕ)) (a : ℕ) (over positive : Bool) → IsKinkable crossings a
    → minus_count (kinked_crossings crossings a over positive) ≡ minus_count crossings + one_where (not positive)
minus_count-kinked crossings a over positive can =
    omega (
      arith,
      plus_count-kinked crossings a over positive can,
      length-kinked crossings a over positive,
      plus_count-le crossings,
      one_of_both positive,
    )
  where
    one_of_both : (positive : Bool) → one_where positive + one_where (not positive) ≡ 1
    one_of_both positive = grind (arith, nat_tests)
