-- A code with a finger is its code with two crossings added: so it is directed, keeps the components and the signs of the old
-- crossings, and has one crossing more of each sign; and each of its two arcs is followed by the next two numbers. All this comes
-- from the lemmas on added crossings, once what they ask is shown: numbers rise by two above each of the two arcs, so that each
-- of these has three parts. The first two parts are inner numbers, those whose next number is of the same old arc. The passes of
-- the new crossings go from an inner number to the next one, and each inner number is entered by one of the two crossings,
-- whichever of them the under arc passes first. Any two different arcs of an accepted code can have a finger.
use Rattle.std.proofs.Common.{◌≡◌, ◌≢◌, ℕ, ◌⊎◌, inl, inr, ◌+◌, ◌<◌, ◌≤◌, ◌∙◌, List, length, refl, sym, ap, subst, arith, Bool, true, false, not}
use Rattle.std.specs.Prelude.{nat_eq, if◌then◌else◌, IsTrue}
use Rattle.std.proofs.lemmas.Bool.Decides.{nat_tests}
use Rattle.kh_types.specs.Code.{Code, slots_of, arc_count, IsArc, IsCrossing}
use Rattle.kh_types.specs.Components.{component_count}
use Rattle.kh_types.specs.Directions.{is_positive, plus_count, minus_count}
use Rattle.kh_types.specs.Acceptance.{accepted}
use Rattle.kh_types.specs.Accepted.{IsDirected}
use Rattle.kh_types.proofs.DirectionLemmas.{plus_count-le}
use Rattle.kh_types.proofs.Heads.{HasNoSingleArcs-accepted}
use Rattle.kink_and_finger_laws.specs.FingerAdd.{opened, head_number, fingered_crossings, IsFollowed}
use Rattle.kink_and_finger_laws.proofs.MovableArcs.{AreFingerable}
use Rattle.kink_and_finger_laws.proofs.PassEnds.{HasPasses}
use Rattle.kink_and_finger_laws.proofs.FingerSlots.{length-fingered, arc_of-head, arc_of-tail, first_start, second_start, HasPasses-first, HasPasses-second}
use Rattle.kink_and_finger_laws.proofs.Opened.{low, IsOneOf, low-opened, low-head_number}
use Rattle.kink_and_finger_laws.proofs.RisenNumbers.{AreRisen}
use Rattle.kink_and_finger_laws.proofs.AddedCodes.{IsInner, IsInside, IsNew, IsAdded}
use Rattle.kink_and_finger_laws.proofs.AddedRuns.{IsStep-inner}
use Rattle.kink_and_finger_laws.proofs.AddedSizes.{IsDirected-added, component_count-added, next-added}
use Rattle.kink_and_finger_laws.proofs.AddedSigns as signs
use Rattle.kink_and_finger_laws.proofs.AddedSigns.{plus_count-added}

AreRisen-finger : (a b : ℕ) → a ≢ b → 1 ≤ a → 1 ≤ b → AreRisen (opened a b) (head_number a b) (low a b)
AreRisen-finger a b apart over under = record {
  zero = zero a b over under;
  next = λ x. next a b x apart;
  from = λ y. from a b y apart;
  to = λ y. to a b y apart;
  low_rise = λ x. low-opened a b x apart;
  low_end = λ x. low-head_number a b x apart;
}
  where
    zero : (a b : ℕ) → 1 ≤ a → 1 ≤ b → head_number a b 0 ≡ 0
    zero a b over under = grind (arith, nat_tests)

    next : (a b x : ℕ) → a ≢ b → opened a b (x + 1) ≡ head_number a b x + 1
    next a b x apart = grind (arith, nat_tests)

    from : (a b y : ℕ) → a ≢ b → opened a b (low a b y) ≤ y
    from a b y apart = grind (arith, nat_tests)

    to : (a b y : ℕ) → a ≢ b → y ≤ head_number a b (low a b y)
    to a b y apart = grind (arith, nat_tests)

-- the first two of the three parts of each of the two arcs
pub IsInner-finger : (crossings : List (List ℕ)) (a b x k : ℕ) → a ≢ b → IsOneOf a b x → IsArc crossings x → k < 2
    → IsInner crossings (low a b) (opened a b x + k)
IsInner-finger crossings a b x k apart one is below = grind (arith, nat_tests)

pub IsInner-start : (crossings : List (List ℕ)) (a b x : ℕ) → a ≢ b → IsOneOf a b x → IsArc crossings x
    → IsInner crossings (low a b) (opened a b x)
IsInner-start crossings a b x apart one is = grind (arith, nat_tests)

-- the last part of each of the two arcs, and of the others
pub head_number-own : (a b x : ℕ) → IsOneOf a b x → head_number a b x ≡ opened a b x + 1 + 1
head_number-own a b x one = grind (arith, nat_tests)

pub head_number-uncut : (a b x : ℕ) → x ≢ a → x ≢ b → opened a b x ≡ head_number a b x
head_number-uncut a b x not_a not_b = grind (arith, nat_tests)

-- the sign of the first new crossing, and of the second
abbrev pub finger_sign : List (List ℕ) → Bool → ℕ → Bool
finger_sign crossings positive k = if nat_eq k (length crossings + 1) then positive else not positive

sign-first_is : (crossings : List (List ℕ)) (positive : Bool) → finger_sign crossings positive (length crossings + 1) ≡ positive
sign-first_is crossings positive = grind (arith, nat_tests)

sign-second_is : (crossings : List (List ℕ)) (positive : Bool) → finger_sign crossings positive (length crossings + 2) ≡ not positive
sign-second_is crossings positive = grind (arith, nat_tests)

pub IsNew-finger : (crossings : List (List ℕ)) (a b k : ℕ) (positive ordered : Bool) → 1 ≤ k → k ≤ 2
    → IsNew crossings (fingered_crossings crossings a b positive ordered) (length crossings + k)
IsNew-finger crossings a b k positive ordered from to = grind (arith, nat_tests, from, to, length-fingered crossings a b positive ordered)

pub IsAdded-finger : (crossings : List (List ℕ)) (a b : ℕ) (positive ordered : Bool) → AreFingerable crossings a b
    → IsAdded crossings (fingered_crossings crossings a b positive ordered) (opened a b) (head_number a b) (low a b)
    (finger_sign crossings positive)
IsAdded-finger crossings a b positive ordered can =
    let new = fingered_crossings crossings a b positive ordered in
    let n = length crossings in
    let size = length-fingered crossings a b positive ordered in
    let sign = finger_sign crossings positive in
    let over = opened a b a in
    let under = opened a b b in
    let Passes : ℕ → ℕ → ℕ → Type 0 = λ k u s. HasPasses (slots_of new k) (sign k) u (u + 1) s (s + 1) in
    let first : Passes (n + 1) (first_start ordered under) over =
    subst (λ p. HasPasses (slots_of new (n + 1)) p (first_start ordered under) (first_start ordered under + 1) over (over + 1))
    (sym (sign-first_is crossings positive)) (HasPasses-first crossings a b positive ordered) in
    let second : Passes (n + 2) (second_start ordered under) (over + 1) =
    subst (λ p. HasPasses (slots_of new (n + 2)) p (second_start ordered under) (second_start ordered under + 1) (over + 1) (over + 1 + 1))
    (sym (sign-second_is crossings positive)) (HasPasses-second crossings a b positive ordered) in
    let Inner : ℕ → Type 0 = IsInner crossings (low a b) in
    let over_start = IsInner-start crossings a b a can.apart (inl refl) can.over in
    let over_middle = IsInner-finger crossings a b a 1 can.apart (inl refl) can.over (omega arith) in
    let under_start = IsInner-start crossings a b b can.apart (inr refl) can.under in
    let under_middle = IsInner-finger crossings a b b 1 can.apart (inr refl) can.under (omega arith) in
    let first_new = IsNew-finger crossings a b 1 positive ordered (omega arith) (omega arith) in
    let second_new = IsNew-finger crossings a b 2 positive ordered (omega arith) (omega arith) in
    record {
      directed = can.directed;
      no_single = can.no_single;
      numbers = AreRisen-finger a b can.apart can.over.positive can.under.positive;
      longer = omega (arith, size);
      count = count a b (arc_count crossings) (arc_count new) can.apart can.over.within can.under.within (omega (arith, size));
      head = arc_of-head crossings a b positive ordered;
      tail = arc_of-tail crossings a b positive ordered;
      inside = λ k is. elim (one_or_two n k is.past (omega (arith, is.within, size))) [
        | inl is_first ↦
            subst (λ j. IsInside crossings (low a b) (slots_of new j) (sign j)) (sym is_first)
            (record {
              under = first_start ordered under;
              over = over;
              passes = first;
              under_inner = either Inner ordered under (under + 1) under_start under_middle;
              over_inner = over_start;
            })
        | inr is_second ↦
            subst (λ j. IsInside crossings (low a b) (slots_of new j) (sign j)) (sym is_second)
            (record {
              under = second_start ordered under;
              over = over + 1;
              passes = second;
              under_inner = either Inner ordered (under + 1) under under_middle under_start;
              over_inner = over_middle;
            })
      ];
      entered = λ y is. elim (parts ordered a b y can.apart is.same) [
        | inl at_under ↦ elim at_under [
          | inl one ↦ (n + 1, first_new, inl (first.under_from ∙ one))
          | inr two ↦ (n + 2, second_new, inl (second.under_from ∙ two))
        ]
        | inr at_over ↦ elim at_over [
          | inl one ↦ (n + 1, first_new, inr (first.over_from ∙ one))
          | inr two ↦ (n + 2, second_new, inr (second.over_from ∙ two))
        ]
      ];
    }
  where
    count : (a b m k : ℕ) → a ≢ b → a ≤ m → b ≤ m → k ≡ m + 4 → head_number a b m ≡ k
    count a b m k apart over under is = grind (arith, nat_tests)

    one_or_two : (n k : ℕ) → n < k → k ≤ n + 2 → (k ≡ n + 1) ⊎ (k ≡ n + 2)
    one_or_two n k past within = grind arith

    either : (P : ℕ → Type 0) (ordered : Bool) (x y : ℕ) → P x → P y → P (if ordered then x else y)
    either P true x y at_x at_y = at_x
    either P false x y at_x at_y = at_y

    parts : (ordered : Bool) (a b y : ℕ) → a ≢ b → low a b (y + 1) ≡ low a b y
        → ((first_start ordered (opened a b b) ≡ y) ⊎ (second_start ordered (opened a b b) ≡ y))
        ⊎ ((opened a b a ≡ y) ⊎ (opened a b a + 1 ≡ y))
    parts ordered a b y apart same = grind (arith, nat_tests)

-- any two arcs of an accepted code
pub AreFingerable-accepted : (code : Code) (a b : ℕ) → IsTrue (accepted code) → IsArc code.crossings a → IsArc code.crossings b → a ≢ b
    → AreFingerable code.crossings a b
AreFingerable-accepted code a b holds over under apart = grind (arith, nat_tests, HasNoSingleArcs-accepted code holds)

pub IsDirected-fingered : (crossings : List (List ℕ)) (a b : ℕ) (positive ordered : Bool) → AreFingerable crossings a b
    → IsDirected (fingered_crossings crossings a b positive ordered)
IsDirected-fingered crossings a b positive ordered can = IsDirected-added (IsAdded-finger crossings a b positive ordered can)

pub component_count-fingered : (crossings : List (List ℕ)) (a b : ℕ) (positive ordered : Bool) → AreFingerable crossings a b
    → component_count (fingered_crossings crossings a b positive ordered) ≡ component_count crossings
component_count-fingered crossings a b positive ordered can = component_count-added (IsAdded-finger crossings a b positive ordered can)

-- the arcs that follow along each of the two arcs
pub IsFollowed-fingered : (crossings : List (List ℕ)) (a b x : ℕ) (positive ordered : Bool) → AreFingerable crossings a b → IsOneOf a b x
    → IsArc crossings x → IsFollowed (fingered_crossings crossings a b positive ordered) (opened a b x)
IsFollowed-fingered crossings a b x positive ordered can one is =
    let added = IsAdded-finger crossings a b positive ordered can in
    let y = opened a b x in
    record {
      first = next-added added y (y + 1) (IsStep-inner added y (IsInner-start crossings a b x can.apart one is));
      second = next-added added (y + 1) (y + 1 + 1)
          (IsStep-inner added (y + 1) (IsInner-finger crossings a b x 1 can.apart one is (omega arith)))
          ∙ omega arith;
    }

pub sign-old : (crossings : List (List ℕ)) (a b : ℕ) (positive ordered : Bool) (crossing : ℕ) → AreFingerable crossings a b
    → IsCrossing crossings crossing
    → is_positive (fingered_crossings crossings a b positive ordered) crossing ≡ is_positive crossings crossing
sign-old crossings a b positive ordered crossing can is =
    signs.sign-old (IsAdded-finger crossings a b positive ordered can) crossing 2 is (length-fingered crossings a b positive ordered)

pub sign-first : (crossings : List (List ℕ)) (a b : ℕ) (positive ordered : Bool) → AreFingerable crossings a b
    → is_positive (fingered_crossings crossings a b positive ordered) (length crossings + 1) ≡ positive
sign-first crossings a b positive ordered can =
    signs.sign-new (IsAdded-finger crossings a b positive ordered can) (length crossings + 1)
    (IsNew-finger crossings a b 1 positive ordered (omega arith) (omega arith))
    ∙ sign-first_is crossings positive

pub sign-second : (crossings : List (List ℕ)) (a b : ℕ) (positive ordered : Bool) → AreFingerable crossings a b
    → is_positive (fingered_crossings crossings a b positive ordered) (length crossings + 2) ≡ not positive
sign-second crossings a b positive ordered can =
    signs.sign-new (IsAdded-finger crossings a b positive ordered can) (length crossings + 2)
    (IsNew-finger crossings a b 2 positive ordered (omega arith) (omega arith))
    ∙ sign-second_is crossings positive

-- so there is a positive and a negative crossing more
pub plus_count-fingered : (crossings : List (List ℕ)) (a b : ℕ) (positive ordered : Bool) → AreFingerable crossings a b
    → plus_count (fingered_crossings crossings a b positive ordered) ≡ plus_count crossings + 1
plus_count-fingered crossings a b positive ordered can =
    plus_count-added (IsAdded-finger crossings a b positive ordered can) 2 (length-fingered crossings a b positive ordered)
    ∙ ap (λ k. plus_count crossings + k) (one positive (length crossings))
  where
    one : (positive : Bool) (n : ℕ)
        → 0 + (if (if nat_eq (1 + n) (n + 1) then positive else not positive) then 1 else 0)
        + (if (if nat_eq (1 + n + 1) (n + 1) then positive else not positive) then 1 else 0) ≡ 1
    one positive n = grind (arith, nat_tests)

pub minus_count-fingered : (crossings : List (List ℕ)) (a b : ℕ) (positive ordered : Bool) → AreFingerable crossings a b
    → minus_count (fingered_crossings crossings a b positive ordered) ≡ minus_count crossings + 1
minus_count-fingered crossings a b positive ordered can = grind (arith, nat_tests, plus_count-fingered, length-fingered, plus_count-le)
