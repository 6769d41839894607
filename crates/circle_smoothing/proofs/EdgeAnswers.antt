-- What an edge does, found from the numbers of the circles at the slots 0 and 2 of its crossing.
use Rattle.std.proofs.lemmas.Bool.Decides.{nat_tests}
use Rattle.std.proofs.Common.{◌≡◌, ◌≢◌, ℕ, ◌⊎◌, inl, inr, ◌<◌, ◌∙◌, refl, sym, ap, subst, arith, IsTrue}
use Rattle.std.specs.Prelude.{min, max}
use Rattle.kh_types.specs.Acceptance.{accepted}
use Rattle.kh_types.specs.Bits.{bit}
use Rattle.kh_types.specs.Code.{Code, IsCrossing, place_of}
use Rattle.kh_types.specs.CircleNumbers.{circle_number, number_of}
use Rattle.circle_smoothing.specs.Edges.{HasNumbersBelow, HaveMerged, IsEdge}
use Rattle.kh_types.specs.Edges.{arc_at_slot, state_behind}
use Rattle.circle_smoothing.specs.declared.change.Edge.{Edge}
use Rattle.circle_smoothing.specs.declared.change.Edge.TheVariants.{Merge, Split}
use Rattle.kh_types.proofs.EdgeNames.{IsJoin, IsJoin-edge, circle_at}
use Rattle.circle_smoothing.proofs.EdgeNumbers.{HaveMerged-join, IsCircle-slot, gone_of, kept_of, number-kept}
use Rattle.kh_types.proofs.CircleNumbers.{number_of-max, number_of-min, number_of-one}

-- the number of the circle of the arc at a slot
abbrev pub number_at_slot : Code → ℕ → ℕ → ℕ → ℕ
number_at_slot code state crossing slot = circle_number code state (arc_at_slot code crossing slot)

-- what is such a number, by what equals its parts
pub is_number_at_slot : (code other : Code) (state there arc crossing slot number : ℕ) → number ≡ circle_number other there arc
    → other ≡ code → there ≡ state → arc ≡ arc_at_slot code crossing slot → number ≡ number_at_slot code state crossing slot
is_number_at_slot code other state there arc crossing slot number is is_code is_state is_arc = rw (is, is_code, is_state, is_arc) refl

-- afterwards the arc at slot 0 or 2 is on the circle that is kept
circle-after : (code : Code) (before after crossing slot : ℕ) → IsTrue (accepted code) → IsCrossing code.crossings crossing
    → IsJoin code before after crossing → (slot ≡ 0) ⊎ (slot ≡ 2) → circle_at code after crossing slot ≡ kept_of code before crossing
circle-after code before after crossing slot is is_crossing join either = grind (arith, nat_tests)

-- so its number is that of the kept circle, before and after
number-after : (code : Code) (before after crossing slot : ℕ) → IsTrue (accepted code) → IsCrossing code.crossings crossing
    → IsJoin code before after crossing → (slot ≡ 0) ⊎ (slot ≡ 2)
    → number_at_slot code after crossing slot ≡ number_of code before (kept_of code before crossing)
number-after code before after crossing slot is is_crossing join either =
    ap (number_of code after) (circle-after code before after crossing slot is is_crossing join either)
    ∙ number-kept code before after crossing is is_crossing join

-- the two circles before have different numbers, of which the lesser is that of the kept circle
numbers-apart : (code : Code) (before after crossing : ℕ) → IsTrue (accepted code) → IsCrossing code.crossings crossing
    → IsJoin code before after crossing → number_at_slot code before crossing 0 ≢ number_at_slot code before crossing 2
numbers-apart code before after crossing is is_crossing join same =
    join.join.apart
    (number_of-one code before (circle_at code before crossing 0) (circle_at code before crossing 2)
    (IsCircle-slot code before crossing 0 is is_crossing (omega arith)) (IsCircle-slot code before crossing 2 is is_crossing (omega arith))
    same)

numbers-together : (code : Code) (before after crossing : ℕ) → IsTrue (accepted code) → IsCrossing code.crossings crossing
    → IsJoin code before after crossing → number_at_slot code after crossing 0 ≡ number_at_slot code after crossing 2
numbers-together code before after crossing is is_crossing join = grind (arith, nat_tests)

-- what the numbers at the two slots say of a merge
HaveMerged-slots : (code : Code) (before after crossing : ℕ) → IsTrue (accepted code) → IsCrossing code.crossings crossing
    → IsJoin code before after crossing
    → HaveMerged code before after crossing
    (min (number_at_slot code before crossing 0) (number_at_slot code before crossing 2))
    (max (number_at_slot code before crossing 0) (number_at_slot code before crossing 2)) (number_at_slot code after crossing 0)
HaveMerged-slots code before after crossing is is_crossing join =
    let x = circle_at code before crossing 0 in
    let y = circle_at code before crossing 2 in
    let x_is = IsCircle-slot code before crossing 0 is is_crossing (omega arith) in
    let y_is = IsCircle-slot code before crossing 2 is is_crossing (omega arith) in
    let kept = number_of code before (kept_of code before crossing) in
    let gone = number_of code before (gone_of code before crossing) in
    subst (λ (to : ℕ). HaveMerged code before after crossing (min (number_of code before x) (number_of code before y))
    (max (number_of code before x) (number_of code before y)) to)
    (sym (number-after code before after crossing 0 is is_crossing join (inl (omega arith))))
    (subst (λ (a : ℕ). HaveMerged code before after crossing a (max (number_of code before x) (number_of code before y)) kept)
    (number_of-min code before x y x_is y_is)
    (subst (λ (b : ℕ). HaveMerged code before after crossing kept b kept) (number_of-max code before x y x_is y_is)
    (HaveMerged-join code before after crossing is is_crossing join)))

-- where the numbers before differ it is a merge
pub IsEdge-merge : (code : Code) (state crossing x y to : ℕ) (change : Edge) → IsTrue (accepted code)
    → IsCrossing code.crossings crossing → bit state (place_of crossing) ≡ 0 → x ≡ number_at_slot code state crossing 0
    → y ≡ number_at_slot code state crossing 2 → to ≡ number_at_slot code (state_behind state crossing) crossing 0
    → change ≡ Merge (min x y) (max x y) to → x ≢ y → IsEdge code state crossing change
IsEdge-merge code state crossing x y to change is is_crossing zero is_x is_y is_to is_change differ =
    let behind = state_behind state crossing in
    let first = number_at_slot code state crossing 0 in
    let third = number_at_slot code state crossing 2 in
    let merged : IsEdge code state crossing (Merge (min first third) (max first third) (number_at_slot code behind crossing 0)) =
    elim (IsJoin-edge code state crossing is is_crossing zero) [
      | inl forth ↦ HaveMerged-slots code state behind crossing is is_crossing forth
      | inr back ↦ absurd (differ (is_x ∙ numbers-together code behind state crossing is is_crossing back ∙ sym is_y))
    ] in
    rw (is_change, is_x, is_y, is_to) merged

-- and where they are the same a split
pub IsEdge-split : (code : Code) (state crossing x y a b : ℕ) (change : Edge) → IsTrue (accepted code)
    → IsCrossing code.crossings crossing → bit state (place_of crossing) ≡ 0 → x ≡ number_at_slot code state crossing 0
    → y ≡ number_at_slot code state crossing 2 → a ≡ number_at_slot code (state_behind state crossing) crossing 0
    → b ≡ number_at_slot code (state_behind state crossing) crossing 2 → change ≡ Split x (min a b) (max a b) → x ≡ y
    → IsEdge code state crossing change
IsEdge-split code state crossing x y a b change is is_crossing zero is_x is_y is_a is_b is_change same =
    let behind = state_behind state crossing in
    let first = number_at_slot code behind crossing 0 in
    let third = number_at_slot code behind crossing 2 in
    let parted : IsEdge code state crossing (Split (number_at_slot code state crossing 0) (min first third) (max first third)) =
    elim (IsJoin-edge code state crossing is is_crossing zero) [
      | inl forth ↦ absurd (numbers-apart code state behind crossing is is_crossing forth (sym is_x ∙ same ∙ is_y))
      | inr back ↦ HaveMerged-slots code behind state crossing is is_crossing back
    ] in
    rw (is_change, is_x, is_a, is_b) parted

-- the numbers that it names are those of circles
pub HasNumbersBelow-merge : (limit x y to : ℕ) (change : Edge) → change ≡ Merge (min x y) (max x y) to → x < limit → y < limit
    → to < limit → HasNumbersBelow limit change
HasNumbersBelow-merge limit x y to change is x_below y_below to_below = rw is (omega arith, omega arith, to_below)

pub HasNumbersBelow-split : (limit x a b : ℕ) (change : Edge) → change ≡ Split x (min a b) (max a b) → x < limit → a < limit
    → b < limit → HasNumbersBelow limit change
HasNumbersBelow-split limit x a b change is x_below a_below b_below = rw is (x_below, omega arith, omega arith)
