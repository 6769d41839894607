-- Codes to which crossings were added on arcs of a directed code: an old crossing is entered on the last number of an arc and
-- left on its first, and the new crossings pass from each number of an arc to the next. Their arcs stand twice. First what is
-- asked of such a code and its numbers. Its slots hold arcs, since each number belongs to an old arc. The ends of old arcs keep
-- the first and the last number. A number that is not the last of its arc enters a new crossing, and one that is not the first
-- leaves one; the last enters the crossing at the old head, and the first leaves that at the old tail. So each number has two
-- darts, one by which it enters and one by which it leaves, and these differ.
use Rattle.std.proofs.Common.{◌≡◌, ◌≢◌, ℕ, ◌⊎◌, inl, inr, ◌+◌, ◌-◌, ◌<◌, ◌≤◌, ◌∙◌, List, length, refl, sym, ap, subst, arith, Bool, true, false}
use Rattle.std.specs.Prelude.{nat_lt, if◌then◌else◌}
use Rattle.std.proofs.lemmas.Bool.{cases_eq, cases_lt, cases_Bool, false_from_ne_true}
use Rattle.std.proofs.lemmas.Bool.Decides.{nat_tests}
use Rattle.kh_types.specs.declared.dart.Dart.{Dart}
use Rattle.kh_types.specs.Code.{arc_in, slots_of, arc_count, IsArc, IsCrossing}
use Rattle.kh_types.specs.Darts.{arc_of, IsDart}
use Rattle.kh_types.specs.Directions.{is_head, is_positive, head_of, tail_of, HasEnds, HasNoSingleArcs}
use Rattle.kh_types.specs.Accepted.{IsDirected}
use Rattle.kh_types.proofs.Heads.{HasEnds-directed}
use Rattle.gluing_laws.specs.Arcs.{enters}
use Rattle.kink_and_finger_laws.specs.FingerAdd.{dart_with}
use Rattle.kink_and_finger_laws.proofs.TwiceCounts.{HasTwoPlaces}
use Rattle.kink_and_finger_laws.proofs.Passed.{HasTwoPlaces-darts}
use Rattle.kink_and_finger_laws.proofs.PassEnds.{over_from, over_to, over_from-below, over_to-below, HasPasses, slot_of_pass}
use Rattle.kink_and_finger_laws.proofs.RisenNumbers.{AreRisen, end-le, low-positive, low-within, low-between, rise-positive}

-- a number and the next are of one old arc
pub record IsInner (old : List (List ℕ)) (low : ℕ → ℕ) (y : ℕ) : Type 0 where
  pub is_arc : IsArc old (low y)
  pub same : low (y + 1) ≡ low y

-- a crossing whose passes enter on two such numbers, and leave on the next
pub record IsInside (old : List (List ℕ)) (low : ℕ → ℕ) (slots : List ℕ) (positive : Bool) : Type 0 where
  pub under : ℕ
  pub over : ℕ
  pub passes : HasPasses slots positive under (under + 1) over (over + 1)
  pub under_inner : IsInner old low under
  pub over_inner : IsInner old low over

pub record IsNew (old new : List (List ℕ)) (k : ℕ) : Type 0 where
  pub past : length old < k
  pub within : k ≤ length new

pub record IsAdded (old new : List (List ℕ)) (rise end low : ℕ → ℕ) (sign : ℕ → Bool) : Type 0 where
  pub directed : IsDirected old
  pub no_single : HasNoSingleArcs old
  pub numbers : AreRisen rise end low
  pub longer : length old ≤ length new
  pub count : end (arc_count old) ≡ arc_count new
  pub head : (dart : Dart) → IsDart old dart → is_head old dart ≡ true → arc_of new dart ≡ end (arc_of old dart)
  pub tail : (dart : Dart) → IsDart old dart → is_head old dart ≡ false → arc_of new dart ≡ rise (arc_of old dart)
  pub inside : (k : ℕ) → IsNew old new k → IsInside old low (slots_of new k) (sign k)
  pub entered : (y : ℕ) → IsInner old low y → (k : ℕ) × IsNew old new k
      × ((arc_in (slots_of new k) 0 ≡ y) ⊎ (arc_in (slots_of new k) (over_from (sign k)) ≡ y))

module _ {old new : List (List ℕ)} {rise end low : ℕ → ℕ} {sign : ℕ → Bool}
    (added : IsAdded old new rise end low sign) where
  pub IsArc-of : (y : ℕ) → IsArc old (low y) → IsArc new y
  IsArc-of y is =
      grind (arith, nat_tests, rise-positive added.numbers (low y) is.positive, end-le added.numbers (low y) (arc_count old) is.within)

  pub IsArc-low : (y : ℕ) → IsArc new y → IsArc old (low y)
  IsArc-low y is = record {
    positive = low-positive added.numbers y is.positive;
    within = low-within added.numbers (arc_count old) y (omega (arith, is.within, added.count));
  }

  pub IsDart-old : (dart : Dart) → IsDart old dart → IsDart new dart
  IsDart-old dart is = omega arith

  pub IsDart-new : (k slot : ℕ) → IsNew old new k → slot < 4 → IsDart new (dart_with k slot)
  IsDart-new k slot is below = omega arith

  pub crossing-cases : (k : ℕ) → IsCrossing new k → IsCrossing old k ⊎ IsNew old new k
  crossing-cases k is = grind (arith, nat_tests, cases_lt (length old) k)

  -- what is so of the parts of arcs is so at each slot of a new crossing
  pub new_slot-all : (P : ℕ → Type 0) (k slot : ℕ) → IsNew old new k → slot < 4
      → ((y : ℕ) → IsInner old low y → P y × P (y + 1)) → P (arc_in (slots_of new k) slot)
  new_slot-all P k slot is below holds =
      let inside = added.inside k is in
      let under = holds inside.under inside.under_inner in
      let over = holds inside.over inside.over_inner in
      slot_of_pass P (slots_of new k) (sign k) inside.under (inside.under + 1) inside.over (inside.over + 1) slot inside.passes
      under.0 under.1 over.0 over.1 below

  -- the slots hold arcs
  pub slots-added : (dart : Dart) → IsDart new dart → IsArc new (arc_of new dart)
  slots-added dart is = IsArc-of (arc_of new dart) (elim (crossing-cases dart.crossing is.crossing) [
    | inl here ↦
        let old_dart : IsDart old dart = record { crossing = here; slot = is.slot } in
        let P : ℕ → Type 0 = λ z. IsArc old z in
        let arc = added.directed.slots dart old_dart in
        elim (cases_Bool (is_head old dart)) [
          | inl head ↦ subst P (sym (ap low (added.head dart old_dart head) ∙ added.numbers.low_end (arc_of old dart))) arc
          | inr tail ↦ subst P (sym (ap low (added.tail dart old_dart tail) ∙ added.numbers.low_rise (arc_of old dart))) arc
        ]
    | inr there ↦
        new_slot-all (λ z. IsArc old (low z)) dart.crossing dart.slot there is.slot
        (λ y inner. (inner.is_arc, subst (λ (z : ℕ). IsArc old z) (sym inner.same) inner.is_arc))
  ])

  -- the ends of old arcs
  pub tail_dart : (x : ℕ) → HasEnds old x → arc_of new (tail_of old x) ≡ rise x
  tail_dart x ends = grind (arith, nat_tests, false_from_ne_true (is_head old (tail_of old x)) ends.leaves)

  pub head_dart : (x : ℕ) → HasEnds old x → arc_of new (head_of old x) ≡ end x
  head_dart x ends = added.head (head_of old x) ends.head.within ends.enters ∙ ap end ends.head.on_arc

  pub arc_of-uncut : (dart : Dart) → IsDart old dart → rise (arc_of old dart) ≡ end (arc_of old dart) → arc_of new dart ≡ rise (arc_of old dart)
  arc_of-uncut dart is uncut = grind (arith, nat_tests, cases_Bool (is_head old dart))

  -- the sign of any crossing, and whether an arc enters there at a dart
  sign_of : ℕ → Bool
  sign_of k = if nat_lt (length old) k then sign k else is_positive old k

  sign_of-new : (k : ℕ) → length old < k → sign_of k ≡ sign k
  unfolding sign_of
  sign_of-new k past = plain (length old) k (sign k) (is_positive old k) past
    where
      plain : (n k : ℕ) (x y : Bool) → n < k → (if nat_lt n k then x else y) ≡ x
      plain n k x y past = grind (arith, nat_tests)

  sign_of-old : (k : ℕ) → k ≤ length old → sign_of k ≡ is_positive old k
  unfolding sign_of
  sign_of-old k within = plain (length old) k (sign k) (is_positive old k) within
    where
      plain : (n k : ℕ) (x y : Bool) → k ≤ n → (if nat_lt n k then x else y) ≡ y
      plain n k x y within = grind (arith, nat_tests)

  -- a dart of a number, by which it enters its crossing or leaves it
  record HasEnd (y : ℕ) (entering : Bool) : Type 0 where
    dart : Dart
    within : IsDart new dart
    on : arc_of new dart ≡ y
    kind : enters (sign_of dart.crossing) dart.slot ≡ entering

  HasEnd-old : (dart : Dart) (y : ℕ) (entering : Bool) → IsDart old dart → arc_of new dart ≡ y → is_head old dart ≡ entering
      → HasEnd y entering
  HasEnd-old dart y entering is on kind = record {
    dart = dart;
    within = IsDart-old dart is;
    on = on;
    kind = ap (λ s. enters s dart.slot) (sign_of-old dart.crossing is.crossing.within) ∙ kind;
  }

  HasEnd-new : (k slot y : ℕ) (entering : Bool) → IsNew old new k → slot < 4 → arc_in (slots_of new k) slot ≡ y
      → enters (sign k) slot ≡ entering → HasEnd y entering
  HasEnd-new k slot y entering is below on kind = record {
    dart = dart_with k slot;
    within = IsDart-new k slot is below;
    on = on;
    kind = ap (λ s. enters s slot) (sign_of-new k is.past) ∙ kind;
  }

  -- both numbers of a pass of a new crossing
  inner-ends : (y : ℕ) → IsInner old low y → HasEnd y true × HasEnd (y + 1) false
  inner-ends y inner =
      let k = (added.entered y inner).0 in
      let is = (added.entered y inner).1 in
      let passes = (added.inside k is).passes in
      elim (added.entered y inner).2 [
        | inl under ↦ (
          HasEnd-new k 0 y true is (omega arith) under refl,
          HasEnd-new k 2 (y + 1) false is (omega arith) (passes.under_to ∙ ap (λ z. z + 1) (sym passes.under_from ∙ under))
              (under_leaves (sign k)),
        )
        | inr over ↦ (
          HasEnd-new k (over_from (sign k)) y true is (over_from-below (sign k)) over (over_enters (sign k)),
          HasEnd-new k (over_to (sign k)) (y + 1) false is (over_to-below (sign k))
              (passes.over_to ∙ ap (λ z. z + 1) (sym passes.over_from ∙ over)) (over_leaves (sign k)),
        )
      ]
    where
      under_leaves : (positive : Bool) → enters positive 2 ≡ false
      under_leaves true = refl
      under_leaves false = refl

      over_enters : (positive : Bool) → enters positive (over_from positive) ≡ true
      over_enters true = refl
      over_enters false = refl

      over_leaves : (positive : Bool) → enters positive (over_to positive) ≡ false
      over_leaves true = refl
      over_leaves false = refl

  -- a number that is not the last of its arc
  pub IsInner-below : (y : ℕ) → IsArc new y → y ≢ end (low y) → IsInner old low y
  IsInner-below y is other = record {
    is_arc = IsArc-low y is;
    same = low-between added.numbers (low y) (y + 1) (omega (arith, added.numbers.from y)) (omega (arith, added.numbers.to y, other));
  }

  -- and one that is not the first
  pub IsInner-above : (y : ℕ) → IsArc new (y + 1) → y + 1 ≢ rise (low (y + 1)) → IsInner old low y
  IsInner-above y is other =
      let x = low (y + 1) in
      let here : low y ≡ x =
      low-between added.numbers x y (omega (arith, added.numbers.from (y + 1), other)) (omega (arith, added.numbers.to (y + 1))) in
      record { is_arc = subst (λ (z : ℕ). IsArc old z) (sym here) (IsArc-low (y + 1) is); same = sym here }

  -- each number enters a crossing and leaves one
  ends-old : (y : ℕ) → IsArc new y → HasEnds old (low y)
  ends-old y is = HasEnds-directed old added.directed added.no_single (low y) (IsArc-low y is)

  entering : (y : ℕ) → IsArc new y → HasEnd y true
  entering y is = elim (cases_eq y (end (low y))) [
    | inl last ↦
        let ends = ends-old y is in
        HasEnd-old (head_of old (low y)) y true ends.head.within (head_dart (low y) ends ∙ sym last) ends.enters
    | inr other ↦ (inner-ends y (IsInner-below y is other)).0
  ]

  leaving : (y : ℕ) → IsArc new y → HasEnd y false
  leaving y is = elim (cases_eq y (rise (low y))) [
    | inl first ↦
        let ends = ends-old y is in
        HasEnd-old (tail_of old (low y)) y false ends.tail.within (tail_dart (low y) ends ∙ sym first)
        (false_from_ne_true (is_head old (tail_of old (low y))) ends.leaves)
    | inr other ↦
        let e : y - 1 + 1 ≡ y = omega (arith, is.positive) in
        subst (λ (z : ℕ). HasEnd z false) e
        (inner-ends (y - 1)
        (IsInner-above (y - 1) (subst (λ (z : ℕ). IsArc new z) (sym e) is) (λ same. other (sym e ∙ same ∙ ap (λ z. rise (low z)) e)))).1
  ]

  pub two_places-added : (y : ℕ) → IsArc new y → HasTwoPlaces new y
  two_places-added y is =
      let one = entering y is in
      let two = leaving y is in
      HasTwoPlaces-darts new y one.dart two.dart one.within two.within
      (λ same. apart (sym one.kind ∙ ap (λ (d : Dart). enters (sign_of d.crossing) d.slot) same ∙ two.kind)) one.on two.on
    where
      apart : true ≡ false → ⊥
      apart same = cc
