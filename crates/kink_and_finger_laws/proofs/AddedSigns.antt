-- The signs of crossings after crossings were added: the old ones keep theirs, and the new ones have the named signs. In a
-- component of three arcs or more two steps do not lead back, and so the direction of the over pass alone tells the sign; in the
-- new code an old over pass still goes its way. In a component of two arcs there is no new crossing, and each arc has one number:
-- there the searches for the first under pass and the first over pass find what they found, and numbers compare as the old arcs
-- did. A new crossing lies in components of three arcs at least, and its over pass goes as its sign says. So the positive
-- crossings are the old ones, and those of the new ones that are so named.
use Rattle.std.proofs.Common.{◌≡◌, ◌≢◌, ℕ, inl, inr, ◌+◌, ◌<◌, ◌≤◌, ◌∙◌, List, length, refl, sym, ap, ap₂, subst, arith, Bool, true, false, cond, eq-eqb, eqb-true}
use Rattle.std.specs.Prelude.{nat_eq, nat_lt, if◌then◌else◌, Option, Some, None}
use Rattle.std.specs.List.{count_by, find, range_with_len}
use Rattle.std.specs.Option.{option_or}
use Rattle.std.proofs.lemmas.Bool.{cases_eq, cases_lt, cases_Bool, false_from_ne_true}
use Rattle.std.proofs.lemmas.Bool.Decides.{nat_tests}
use Rattle.std.proofs.lemmas.List.Sums.{sum_by-append}
use Rattle.std.proofs.lemmas.List.Folds.{find-append}
use Rattle.kh_types.specs.declared.dart.Dart.{Dart}
use Rattle.kh_types.specs.Code.{arc_in, slots_of, IsArc, IsCrossing}
use Rattle.kh_types.specs.Components.{components_of, arcs_in, next}
use Rattle.kh_types.specs.Darts.{arc_of, IsDart}
use Rattle.kh_types.specs.Directions.{is_head, is_positive, is_positive_by_order, passes_under, passes_over, first_under, first_over, plus_count}
use Rattle.kh_types.specs.Accepted.{IsDirected}
use Rattle.kh_types.proofs.Lists.{find-none}
use Rattle.kh_types.proofs.Ranges.{range-append}
use Rattle.kh_types.proofs.RangeCounts.{count_by-alike}
use Rattle.kh_types.proofs.DirectedPasses.{across, is_head-across, is_positive-order, is_positive-under, over-positive, over-negative}
use Rattle.kh_types.proofs.NextArcs.{component, size_at, HasPlace-directed, IsArc-next, component-next}
use Rattle.code_passes.proofs.LabelCounts.{find-none_at}
use Rattle.code_passes.proofs.SignRules.{find-first}
use Rattle.kink_and_finger_laws.specs.FingerAdd.{dart_with}
use Rattle.kink_and_finger_laws.proofs.PassEnds.{over_from, over_to}
use Rattle.kink_and_finger_laws.proofs.RisenNumbers.{rise-le_end, rise-less, rise-le, low-between}
use Rattle.kink_and_finger_laws.proofs.AddedCodes.{IsNew, IsAdded, arc_of-uncut}
use Rattle.kink_and_finger_laws.proofs.AddedRuns.{first_number, first-rise, first-end, IsStep-across, IsStep-inner}
use Rattle.kink_and_finger_laws.proofs.AddedSizes.{IsDirected-added, component-added, next-added, size-grows, size-three, size-new}
use Rattle.kh_types.proofs.Searches.{find-range_agree}

-- in a component of three arcs or more two steps do not lead back
next-next_large : (crossings : List (List ℕ)) (arc : ℕ) → IsDirected crossings → IsArc crossings arc → 3 ≤ size_at crossings arc
    → next crossings (next crossings arc) ≢ arc
next-next_large crossings arc directed is large same =
    let place = HasPlace-directed crossings directed arc is in
    let next_place = HasPlace-directed crossings directed (next crossings arc) (IsArc-next crossings directed arc is) in
    let together = component-next crossings directed arc is in
    let alike : size_at crossings (next crossings arc) ≡ size_at crossings arc =
    ap (λ first. arcs_in (components_of crossings) first) together in
    not_back (next crossings (next crossings arc)) (next crossings arc) arc (component crossings arc) (size_at crossings arc) large
    place.from place.below place.inside place.last
    (λ within. next_place.inside (omega (arith, within, together, alike)))
    (λ behind. next_place.last (omega (arith, behind, together, alike)) ∙ together) same
  where
    not_back : (z y a first size : ℕ) → 3 ≤ size → first ≤ a → a < first + size → (a + 1 < first + size → y ≡ a + 1)
        → (first + size ≤ a + 1 → y ≡ first) → (y + 1 < first + size → z ≡ y + 1)
        → (first + size ≤ y + 1 → z ≡ first) → z ≡ a → ⊥
    not_back z y a first size large a_from a_below a_inside a_last y_inside y_last same = grind arith

-- there the over pass tells the sign
sign-large : (crossings : List (List ℕ)) (crossing : ℕ) (positive : Bool) → IsDirected crossings → IsCrossing crossings crossing
    → 3 ≤ size_at crossings (arc_in (slots_of crossings crossing) 1)
    → next crossings (arc_in (slots_of crossings crossing) (over_from positive)) ≡ arc_in (slots_of crossings crossing) (over_to positive)
    → is_positive crossings crossing ≡ positive
sign-large crossings crossing positive directed is large passes = by positive (is_positive crossings crossing) refl passes
  where
    one : ℕ
    one = arc_in (slots_of crossings crossing) 1

    back : next crossings (next crossings one) ≢ one
    back = next-next_large crossings one directed
        (directed.slots (dart_with crossing 1) (record { crossing = is; slot = omega arith })) large

    by : (positive found : Bool) → is_positive crossings crossing ≡ found
        → next crossings (arc_in (slots_of crossings crossing) (over_from positive)) ≡ arc_in (slots_of crossings crossing) (over_to positive)
        → is_positive crossings crossing ≡ positive
    by true true holds passes = holds
    by false false fails passes = fails
    by true false fails passes = absurd (back (ap (next crossings) (sym (over-negative crossings crossing directed is fails)) ∙ passes))
    by false true holds passes = absurd (back (ap (next crossings) passes ∙ sym (over-positive crossings crossing directed is holds)))

find-longer : (p q : ℕ → Bool) (a n m : ℕ) → ((k : ℕ) → a ≤ k → k < a + n → q k ≡ p k)
    → ((k : ℕ) → a + n ≤ k → k < a + n + m → q k ≡ false) → find q (range_with_len a (n + m)) ≡ find p (range_with_len a n)
find-longer p q a n m alike none =
    ap (λ xs. find q xs) (range-append a n m) ∙ find-append q (range_with_len a n) (range_with_len (a + n) m)
    ∙ ap (λ o. option_or (find q (range_with_len a n)) o) (find-none q (a + n) m none)
    ∙ or-none (find q (range_with_len a n)) ∙ find-range_agree q p a n alike
  where
    or-none : (o : Option ℕ) → option_or o None ≡ o
    or-none None = refl
    or-none (Some x) = refl

module _ {old new : List (List ℕ)} {rise end low : ℕ → ℕ} {sign : ℕ → Bool}
    (added : IsAdded old new rise end low sign) where
  abbrev first : ℕ → ℕ
  first = first_number old rise low

  IsCrossing-old : (k : ℕ) → IsCrossing old k → IsCrossing new k
  IsCrossing-old k is = record { positive = is.positive; within = omega (arith, is.within, added.longer) }

  -- the component of an old crossing's slot
  component-old : (dart : Dart) → IsDart old dart → component new (arc_of new dart) ≡ rise (component old (arc_of old dart))
  component-old dart is = component-added added (arc_of new dart) ∙ elim (cases_Bool (is_head old dart)) [
    | inl head ↦ ap first (added.head dart is head) ∙ first-end added (arc_of old dart)
    | inr tail ↦ ap first (added.tail dart is tail) ∙ first-rise added (arc_of old dart)
  ]

  nat_eq-rise : (x y : ℕ) → nat_eq (rise x) (rise y) ≡ nat_eq x y
  nat_eq-rise x y = grind (arith, nat_tests)

  nat_lt-rise : (x y : ℕ) → nat_lt (rise x) (rise y) ≡ nat_lt x y
  nat_lt-rise x y = elim (cases_lt x y) [
    | inl less ↦ both_hold (rise x) (rise y) x y (rise-less added.numbers x y less) less
    | inr from ↦ both_fail (rise x) (rise y) x y (rise-le added.numbers y x from) from
  ]
    where
      both_hold : (u v x y : ℕ) → u < v → x < y → nat_lt u v ≡ nat_lt x y
      both_hold u v x y less other = grind (arith, nat_tests)

      both_fail : (u v x y : ℕ) → v ≤ u → y ≤ x → nat_lt u v ≡ nat_lt x y
      both_fail u v x y from other = grind (arith, nat_tests)

  -- an arc of a component of two arcs has one number
  arc_of-small : (dart : Dart) → IsDart old dart → size_at new (arc_of new dart) ≤ 2 → arc_of new dart ≡ rise (arc_of old dart)
  arc_of-small dart is small =
      let x = arc_of old dart in
      let f = rise (component old x) in
      let few : arcs_in (components_of new) f ≤ 2 = subst (λ (c : ℕ). arcs_in (components_of new) c ≤ 2) (component-old dart is) small in
      let uncut : rise x ≡ end x =
      elim (cases_eq (rise x) (end x)) [
        | inl same ↦ same
        | inr other ↦
            let at = added.numbers.low_rise x in
            let behind = low-between added.numbers x (rise x + 1) (omega arith) (omega (arith, other, rise-le_end added.numbers x)) in
            let many = size-three added (rise x)
            (record { is_arc = subst (λ (z : ℕ). IsArc old z) (sym at) (added.directed.slots dart is); same = behind ∙ sym at }) in
            omega (arith, few, many, ap (λ z. arcs_in (components_of new) (rise (component old z))) at)
      ] in
      arc_of-uncut added dart is uncut

  -- in a component of two arcs, which passes no new crossing, the rules of order and of the under pass give what they gave
  sign-small : (k m : ℕ) → IsCrossing old k → length new ≡ length old + m → size_at new (arc_in (slots_of new k) 1) ≤ 2
      → is_positive new k ≡ is_positive old k
  sign-small k m is count small = by (first_under old (components_of old) f) refl (first_over old (components_of old) f) refl
    where
      dart : (slot : ℕ) → slot < 4 → IsDart old (dart_with k slot)
      dart slot below = record { crossing = is; slot = below }

      one : ℕ
      one = arc_of old (dart_with k 1)

      three : ℕ
      three = arc_of old (dart_with k 3)

      f : ℕ
      f = component old one

      g : ℕ
      g = component new (arc_in (slots_of new k) 1)

      one_is : g ≡ rise f
      one_is = component-old (dart_with k 1) (dart 1 (omega arith))

      old_small : size_at old one ≤ 2
      old_small = omega (arith, size-grows added f, subst (λ (c : ℕ). arcs_in (components_of new) c ≤ 2) one_is small)

      three_at : component old three ≡ f
      three_at = elim (added.directed.over k is) [
        | inl to_three ↦
            ap (component old) to_three ∙ component-next old added.directed one (added.directed.slots (dart_with k 1) (dart 1 (omega arith)))
        | inr to_one ↦
            sym (ap (component old) to_one ∙ component-next old added.directed three (added.directed.slots (dart_with k 3) (dart 3 (omega arith))))
      ]

      three_small : size_at new (arc_of new (dart_with k 3)) ≤ 2
      three_small = grind (arith, nat_tests, one_is, three_at, component-old (dart_with k 3) (dart 3 (omega arith)), dart 3 (omega arith))

      one_there : arc_of new (dart_with k 1) ≡ rise one
      one_there = arc_of-small (dart_with k 1) (dart 1 (omega arith)) small

      three_there : arc_of new (dart_with k 3) ≡ rise three
      three_there = arc_of-small (dart_with k 3) (dart 3 (omega arith)) three_small

      old_pass : (slot j : ℕ) → slot < 4 → 1 ≤ j → j < 1 + length old
          → nat_eq (component new (arc_in (slots_of new j) slot)) g ≡ nat_eq (component old (arc_in (slots_of old j) slot)) f
      old_pass slot j slot_below from below =
          ap₂ (λ x y. nat_eq x y)
          (component-old (dart_with j slot) (record { crossing = record { positive = from; within = omega (arith, below) }; slot = slot_below })) one_is
          ∙ nat_eq-rise (component old (arc_in (slots_of old j) slot)) f

      new_pass : (slot j : ℕ) → slot < 4 → 1 + length old ≤ j → j < 1 + length old + m
          → nat_eq (component new (arc_in (slots_of new j) slot)) g ≡ false
      new_pass slot j slot_below from below =
          false_from_ne_true (nat_eq (component new (arc_in (slots_of new j) slot)) g)
          (λ holds.
          omega (
            arith,
            small,
            size-new added j slot (record { past = omega (arith, from); within = omega (arith, below, count) }) slot_below,
            ap (arcs_in (components_of new)) (eqb-true (component new (arc_in (slots_of new j) slot)) g holds),
          ))

      under_same : first_under new (components_of new) g ≡ first_under old (components_of old) f
      under_same = grind (arith, nat_tests, g, find-longer, f, old_pass, new_pass)

      over_same : first_over new (components_of new) g ≡ first_over old (components_of old) f
      over_same = grind (arith, nat_tests, g, find-longer, f, old_pass, new_pass)

      order_same : (is_first : Bool) → is_positive_by_order (slots_of new k) is_first ≡ is_positive_by_order (slots_of old k) is_first
      order_same is_first = grind (arith, nat_tests, three_there, one_there, nat_lt-rise, three, one)

      by : (under : Option ℕ) → first_under old (components_of old) f ≡ under → (over : Option ℕ)
          → first_over old (components_of old) f ≡ over → is_positive new k ≡ is_positive old k
      by (Some j) found over over_found =
          let within = find-first (passes_under old (components_of old) f) 1 (length old) j found in
          is_positive-under new k j small (under_same ∙ found)
          ∙ ap₂ (λ x y. nat_eq x y) three_there
          (added.tail (dart_with j 2)
          (record { crossing = record { positive = within.from; within = omega (arith, within.below) }; slot = omega arith })
          (is_head-across old (dart_with j 0) (omega arith)))
          ∙ nat_eq-rise three (arc_of old (dart_with j 2)) ∙ sym (is_positive-under old k j old_small found)
      by None none (Some j) found = grind (arith, nat_tests, is_positive-order, under_same, over_same, order_same, old_small)
      by None none None nowhere = absurd (both (find-none_at (passes_over old (components_of old) f) 1 (length old) k nowhere is.positive (omega (arith, is.within))) (eq-eqb f f refl))
        where
          both : nat_eq f f ≡ false → nat_eq f f ≡ true → ⊥
          both fails holds = cc

  -- old crossings keep their signs
  pub sign-old : (k m : ℕ) → IsCrossing old k → length new ≡ length old + m → is_positive new k ≡ is_positive old k
  sign-old k m is count = elim (cases_lt 2 (size_at new (arc_in (slots_of new k) 1))) [
    | inr small ↦ sign-small k m is count small
    | inl large ↦
        let passes = λ (slot : ℕ) (below : slot < 4) (head : is_head old (dart_with k slot) ≡ true).
        next-added added (arc_of new (dart_with k slot)) (arc_of new (across (dart_with k slot)))
        (IsStep-across added (dart_with k slot) (record { crossing = is; slot = below }) head) in
        let there = sign-large new k in
        elim (cases_Bool (is_positive old k)) [
          | inl holds ↦
              there true (IsDirected-added added) (IsCrossing-old k is) (omega (arith, large))
              (passes 3 (omega arith) (ap (λ p. nat_eq 3 (if p then 3 else 1)) holds)) ∙ sym holds
          | inr fails ↦
              there false (IsDirected-added added) (IsCrossing-old k is) (omega (arith, large))
              (passes 1 (omega arith) (ap (λ p. nat_eq 1 (if p then 3 else 1)) fails)) ∙ sym fails
        ]
  ]

  -- and the new ones have the named signs
  pub sign-new : (k : ℕ) → IsNew old new k → is_positive new k ≡ sign k
  sign-new k is =
      let inside = added.inside k is in
      sign-large new k (sign k) (IsDirected-added added) (record { positive = omega (arith, is.past); within = is.within })
      (size-new added k 1 is (omega arith))
      (ap (next new) inside.passes.over_from
      ∙ next-added added inside.over (inside.over + 1) (IsStep-inner added inside.over inside.over_inner) ∙ sym inside.passes.over_to)

  -- so the positive crossings are the old ones and those of the new ones that are so named
  pub plus_count-added : (m : ℕ) → length new ≡ length old + m
      → plus_count new ≡ plus_count old + count_by sign (range_with_len (1 + length old) m)
  plus_count-added m count =
      ap (λ n. count_by (is_positive new) (range_with_len 1 n)) count ∙ ap (count_by (is_positive new)) (range-append 1 (length old) m)
      ∙ sum_by-append (λ k. cond (is_positive new k) 1 0) (range_with_len 1 (length old)) (range_with_len (1 + length old) m)
      ∙ ap₂ (λ x y. x + y)
      (count_by-alike (is_positive new) (is_positive old) 1 (length old)
      (λ k from below. sign-old k m (record { positive = from; within = omega (arith, below) }) count))
      (count_by-alike (is_positive new) sign (1 + length old) m
      (λ k from below. sign-new k (record { past = omega (arith, from); within = omega (arith, below, count) })))
