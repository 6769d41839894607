-- A code to which crossings were added has runs: each old component is a run on the new numbers. The run of a number begins with
-- the first number of the least arc of its old component. An old pass steps from the last number of an arc to the first of the
-- next arc, and a new one from a number of an arc to the next; so both passes of each crossing are steps. Where a number is not
-- the first of its run, the number before it is of the same arc, or it is the last of an old arc that has a next in its
-- component; so both are of one run, and a pass joins them: that of a new crossing, or that across the old head. The other facts
-- of runs come from the old components.
use Rattle.std.proofs.Common.{◌≡◌, ◌≢◌, ℕ, ◌⊎◌, inl, inr, ◌+◌, ◌-◌, ◌<◌, ◌≤◌, ◌∙◌, List, refl, sym, ap, subst, arith, Bool, true, false, not}
use Rattle.std.specs.Prelude.{nat_eq, min, if◌then◌else◌}
use Rattle.std.specs.List.{flat_map}
use Rattle.std.proofs.lemmas.Bool.{cases_eq, cases_Bool}
use Rattle.std.proofs.lemmas.Bool.Decides.{nat_tests}
use Rattle.std.proofs.lemmas.List.{get_or_past}
use Rattle.kh_types.specs.declared.dart.Dart.{Dart}
use Rattle.kh_types.specs.Code.{arc_in, slots_of, arc_count, IsArc, IsCrossing}
use Rattle.kh_types.specs.Components.{components_of, next, passes_of}
use Rattle.kh_types.specs.Darts.{arc_of, IsDart}
use Rattle.kh_types.specs.Directions.{is_head, head_of}
use Rattle.kh_types.specs.Accepted.{IsDirected}
use Rattle.kh_types.proofs.ClassLemmas.{classes-finest}
use Rattle.kh_types.proofs.DartColours.{arc_at}
use Rattle.kh_types.proofs.DirectedPasses.{across, IsDart-across, is_head-across, arc_of-across, head-cases}
use Rattle.kh_types.proofs.Heads.{HasEnds-directed}
use Rattle.kh_types.proofs.NextArcs.{component, IsNamed-components_of, component-inside, component-next, HasPlace-directed}
use Rattle.kh_types.proofs.PassPairs.{passes-below, passes-positive}
use Rattle.kink_and_finger_laws.specs.FingerAdd.{dart_with}
use Rattle.kink_and_finger_laws.proofs.PassEnds.{over_from, over_to}
use Rattle.kink_and_finger_laws.proofs.Passed.{HasPass, HasRuns, IsPassed, IsStep, IsStep-inside}
use Rattle.kink_and_finger_laws.proofs.RisenNumbers.{rise-le, rise-injective, rise-zero, low-past, low-within}
use Rattle.kink_and_finger_laws.proofs.AddedCodes.{IsInner, IsNew, IsAdded, IsArc-low, IsInner-above, crossing-cases, slots-added, two_places-added, head_dart}

-- the first number of the run of a new number
abbrev pub first_number : List (List ℕ) → (ℕ → ℕ) → (ℕ → ℕ) → ℕ → ℕ
first_number old rise low y = rise (component old (low y))

-- both passes of a crossing are steps
record HasSteps (first : ℕ → ℕ) (slots : List ℕ) : Type 0 where
  under : IsStep first (arc_in slots 0) (arc_in slots 2)
  over : IsStep first (arc_in slots 1) (arc_in slots 3) ⊎ IsStep first (arc_in slots 3) (arc_in slots 1)

-- the number 0 is of no component
zero_apart : (crossings : List (List ℕ)) (x : ℕ) → IsDirected crossings → IsArc crossings x → component crossings x ≢ 0
zero_apart crossings x directed is none =
    let named = IsNamed-components_of crossings directed in
    let same = classes-finest (λ z. min z 1) (arc_count crossings + 1) (flat_map passes_of crossings)
    (passes-positive crossings directed) (passes-below crossings directed) x (component crossings x) (omega (arith, is.within))
    (omega (arith, is.within, named.least x (omega (arith, is.within)))) (sym (named.own x (omega (arith, is.within)))) in
    omega (arith, same, is.positive, none)

-- the pass across an old crossing from a head
HasPass-old : (crossings new : List (List ℕ)) (dart : Dart) (u v : ℕ) → is_head crossings dart ≡ true
    → arc_of new dart ≡ u → arc_of new (across dart) ≡ v → HasPass new u v (dart.crossing - 1)
HasPass-old crossings new dart u v head from to = grind (arith, nat_tests, arc_at, head-cases)

-- the over pass of a crossing
HasPass-over : (crossings : List (List ℕ)) (k : ℕ) (positive : Bool) (s t : ℕ) → arc_in (slots_of crossings k) (over_from positive) ≡ s
    → arc_in (slots_of crossings k) (over_to positive) ≡ t → HasPass crossings s t (k - 1)
HasPass-over crossings k positive s t from to = grind (arith, nat_tests)

module _ {old new : List (List ℕ)} {rise end low : ℕ → ℕ} {sign : ℕ → Bool}
    (added : IsAdded old new rise end low sign) where
  abbrev first : ℕ → ℕ
  first = first_number old rise low

  pub first-rise : (x : ℕ) → first (rise x) ≡ rise (component old x)
  first-rise x = ap (λ z. rise (component old z)) (added.numbers.low_rise x)

  pub first-end : (x : ℕ) → first (end x) ≡ rise (component old x)
  first-end x = ap (λ z. rise (component old z)) (added.numbers.low_end x)

  -- an old step is a step from the head's number to the tail's
  pub IsStep-old : (x : ℕ) → IsArc old x → IsStep first (end x) (rise (next old x))
  IsStep-old x is =
      let at_head = first-end x in
      let behind = added.numbers.next x in
      let at_behind : first (end x + 1) ≡ rise (component old (x + 1)) = ap first (sym behind) ∙ first-rise (x + 1) in
      record {
        same = first-rise (next old x) ∙ ap rise (component-next old added.directed x is) ∙ sym at_head;
        follows = stepped (component old (x + 1)) (component old x) (x + 1) (first (end x + 1)) (first (end x)) (end x + 1) at_behind at_head
            behind;
      }
    where
      stepped : (f g k p q y : ℕ) → p ≡ rise f → q ≡ rise g → rise k ≡ y
          → rise (if nat_eq f g then k else g) ≡ (if nat_eq p q then y else q)
      stepped f g k p q y is_p is_q is_y = grind (arith, nat_tests, rise-injective added.numbers f g)

  pub IsStep-inner : (y : ℕ) → IsInner old low y → IsStep first y (y + 1)
  IsStep-inner y inner = IsStep-inside first y (ap (λ z. rise (component old z)) inner.same)

  -- an old pass, from a head to the tail across
  pub IsStep-across : (dart : Dart) → IsDart old dart → is_head old dart ≡ true → IsStep first (arc_of new dart) (arc_of new (across dart))
  IsStep-across dart is head =
      let from = added.head dart is head in
      let to = added.tail (across dart) (IsDart-across old dart is) (is_head-across old dart is.slot ∙ ap not head)
      ∙ ap rise (arc_of-across old dart added.directed is head) in
      subst (λ (v : ℕ). IsStep first (arc_of new dart) v) (sym to)
      (subst (λ (u : ℕ). IsStep first u (rise (next old (arc_of old dart)))) (sym from)
      (IsStep-old (arc_of old dart) (added.directed.slots dart is)))

  steps-new : (k : ℕ) → IsNew old new k → HasSteps first (slots_of new k)
  steps-new k is =
      let inside = added.inside k is in
      let slots = slots_of new k in
      let passes = inside.passes in
      record {
        under = step (arc_in slots 0) (arc_in slots 2) inside.under passes.under_from passes.under_to
            (IsStep-inner inside.under inside.under_inner);
        over = either (sign k) slots (step (arc_in slots (over_from (sign k))) (arc_in slots (over_to (sign k))) inside.over passes.over_from passes.over_to
            (IsStep-inner inside.over inside.over_inner));
      }
    where
      step : (u v y : ℕ) → u ≡ y → v ≡ y + 1 → IsStep first y (y + 1) → IsStep first u v
      step u v y is_u is_v one = grind (arith, nat_tests, IsStep)

      either : (positive : Bool) (slots : List ℕ) → IsStep first (arc_in slots (over_from positive)) (arc_in slots (over_to positive))
          → IsStep first (arc_in slots 1) (arc_in slots 3) ⊎ IsStep first (arc_in slots 3) (arc_in slots 1)
      either true slots is = inr is
      either false slots is = inl is

  steps-added : (k : ℕ) → IsCrossing new k → HasSteps first (slots_of new k)
  steps-added k is = elim (crossing-cases added k is) [
    | inr there ↦ steps-new k there
    | inl here ↦
        let dart = λ (slot : ℕ) (below : slot < 4). IsStep-across (dart_with k slot) (record { crossing = here; slot = below }) in
        record {
          under = dart 0 (omega arith) refl;
          over = elim (cases_Bool (is_head old (dart_with k 1))) [
            | inl head ↦ inl (dart 1 (omega arith) head)
            | inr tail ↦ inr (dart 3 (omega arith) (is_head-across old (dart_with k 1) (omega arith) ∙ ap not tail))
          ];
        }
  ]

  -- where a number is not the first of its run, the number before it is the last of an old arc that has a next in its component, or is of
  -- the same arc
  record IsBefore (y x : ℕ) : Type 0 where
    is_arc : IsArc old x
    inside : component old (x + 1) ≡ component old x
    before : y ≡ end x
    behind : y + 1 ≡ rise (x + 1)

  before-cases : (y : ℕ) → y + 1 ≤ arc_count new → first (y + 1) < y + 1 → ((x : ℕ) × IsBefore y x) ⊎ IsInner old low y
  before-cases y within less =
      let x = low (y + 1) in
      let is_new : IsArc new (y + 1) = record { positive = omega arith; within = within } in
      elim (cases_eq (y + 1) (rise x)) [
        | inr other ↦ inr (IsInner-above added y is_new other)
        | inl at_tail ↦
            let is = IsArc-low added (y + 1) is_new in
            let place = HasPlace-directed old added.directed x is in
            let first_less : component old x < x =
            elim (cases_eq (component old x) x) [
              | inl same ↦ absurd (omega (arith, less, ap rise same, at_tail))
              | inr other ↦ omega (arith, other, place.from)
            ] in
            let e : x - 1 + 1 ≡ x = omega (arith, is.positive) in
            let same = component-inside old added.directed x (x - 1) is (omega (arith, first_less)) (omega (arith, place.below)) in
            let positive : 1 ≤ component old x =
            elim (cases_eq (component old x) 0) [
              | inl none ↦ absurd (zero_apart old x added.directed is none)
              | inr some ↦ omega (arith, some)
            ] in
            let behind : y + 1 ≡ rise (x - 1 + 1) = at_tail ∙ ap rise (sym e) in
            inl (
              x - 1,
              record {
                is_arc = record { positive = omega (arith, first_less, positive); within = omega (arith, is.within) };
                inside = ap (component old) e ∙ sym same;
                before = omega (arith, behind, added.numbers.next (x - 1));
                behind = behind;
              },
            )
      ]

  run-added : (y : ℕ) → y + 1 ≤ arc_count new → first (y + 1) < y + 1 → first y ≡ first (y + 1)
  run-added y within less = elim (before-cases y within less) [
    | inr inner ↦ ap (λ z. rise (component old z)) (sym inner.same)
    | inl before ↦
        let x = before.0 in
        ap first before.1.before ∙ first-end x ∙ ap rise (sym before.1.inside) ∙ sym (first-rise (x + 1)) ∙ ap first (sym before.1.behind)
  ]

  -- and it is joined with the next by a pass
  passed-added : (y : ℕ) → y + 1 ≤ arc_count new → first (y + 1) < y + 1 → IsPassed new y (y + 1)
  passed-added y within less = elim (before-cases y within less) [
    | inr inner ↦
        let k = (added.entered y inner).0 in
        let is = (added.entered y inner).1 in
        let passes = (added.inside k is).passes in
        record {
          place = k - 1;
          below = omega (arith, is.past, is.within);
          passes = elim (added.entered y inner).2 [
            | inl under ↦ inl (under, passes.under_to ∙ ap (λ z. z + 1) (sym passes.under_from ∙ under))
            | inr over ↦ HasPass-over new k (sign k) y (y + 1) over (passes.over_to ∙ ap (λ z. z + 1) (sym passes.over_from ∙ over))
          ];
        }
    | inl before ↦
        let x = before.0 in
        let ends = HasEnds-directed old added.directed added.no_single x before.1.is_arc in
        let dart = head_of old x in
        let is = ends.head.within in
        let next_is : next old x ≡ x + 1 = inside (component old (x + 1)) (component old x) (x + 1) before.1.inside in
        let to = added.tail (across dart) (IsDart-across old dart is) (is_head-across old dart is.slot ∙ ap not ends.enters)
        ∙ ap rise (arc_of-across old dart added.directed is ends.enters ∙ ap (next old) ends.head.on_arc ∙ next_is) in
        record {
          place = dart.crossing - 1;
          below = omega (arith, is.crossing.positive, is.crossing.within, added.longer);
          passes = HasPass-old old new dart y (y + 1) ends.enters (head_dart added x ends ∙ sym before.1.before) (to ∙ sym before.1.behind);
        }
  ]
    where
      inside : (x y k : ℕ) → x ≡ y → (if nat_eq x y then k else y) ≡ k
      inside x y k same = grind (arith, nat_tests)

  pub HasRuns-added : HasRuns new first
  HasRuns-added =
      let named = IsNamed-components_of old added.directed in
      let low_within : (y : ℕ) → y ≤ arc_count new → low y < arc_count old + 1 =
      λ y within. omega (arith, low-within added.numbers (arc_count old) y (omega (arith, within, added.count))) in
      record {
        slots = slots-added added;
        two_places = two_places-added added;
        least = λ y within.
            omega (
              arith,
              rise-le added.numbers (component old (low y)) (low y) (named.least (low y) (low_within y within)),
              added.numbers.from y,
            );
        own = λ y within. first-rise (component old (low y)) ∙ ap rise (named.own (low y) (low_within y within));
        past = λ y past.
            let x_past = low-past added.numbers (arc_count old) y (omega (arith, past, added.count)) in
            ap rise (get_or_past (components_of old) (low y) 0 (omega (arith, x_past, named.size))) ∙ rise-zero added.numbers;
        run = run-added;
        passed = passed-added;
        under = λ k is. (steps-added k is).under;
        over = λ k is. (steps-added k is).over;
      }
