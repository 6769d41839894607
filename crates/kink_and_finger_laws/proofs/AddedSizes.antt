-- The sizes of components after crossings were added: so the code is directed, and has as many components. As the code has runs,
-- the component of a number is the first number of its run. A component has no fewer arcs than before, since old arcs have
-- different first numbers; and one with a new crossing on it has three at least: a number, the next, and the first of the next
-- arc, which is another arc. So two under passes in one direction in a component of two arcs would be two of the old code: the
-- new one is directed too. The least arcs of old components and of new ones match by their first numbers, which counts the
-- components; and no component has one arc alone, since a next number is of the same arc, or it is the first of the next one.
use Rattle.std.proofs.Common.{◌≡◌, ◌≢◌, ℕ, ◌⊎◌, inl, inr, ◌+◌, ◌<◌, ◌≤◌, ◌∙◌, List, length, map, refl, sym, ap, subst, arith, Bool, true, eq-eqb, eqb-true}
use Rattle.std.specs.Prelude.{nat_eq, slice_index, if◌then◌else◌}
use Rattle.std.specs.List.{count_by, range_with_len}
use Rattle.std.proofs.lemmas.Bool.{cases_eq, cases_lt}
use Rattle.std.proofs.lemmas.Bool.Decides.{nat_tests}
use Rattle.std.proofs.lemmas.List.{ext_get_or, get_or-map, length-map}
use Rattle.std.proofs.lemmas.List.FromFn.{length-range_with_len, get_or-range_with_len}
use Rattle.kh_types.specs.Classes.{is_least}
use Rattle.kh_types.specs.Code.{arc_in, slots_of, arc_count, IsArc, IsCrossing}
use Rattle.kh_types.specs.Components.{components_of, component_count, arcs_in, next}
use Rattle.kh_types.specs.Darts.{arc_of, IsDart}
use Rattle.kh_types.specs.Directions.{HasNoSingleArcs}
use Rattle.kh_types.specs.Accepted.{IsDirected}
use Rattle.kh_types.proofs.ClassCounts.{class_count-components}
use Rattle.kh_types.proofs.Lists.{count_by-map}
use Rattle.kh_types.proofs.NextArcs.{component, size_at, IsArc-next, IsNamed-components_of, component-next, next-alone}
use Rattle.kh_types.proofs.PassPairs.{passes-below}
use Rattle.face_walk.proofs.Cover.{class_count-counts}
use Rattle.face_walk.proofs.PlainCounts.{count_by-one_to_one}
use Rattle.kink_and_finger_laws.specs.FingerAdd.{dart_with}
use Rattle.kink_and_finger_laws.proofs.Numbered.{IsNumbering, arcs_in-places, next-numbered, components-numbered}
use Rattle.kink_and_finger_laws.proofs.Passed.{IsStep, IsNumbering-runs, IsDirected-runs}
use Rattle.kink_and_finger_laws.proofs.RisenNumbers.{rise-le_end, end-le, rise-injective, low-within}
use Rattle.kink_and_finger_laws.proofs.AddedCodes.{IsInner, IsInner-below, IsNew, IsAdded, IsArc-low, IsArc-of, crossing-cases, new_slot-all}
use Rattle.kink_and_finger_laws.proofs.AddedRuns.{IsStep-inner, IsStep-old, first_number, first-rise, first-end, HasRuns-added}

-- a count over a list, by its places
count_by-places : (p : ℕ → Bool) (cs : List ℕ) (n : ℕ) → length cs ≡ n
    → count_by p cs ≡ count_by (λ x. p (slice_index cs x)) (range_with_len 0 n)
count_by-places p cs n size =
    let listed : cs ≡ map (λ x. slice_index cs x) (range_with_len 0 n) =
    ext_get_or 0 cs (map (λ x. slice_index cs x) (range_with_len 0 n))
    (size ∙ sym (length-range_with_len 0 n) ∙ sym (length-map (range_with_len 0 n) (λ x. slice_index cs x)))
    (λ x below.
    let small : x < n = omega (arith, below, size) in
    ap (λ z. slice_index cs z) (sym (get_or-range_with_len 0 n x 0 small ∙ omega arith))
    ∙ sym (get_or-map (λ z. slice_index cs z) (range_with_len 0 n) x 0 0 (omega (arith, small, length-range_with_len 0 n)))) in
    ap (λ ys. count_by p ys) listed ∙ count_by-map p (λ x. slice_index cs x) (range_with_len 0 n)

-- no component has one arc alone, where no arc is its own next
size-two_at_least : (crossings : List (List ℕ)) (x : ℕ) → IsDirected crossings → HasNoSingleArcs crossings → IsArc crossings x
    → 2 ≤ size_at crossings x
size-two_at_least crossings x directed no_single is = elim (cases_lt 1 (size_at crossings x)) [
  | inl more ↦ omega (arith, more)
  | inr alone ↦ absurd (no_single x is (next-alone crossings directed x is alone))
]

module _ {old new : List (List ℕ)} {rise end low : ℕ → ℕ} {sign : ℕ → Bool}
    (added : IsAdded old new rise end low sign) where
  abbrev first : ℕ → ℕ
  first = first_number old rise low

  numbering : IsNumbering new first
  numbering = IsNumbering-runs new first (HasRuns-added added)

  pub component-added : (y : ℕ) → component new y ≡ first y
  component-added = components-numbered new first numbering

  below-count : (x : ℕ) → x < arc_count old + 1 → end x < arc_count new + 1
  below-count x below = omega (arith, added.count, end-le added.numbers x (arc_count old) (omega (arith, below)))

  -- a component has no fewer arcs
  pub size-grows : (f : ℕ) → arcs_in (components_of old) f ≤ arcs_in (components_of new) (rise f)
  size-grows f =
      let grows = count_by-one_to_one (λ z. nat_eq f (component old z)) (λ y. nat_eq (rise f) (first y)) rise
      (arc_count old + 1) (arc_count new + 1)
      (record {
        below = λ z below holds. omega (arith, below-count z below, rise-le_end added.numbers z);
        passes = λ z below holds.
            eq-eqb (rise f) (first (rise z)) (ap rise (eqb-true f (component old z) holds) ∙ sym (first-rise added z));
        apart = λ x y x_below y_below x_holds y_holds same. rise-injective added.numbers x y same;
      }) in
      omega (
        arith,
        grows,
        count_by-places (nat_eq f) (components_of old) (arc_count old + 1) (IsNamed-components_of old added.directed).size,
        arcs_in-places new first numbering (rise f),
      )

  -- and that of an arc with a new crossing on it has three at least: a number, the next, and the first of the next arc
  pub size-three : (y : ℕ) → IsInner old low y → 3 ≤ arcs_in (components_of new) (rise (component old (low y)))
  size-three y inner =
      let x = low y in
      let f = rise (component old x) in
      let after = next old x in
      let after_is = IsArc-next old added.directed x inner.is_arc in
      let other : rise after ≢ y =
      λ same. added.no_single x inner.is_arc (sym (added.numbers.low_rise after) ∙ ap low same) in
      let other_next : rise after ≢ y + 1 =
      λ same. added.no_single x inner.is_arc (sym (added.numbers.low_rise after) ∙ ap low same ∙ inner.same) in
      let three : ℕ → ℕ = λ k. if nat_eq k 2 then rise after else y + k in
      let many = count_by-one_to_one (λ (k : ℕ). true) (λ z. nat_eq f (first z)) three 3 (arc_count new + 1)
      (record {
        below = λ k below holds.
            bounded k (rise after) y (arc_count new)
            (omega (arith, below-count after (omega (arith, after_is.within)), rise-le_end added.numbers after))
            (omega (arith, (IsArc-of added (y + 1) (subst (λ (z : ℕ). IsArc old z) (sym inner.same) inner.is_arc)).within)) below;
        passes = λ k below holds.
            eq-eqb f (first (three k))
            (sym (of_three (λ z. first z ≡ f) k (rise after) y
            (first-rise added after ∙ ap rise (component-next old added.directed x inner.is_arc)) refl
            (ap (λ z. rise (component old z)) inner.same) below));
        apart = λ j k j_below k_below j_holds k_holds same. injective j k (rise after) y other other_next j_below k_below same;
      }) in
      let counted : count_by (λ (k : ℕ). true) (range_with_len 0 3) ≡ 3 = refl in
      omega (arith, many, counted, arcs_in-places new first numbering f)
    where
      bounded : (k z y n : ℕ) → z ≤ n → y + 1 ≤ n → k < 3 → (if nat_eq k 2 then z else y + k) < n + 1
      bounded k z y n z_within y_within below = grind (arith, nat_tests)

      of_three : (P : ℕ → Type 0) (k z y : ℕ) → P z → P y → P (y + 1) → k < 3 → P (if nat_eq k 2 then z else y + k)
      of_three P k z y at_z at_y at_next below = elim (cases k z y below) [
        | inl is ↦ subst P (sym is) at_z
        | inr is ↦ elim is [ inl is_y ↦ subst P (sym is_y) at_y | inr is_next ↦ subst P (sym is_next) at_next ]
      ]
        where
          cases : (k z y : ℕ) → k < 3
              → (let v = if nat_eq k 2 then z else y + k in (v ≡ z) ⊎ ((v ≡ y) ⊎ (v ≡ y + 1)))
          cases k z y below = grind (arith, nat_tests)

      injective : (j k z y : ℕ) → z ≢ y → z ≢ y + 1 → j < 3 → k < 3
          → (if nat_eq j 2 then z else y + j) ≡ (if nat_eq k 2 then z else y + k) → j ≡ k
      injective j k z y not_y not_next j_below k_below same = grind (arith, nat_tests)

  -- so has each that passes a new crossing
  pub size-new : (k slot : ℕ) → IsNew old new k → slot < 4 → 3 ≤ size_at new (arc_in (slots_of new k) slot)
  size-new k slot is below =
      new_slot-all added (λ y. 3 ≤ size_at new y) k slot is below
      (λ y inner. (at y (size-three y inner), at (y + 1) (subst (λ (x : ℕ). 3 ≤ arcs_in (components_of new) (rise (component old x))) (sym inner.same) (size-three y inner))))
    where
      at : (y : ℕ) → 3 ≤ arcs_in (components_of new) (first y) → 3 ≤ size_at new y
      at y many = subst (λ (f : ℕ). 3 ≤ arcs_in (components_of new) f) (sym (component-added y)) many

  pub IsDirected-added : IsDirected new
  IsDirected-added =
      IsDirected-runs new first (HasRuns-added added)
      (λ earlier later is_earlier is_later before same two.
      elim (crossing-cases added later is_later) [
        | inr there ↦
            omega (
              arith,
              two,
              size-new later 0 there (omega arith),
              ap (arcs_in (components_of new)) (component-added (arc_in (slots_of new later) 0)),
            )
        | inl here ↦
            let old_earlier : IsCrossing old earlier = record { positive = is_earlier.positive; within = omega (arith, before, here.within) } in
            let first_dart : IsDart old (dart_with earlier 0) = record { crossing = old_earlier; slot = omega arith } in
            let later_dart : IsDart old (dart_with later 0) = record { crossing = here; slot = omega arith } in
            let x = arc_of old (dart_with earlier 0) in
            let y = arc_of old (dart_with later 0) in
            let at_first = added.head (dart_with earlier 0) first_dart refl in
            let at_later = added.head (dart_with later 0) later_dart refl in
            let alike : x ≡ y = sym (added.numbers.low_end x) ∙ ap low (sym at_first ∙ same ∙ at_later) ∙ added.numbers.low_end y in
            let first_is : first (arc_in (slots_of new later) 0) ≡ rise (component old y) = ap first at_later ∙ first-end added y in
            let small = size-two_at_least old y added.directed added.no_single (added.directed.slots (dart_with later 0) later_dart) in
            added.directed.two_arcs earlier later old_earlier here before alike
            (omega (arith, size-grows (component old y), small, two, ap (arcs_in (components_of new)) first_is))
      ])

  -- the arc that follows
  pub next-added : (u v : ℕ) → IsStep first u v → next new u ≡ v
  next-added u v is = next-numbered new first numbering u ∙ sym is.follows

  -- there are as many components
  pub component_count-added : component_count new ≡ component_count old
  component_count-added =
      let named = IsNamed-components_of old added.directed in
      let new_named = IsNamed-components_of new IsDirected-added in
      let old_own : (x : ℕ) → is_least (components_of old) x ≡ true → component old x ≡ x =
      λ x holds. eqb-true (component old x) x holds in
      let new_own : (y : ℕ) → is_least (components_of new) y ≡ true → first y ≡ y =
      λ y holds. sym (component-added y) ∙ eqb-true (slice_index (components_of new) y) y holds in
      let up = count_by-one_to_one (is_least (components_of old)) (is_least (components_of new)) rise (arc_count old + 1) (arc_count new + 1)
      (record {
        below = λ x below holds. omega (arith, below-count x below, rise-le_end added.numbers x);
        passes = λ x below holds.
            eq-eqb (slice_index (components_of new) (rise x)) (rise x)
            (component-added (rise x) ∙ first-rise added x ∙ ap rise (old_own x holds));
        apart = λ x y x_below y_below x_holds y_holds same. rise-injective added.numbers x y same;
      }) in
      let down = count_by-one_to_one (is_least (components_of new)) (is_least (components_of old)) low (arc_count new + 1) (arc_count old + 1)
      (record {
        below = λ y below holds.
            omega (arith, low-within added.numbers (arc_count old) y (omega (arith, below, added.count)));
        passes = λ y below holds.
            eq-eqb (slice_index (components_of old) (low y)) (low y)
            (sym (added.numbers.low_rise (component old (low y))) ∙ ap low (new_own y holds));
        apart = λ y z y_below z_below y_holds z_holds same.
            sym (new_own y y_holds) ∙ ap (λ x. rise (component old x)) same ∙ new_own z z_holds;
      }) in
      omega (
        arith,
        up,
        down,
        class_count-counts (arc_count old + 1) (components_of old) named.size,
        class_count-counts (arc_count new + 1) (components_of new) new_named.size,
        class_count-components old (passes-below old added.directed),
        class_count-components new (passes-below new IsDirected-added),
      )

  -- and no component has one arc alone
  pub HasNoSingleArcs-added : HasNoSingleArcs new
  HasNoSingleArcs-added y is own = elim (cases_eq y (end (low y))) [
    | inr other ↦
        let follows = next-added y (y + 1) (IsStep-inner added y (IsInner-below added y is other)) in omega (arith, follows, own)
    | inl last ↦
        let x = low y in
        let x_is = IsArc-low added y is in
        let follows = next-added (end x) (rise (next old x)) (IsStep-old added x x_is) in
        added.no_single x x_is (sym (added.numbers.low_rise (next old x)) ∙ ap low (sym follows ∙ ap (next new) (sym last) ∙ own))
  ]
