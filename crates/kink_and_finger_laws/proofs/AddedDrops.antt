-- Where added crossings are dropped the old code is left, each arc under the first of its numbers: so both codes have one state
-- sum. Classes of arcs that are joined straight through are named by a function, if it has one value on each class, in the class
-- and not above the arc. Here this is the first number of the old arc: the new crossings join each number of an arc with the
-- next, and no others. So the old crossings stay, in their order, under these names. Each old arc's name stands at some crossing,
-- and no other name does; so there are no rings. The smoothings of a state are the old ones under these names, and so have the
-- old circles. With the old signs, each state has its old term.
use Rattle.std.proofs.lemmas.Bool.Decides.{nat_tests}
use Rattle.std.proofs.Common.{◌≡◌, ℕ, zero, suc, inl, inr, ◌+◌, ◌-◌, ◌^◌, ◌<◌, ◌≤◌, ◌∙◌, ℤ, List, ◌++◌, length, map, refl, sym, ap, ap₂, subst, arith, Bool, true, false, not, ◌&&◌, count_by, eqb-true}
use Rattle.std.specs.Prelude.{slice_index}
use Rattle.std.specs.List.{filter, range_with_len}
use Rattle.std.proofs.lemmas.Bool.{both_ways, cases_eq, cases_lt, cases_Bool}
use Rattle.std.proofs.lemmas.List.{map-id, append-nil}
use Rattle.std.proofs.lemmas.List.Elements.{filter-append}
use Rattle.kh_types.specs.Bits.{bit, ones}
use Rattle.kh_types.specs.Circles.{circle_count, smoothing_of, smoothings_of}
use Rattle.kh_types.specs.Classes.{AreBelow, class_count, classes_of, is_least, Respects}
use Rattle.kh_types.specs.Code.{Code, arc_in, arc_count, slots_of, IsArc}
use Rattle.kh_types.specs.Darts.{arc_of, HasArcsTwice, IsDart}
use Rattle.kh_types.specs.Directions.{is_head, is_positive, plus_count, positive_at, tail_of}
use Rattle.kh_types.specs.StateSum.{int_sum, state_sum, state_term}
use Rattle.kh_types.specs.StateSum as kh
use Rattle.kh_types.proofs.AcceptedLemmas.{HasArcsTwice-directed}
use Rattle.kh_types.proofs.FilteredRanges.{filter-none}
use Rattle.kh_types.proofs.Heads.{HasEnds-directed}
use Rattle.kh_types.proofs.JoinedClasses.{IsNamed-classes_of, classes_of-same}
use Rattle.kh_types.proofs.Lists.{count_by-map, filter-range_all}
use Rattle.kh_types.proofs.RangeCounts.{count_by-alike}
use Rattle.kh_types.proofs.Ranges.{range-append}
use Rattle.code_passes.specs.Parts.{slots_in}
use Rattle.face_walk.proofs.PlainCounts.{count_by-one_to_one}
use Rattle.gluing_laws.specs.Arcs.{arc_by_place}
use Rattle.gluing_laws.specs.Glue.{renamed}
use Rattle.gluing_laws.proofs.Renamed.{AreBelow-renamed, class_count-renamed}
use Rattle.gluing_laws.proofs.Stubs.{Respects-renamed, Respects-from_renamed}
use Rattle.kink_and_finger_laws.specs.DropCircles.{parts_circle_count, parts_plus, parts_sum, parts_term}
use Rattle.kink_and_finger_laws.specs.Drops.{dropped, is_ring, kept_crossings, kept_places, ring_count, stands_in, straight_names, straight_pairs}
use Rattle.kink_and_finger_laws.specs.FingerAdd.{dart_with}
use Rattle.kink_and_finger_laws.proofs.KeptCodes.{arc_by_place-below, kept-slots, length-kept, renamed_slots-at, straight-below, straight-finest, straight-joined}
use Rattle.kink_and_finger_laws.proofs.KinkCircles.{before}
use Rattle.kink_and_finger_laws.proofs.KinkDropSums.{count-later, count-none}
use Rattle.kink_and_finger_laws.proofs.PassEnds.{over_from, over_to}
use Rattle.kink_and_finger_laws.proofs.SmoothingPairs.{joined-below, smoothing-low, smoothings-all, smoothings-each}
use Rattle.kink_and_finger_laws.proofs.StandingNames.{count-all, IsOfNames-smoothings, stands-none, stands-some, standing-classes}
use Rattle.kink_and_finger_laws.proofs.RisenNumbers.{end-le, low-between, low-within, rise-injective, rise-le_end, rise-zero}
use Rattle.kink_and_finger_laws.proofs.AddedCodes.{IsAdded, IsArc-low, IsInner}
use Rattle.kink_and_finger_laws.proofs.AddedSizes.{IsDirected-added}
use Rattle.kink_and_finger_laws.proofs.AddedSigns.{sign-old}
use Rattle.kh_types.proofs.IntSums.{int_sum-range_agree}

-- names of classes that are joined straight through: those that a function gives which has one value on each class, and whose value at
-- an arc is in its class and not above it
straight_names-are : (crossings : List (List ℕ)) (gone : ℕ → Bool) (f : ℕ → ℕ) → HasArcsTwice crossings
    → ((place : ℕ) → place < length crossings → gone place ≡ true
    → (f (arc_by_place crossings place 0) ≡ f (arc_by_place crossings place 2)) × (f (arc_by_place crossings place 1) ≡ f (arc_by_place crossings place 3)))
    → ((x : ℕ) → f x ≤ x)
    → ((x : ℕ) → x < arc_count crossings + 1
    → slice_index (straight_names crossings gone) (f x) ≡ slice_index (straight_names crossings gone) x)
    → (x : ℕ) → x < arc_count crossings + 1 → slice_index (straight_names crossings gone) x ≡ f x
straight_names-are crossings gone f twice each low same x below =
    let named = IsNamed-classes_of (arc_count crossings + 1) (straight_pairs crossings gone) (straight-below crossings gone twice) in
    let least = named.least x below in
    let under = low x in
    let name_least = named.least (f x) (omega (arith, below, under)) in
    let value = straight-finest crossings gone f twice each (slice_index (straight_names crossings gone) x) x
    (omega (arith, below, least)) below (named.own x below) in
    let back = low (slice_index (straight_names crossings gone) x) in
    omega (arith, name_least, same x below, value, back)

-- the ends of an over pass, by slots
over-joined : (f : ℕ → ℕ) (slots : List ℕ) (positive : Bool) → f (arc_in slots 1) ≡ f (arc_in slots 3)
    → f (arc_in slots (over_from positive)) ≡ f (arc_in slots (over_to positive))
over-joined f slots positive same = grind (arith, nat_tests)

joined-over : (f : ℕ → ℕ) (slots : List ℕ) (positive : Bool)
    → f (arc_in slots (over_from positive)) ≡ f (arc_in slots (over_to positive)) → f (arc_in slots 1) ≡ f (arc_in slots 3)
joined-over f slots positive same = grind (arith, nat_tests)

-- a smoothing under other names
smoothing-named : (f g : ℕ → ℕ) (b : ℕ) (slots others : List ℕ) → ((slot : ℕ) → slot < 4 → arc_in others slot ≡ g (arc_in slots slot))
    → Respects f (smoothing_of b others) → Respects (λ x. f (g x)) (smoothing_of b slots)
smoothing-named f g b slots others names has6 = grind (arith, nat_tests)

named-smoothing : (f g : ℕ → ℕ) (b : ℕ) (slots others : List ℕ) → ((slot : ℕ) → slot < 4 → arc_in others slot ≡ g (arc_in slots slot))
    → Respects (λ x. f (g x)) (smoothing_of b slots) → Respects f (smoothing_of b others)
named-smoothing f g b slots others names has6 = grind (arith, nat_tests)

-- the crossings that were added are gone, and the old ones stay
pub record AreAddedGone (old new : List (List ℕ)) (gone : ℕ → Bool) : Type 0 where
  pub stays : (place : ℕ) → place < length old → gone place ≡ false
  pub goes : (place : ℕ) → length old ≤ place → place < length new → gone place ≡ true

module _ {old new : List (List ℕ)} {rise end low : ℕ → ℕ} {sign : ℕ → Bool}
    (added : IsAdded old new rise end low sign) (gone : ℕ → Bool) (are : AreAddedGone old new gone) where
  twice : HasArcsTwice new
  twice = HasArcsTwice-directed new (IsDirected-added added)

  abbrev names : ℕ → ℕ
  names = slice_index (straight_names new gone)

  abbrev kept : List (List ℕ)
  kept = kept_crossings new gone

  -- a number and the next of one arc are joined, so all numbers of an arc are
  names-inner : (y : ℕ) → IsInner old low y → names y ≡ names (y + 1)
  names-inner y inner =
      let k = (added.entered y inner).0 in
      let is = (added.entered y inner).1 in
      let passes = (added.inside k is).passes in
      let below : k - 1 < length new = omega (arith, is.past, is.within) in
      let joined = straight-joined new gone (k - 1) twice below (are.goes (k - 1) (omega (arith, is.past)) below) in
      elim (added.entered y inner).2 [
        | inl under ↦ sym (ap names under) ∙ joined.0 ∙ ap names (passes.under_to ∙ ap (λ z. z + 1) (sym passes.under_from ∙ under))
        | inr over ↦
            sym (ap names over) ∙ over-joined names (slots_of new k) (sign k) joined.1
            ∙ ap names (passes.over_to ∙ ap (λ z. z + 1) (sym passes.over_from ∙ over))
      ]

  names-run : (x k : ℕ) → IsArc old x → rise x + k ≤ end x → names (rise x + k) ≡ names (rise x)
  names-run x zero is within = let e : rise x + 0 ≡ rise x = omega arith in ap names e
  names-run x (suc k) is within =
      let y = rise x + k in
      let e : rise x + suc k ≡ rise x + k + 1 = omega arith in
      let here : low (rise x + k) ≡ x = low-between added.numbers x (rise x + k) (omega arith) (omega (arith, within)) in
      let there : low (rise x + k + 1) ≡ x = low-between added.numbers x (rise x + k + 1) (omega arith) (omega (arith, within)) in
      ap names e
      ∙ sym (names-inner y (record { is_arc = subst (λ (z : ℕ). IsArc old z) (sym here) is; same = there ∙ sym here }))
      ∙ names-run x k is (omega (arith, within))

  pub names-added : (y : ℕ) → y < arc_count new + 1 → names y ≡ rise (low y)
  names-added =
      let f : ℕ → ℕ = λ y. rise (low y) in
      straight_names-are new gone (λ y. rise (low y)) twice
      (λ place below is. elim (cases_lt place (length old)) [
        | inl early ↦ absurd (both_ways (gone place) (are.stays place early) is)
        | inr late ↦
            let inside = added.inside (place + 1) (record { past = omega (arith, late); within = omega (arith, below) }) in
            let slots = slots_of new (place + 1) in
            let e : place + 1 - 1 ≡ place = omega arith in
            subst (λ (p : ℕ). (rise (low (arc_by_place new p 0)) ≡ rise (low (arc_by_place new p 2)))
            × (rise (low (arc_by_place new p 1)) ≡ rise (low (arc_by_place new p 3)))) e (
              ap f inside.passes.under_from ∙ ap rise (sym inside.under_inner.same) ∙ sym (ap f inside.passes.under_to),
              joined-over f slots (sign (place + 1))
                  (ap f inside.passes.over_from ∙ ap rise (sym inside.over_inner.same) ∙ sym (ap f inside.passes.over_to)),
            )
      ])
      added.numbers.from
      (λ y below. elim (cases_eq y 0) [
        | inl none ↦
            let zero_low : low 0 ≡ 0 = omega (arith, low-within added.numbers 0 0 (omega arith)) in
            ap (λ z. names (rise (low z))) none ∙ ap names (ap rise zero_low ∙ rise-zero added.numbers ∙ sym none)
        | inr some ↦
            let is = IsArc-low added y (record { positive = omega (arith, some); within = omega (arith, below) }) in
            let e : rise (low y) + (y - rise (low y)) ≡ y = omega (arith, added.numbers.from y) in
            sym (names-run (low y) (y - rise (low y)) is (omega (arith, e, added.numbers.to y))) ∙ ap names e
      ])

  low-old : (place slot : ℕ) → place < length old → slot < 4 → low (arc_by_place new place slot) ≡ arc_by_place old place slot
  low-old place slot below slot_below =
      let dart = dart_with (place + 1) slot in
      let is : IsDart old dart = record { crossing = record { positive = omega arith; within = omega (arith, below) }; slot = slot_below } in
      let e : place + 1 - 1 ≡ place = omega arith in
      subst (λ (p : ℕ). low (arc_by_place new p slot) ≡ arc_by_place old p slot) e
      (elim (cases_Bool (is_head old dart)) [
        | inl head ↦ ap low (added.head dart is head) ∙ added.numbers.low_end (arc_of old dart)
        | inr tail ↦ ap low (added.tail dart is tail) ∙ added.numbers.low_rise (arc_of old dart)
      ])

  pub places-added : kept_places new gone ≡ range_with_len 0 (length old)
  places-added =
      let stays : ℕ → Bool = λ place. not (gone place) in
      let m = length new - length old in
      let size : length new ≡ length old + (length new - length old) = omega (arith, added.longer) in
      let e : 0 + length old ≡ length old = omega arith in
      ap (λ n. filter stays (range_with_len 0 n)) size
      ∙ ap (filter stays) (range-append 0 (length old) m)
      ∙ filter-append stays (range_with_len 0 (length old)) (range_with_len (0 + length old) m)
      ∙ ap₂ (λ xs ys. xs ++ ys)
      (filter-range_all stays 0 (length old) (λ place from below. ap not (are.stays place (omega (arith, below)))))
      (filter-none stays (0 + length old) m
      (λ place from below. ap not (are.goes place (omega (arith, from)) (omega (arith, below, size)))))
      ∙ append-nil (range_with_len 0 (length old))

  pub map-places : kept_places new gone ≡ map (λ i. i) (range_with_len 0 (length old))
  map-places = places-added ∙ sym (map-id (range_with_len 0 (length old)))

  size-kept : length (kept_crossings new gone) ≡ length old
  size-kept = length-kept new gone (λ i. i) (length old) map-places

  -- an old crossing stays with the first numbers of its arcs
  pub old-names : (place slot : ℕ) → place < length old → slot < 4 → names (arc_by_place new place slot) ≡ rise (arc_by_place old place slot)
  old-names place slot below slot_below = grind (arith, nat_tests, names-added, arc_by_place-below, twice, low-old)

  kept-arc : (place slot : ℕ) → place < length old → slot < 4 → arc_by_place kept place slot ≡ rise (arc_by_place old place slot)
  kept-arc place slot below slot_below =
      ap (λ slots. arc_in slots slot) (kept-slots new gone (λ i. i) (length old) place map-places below)
      ∙ renamed_slots-at (straight_names new gone) (slots_in new place) slot slot_below ∙ old-names place slot below slot_below

  -- each old arc stands, and nothing else
  stands-arc : (x : ℕ) → IsArc old x → stands_in kept (rise x) ≡ true
  stands-arc x is = elim (cases_Bool (stands_in kept (rise x))) [
    | inl holds ↦ holds
    | inr fails ↦
        let ends = HasEnds-directed old added.directed added.no_single x is in
        let tail = tail_of old x in
        let within = ends.tail.within in
        let below : tail.crossing - 1 < length old = omega (arith, within.crossing.positive, within.crossing.within) in
        absurd (stands-none kept (rise x) (tail.crossing - 1) tail.slot fails (omega (arith, below, size-kept)) within.slot
        (kept-arc (tail.crossing - 1) tail.slot below within.slot ∙ ap rise ends.tail.on_arc))
  ]

  arc-stands : (y : ℕ) → stands_in kept y ≡ true → IsArc old (low y) × (rise (low y) ≡ y)
  arc-stands y holds =
      stands-some (λ z. IsArc old (low z) × (rise (low z) ≡ z)) kept y
      (λ place slot below slot_below.
      let old_below : place < length old = omega (arith, below, size-kept) in
      let x = arc_by_place old place slot in
      let at = kept-arc place slot old_below slot_below in
      let here : low (arc_by_place kept place slot) ≡ x = ap low at ∙ added.numbers.low_rise x in
      let e : place + 1 - 1 ≡ place = omega arith in
      let is : IsArc old x =
      subst (λ (p : ℕ). IsArc old (arc_by_place old p slot)) e
      (added.directed.slots (dart_with (place + 1) slot)
      (record { crossing = record { positive = omega arith; within = omega (arith, old_below) }; slot = slot_below })) in
      (subst (λ (z : ℕ). IsArc old z) (sym here) is, ap rise here ∙ sym at)) holds

  rise-below : (x : ℕ) → x < arc_count old + 1 → rise x < arc_count new + 1
  rise-below x below = grind (arith, nat_tests, rise-le_end added.numbers x, end-le added.numbers x (arc_count old) (omega (arith, below)))

  standing-count : count_by (stands_in kept) (range_with_len 0 (arc_count new + 1)) ≡ arc_count old
  standing-count =
      let up = count_by-one_to_one (λ (k : ℕ). true) (stands_in kept) (λ k. rise (k + 1)) (arc_count old) (arc_count new + 1)
      (record {
        below = λ k below holds. rise-below (k + 1) (omega (arith, below));
        passes = λ k below holds. stands-arc (k + 1) (record { positive = omega arith; within = omega (arith, below) });
        apart = λ j k j_below k_below j_holds k_holds same. omega (arith, rise-injective added.numbers (j + 1) (k + 1) same);
      }) in
      let down = count_by-one_to_one (stands_in kept) (λ (k : ℕ). true) (λ y. low y - 1) (arc_count new + 1) (arc_count old)
      (record {
        below = λ y below holds. let is = (arc-stands y holds).0 in omega (arith, is.positive, is.within);
        passes = λ y below holds. refl;
        apart = λ y z y_below z_below y_holds z_holds same.
            let first = arc-stands y y_holds in
            let second = arc-stands z z_holds in
            let alike : low y ≡ low z = omega (arith, same, first.0.positive, second.0.positive) in
            sym first.1 ∙ ap rise alike ∙ second.1;
      }) in
      omega (arith, up, down, count-all 0 (arc_count old))

  pub no-ring : ring_count new gone ≡ 0
  no-ring =
      count_by-alike (is_ring new gone) (λ x. false) 1 (arc_count new)
      (λ y from below. none (is_least (straight_names new gone) y) (stands_in kept y)
      (λ least.
      let is = IsArc-low added y (record { positive = from; within = omega (arith, below) }) in
      let own : rise (low y) ≡ y = sym (names-added y (omega (arith, below))) ∙ eqb-true (names y) y least in
      subst (λ (z : ℕ). stands_in kept z ≡ true) own (stands-arc (low y) is)))
      ∙ count-none 1 (arc_count new)
    where
      none : (a b : Bool) → (a ≡ true → b ≡ true) → (a && not b) ≡ false
      none a b tells = grind (arith, nat_tests)

  low-kept : (state : ℕ) → AreBelow (arc_count new + 1) (smoothings_of kept state)
  low-kept state =
      smoothings-all (λ pair. (pair.0 < arc_count new + 1) × (pair.1 < arc_count new + 1)) kept state
      (λ place below. smoothing-low (arc_count new + 1) (bit state place) (slots_in kept place)
      (λ slot slot_below.
      let old_below : place < length old = omega (arith, below, size-kept) in
      let at = rise-below (arc_by_place old place slot)
      (arc_by_place-below old place slot (HasArcsTwice-directed old added.directed) old_below slot_below) in
      omega (arith, at, kept-arc place slot old_below slot_below)))

  -- so a state has the circles of the old code
  classes-kept : (state : ℕ) → class_count (classes_of (arc_count new + 1) (smoothings_of kept state)) + (arc_count old + 1)
      ≡ class_count (classes_of (arc_count old + 1) (smoothings_of old state)) + (arc_count new + 1)
  classes-kept state =
      let old_twice = HasArcsTwice-directed old added.directed in
      let old_low : AreBelow (arc_count old + 1) (smoothings_of old state) =
      smoothings-all (λ pair. (pair.0 < arc_count old + 1) × (pair.1 < arc_count old + 1)) old state
      (λ place below. joined-below old (arc_count old + 1) state place old_twice (omega arith) below) in
      let same : classes_of (arc_count new + 1) (smoothings_of kept state) ≡ classes_of (arc_count new + 1) (renamed rise (smoothings_of old state)) =
      classes_of-same (arc_count new + 1) (smoothings_of kept state) (renamed rise (smoothings_of old state)) (low-kept state)
      (AreBelow-renamed (arc_count old + 1) (arc_count new + 1) rise (smoothings_of old state) rise-below old_low)
      (λ f respects.
      Respects-renamed f rise (smoothings_of old state)
      (smoothings-all (λ pair. f (rise pair.0) ≡ f (rise pair.1)) old state
      (λ place below.
      smoothing-named f rise (bit state place) (slots_in old place) (slots_in kept place) (λ slot slot_below. kept-arc place slot below slot_below)
      (smoothings-each (λ pair. f pair.0 ≡ f pair.1) kept state place respects (omega (arith, below, size-kept))))))
      (λ f respects.
      let named = Respects-from_renamed f rise (smoothings_of old state) respects in
      smoothings-all (λ pair. f pair.0 ≡ f pair.1) kept state
      (λ place below.
      let old_below : place < length old = omega (arith, below, size-kept) in
      named-smoothing f rise (bit state place) (slots_in old place) (slots_in kept place)
      (λ slot slot_below. kept-arc place slot old_below slot_below)
      (smoothings-each (λ pair. f (rise pair.0) ≡ f (rise pair.1)) old state place named old_below))) in
      ap (λ cs. class_count cs + (arc_count old + 1)) same
      ∙ class_count-renamed (arc_count old + 1) (arc_count new + 1) rise (smoothings_of old state) old_low rise-below
      (λ x y x_below y_below is. rise-injective added.numbers x y is)

-- and dropping what was added gives the old code's state sum
pub state_sum-added : (code more : Code) (rise end low : ℕ → ℕ) (sign gone : ℕ → Bool)
    → IsAdded code.crossings more.crossings rise end low sign → AreAddedGone code.crossings more.crossings gone → more.loops ≡ code.loops
    → (exponent : ℤ) → parts_sum (arc_count more.crossings + 1) (dropped more gone) exponent ≡ state_sum code exponent
state_sum-added code more rise end low sign gone added are loops exponent =
    let old = code.crossings in
    let new = more.crossings in
    let kept = kept_crossings new gone in
    let size = length-kept new gone (λ i. i) (length old) (map-places added gone are) in
    let longer : length new ≡ length old + (length new - length old) = omega (arith, added.longer) in
    let e : 0 + 1 ≡ 1 = omega arith in
    let plus : parts_plus (dropped more gone) ≡ plus_count old =
    count_by-map (λ (b : Bool). b) (positive_at new) (kept_places new gone) ∙ ap (count_by (positive_at new)) (places-added added gone are)
    ∙ count_by-alike (positive_at new) (positive_at old) 0 (length old)
    (λ place from below.
    sign-old added (place + 1) (length new - length old) (record { positive = omega arith; within = omega (arith, below) }) longer)
    ∙ sym (ap (λ a. count_by (is_positive old) (range_with_len a (length old))) (sym e) ∙ count-later (is_positive old) 0 (length old)) in
    let circles : (state : ℕ) → parts_circle_count (arc_count new + 1) (dropped more gone) state ≡ circle_count code state =
    λ state.
    omega (
      arith,
      standing-classes (arc_count new + 1) kept (smoothings_of kept state) (low-kept added gone are state) (IsOfNames-smoothings kept state),
      standing-count added gone are,
      classes-kept added gone are state,
      before code state (HasArcsTwice-directed old added.directed),
      no-ring added gone are,
      loops,
    ) in
    ap (λ m. int_sum (map (parts_term (arc_count new + 1) (dropped more gone) exponent) (range_with_len 0 (2 ^ m)))) size
    ∙ int_sum-range_agree (parts_term (arc_count new + 1) (dropped more gone) exponent) (state_term code exponent) 0 (2 ^ length old)
    (λ state from below.
    ap₂ (λ p m. kh.term_of p (m - p) exponent (ones m state) (parts_circle_count (arc_count new + 1) (dropped more gone) state)) plus size
    ∙ ap (λ c. kh.term_of (plus_count old) (length old - plus_count old) exponent (ones (length old) state) c) (circles state))
