-- The numbers that a slide leaves: each component keeps its numbers, and begins with its least arc, unless it is over at both its
-- crossings. A slide brings to each dart the arc of a dart that is its source; what is the same at the two darts of an arc and at
-- opposite slots is the same at a dart and its source. So each dart has an arc of the component that it had before, and passes
-- still go from an arc to the next one. Hence the arcs follow one another as before, and each component gets its old numbers,
-- beginning with its least arc; the exception is a component of two arcs that is over at both its crossings after the slide. It
-- was so before: if an arc of it came in below, then the arc at that slot now would be of it too, and come in below.
use Rattle.std.proofs.Common.{◌≡◌, ℕ, inl, inr, ◌+◌, ◌-◌, ◌*◌, ◌/◌, ◌%◌, ◌<◌, ◌≤◌, ◌∙◌, List, [], length, refl, sym, ap, ap₂, subst, arith, Bool, true, false, ◌||◌, pos, neg_ℤ, eqb-true, IsTrue}
use Rattle.std.specs.Prelude.{nat_eq, if◌then◌else◌, slice_index_or, MatchBool}
use Rattle.std.specs.List.{AllByRecursion}
use Rattle.std.proofs.lemmas.Bool.{both_ways, cases_eq, cases_lt, cases_Bool}
use Rattle.std.proofs.lemmas.Bool.Decides.{nat_tests}
use Rattle.kh_types.specs.Acceptance.{accepted}
use Rattle.kh_types.specs.Code.{Code, arc_in, slots_of, IsArc, IsCrossing}
use Rattle.kh_types.specs.Components.{next}
use Rattle.kh_types.specs.Darts.{HasArcsTwice, arc_of, dart_at, dart_place, partner_at}
use Rattle.kh_types.specs.Directions.{is_positive, head_of, HasNoSingleArcs, IsPass}
use Rattle.kh_types.specs.Accepted.{IsDirected}
use Rattle.kh_types.proofs.AcceptedLemmas.{HasArcsTwice-accepted}
use Rattle.kh_types.proofs.ClassLemmas.{classes-together}
use Rattle.kh_types.proofs.DartPairs.{IsDart-at, IsOtherPlace-partner_at, dart_at-place, dart_place-below}
use Rattle.kh_types.proofs.Heads.{HasEnds-accepted, HasNoSingleArcs-accepted, IsPass-over, IsPass-under}
use Rattle.kh_types.proofs.NextArcs.{component, HasPlace-directed}
use Rattle.code_passes.specs.ComponentLabels.{entering_label}
use Rattle.code_passes.specs.Passes.{Pass, is_over}
use Rattle.code_passes.proofs.CutArcs.{IsFirst, size, component-in, end-within}
use Rattle.code_passes.proofs.LabelCounts.{under_at-is}
use Rattle.code_passes.proofs.LeastArcs.{IsFirstOf-directed}
use Rattle.orient_arcs.specs.OtherNames.{KeepsComponents}
use Rattle.code_passes.specs.Parts.{Parts, ArePaired, passes_through, passes_at, slots_in, is_positive_at}
use Rattle.orient_arcs.specs.Renumbered.{follows, label_entered, number_in, order_of}
use Rattle.orient_arcs.proofs.Bridge.{number-once, slot-head}
use Rattle.orient_arcs.proofs.Members.{IsIn}
use Rattle.orient_arcs.proofs.PairedPasses.{heads_of, All-flat_map_range, entering-at, entering-enters, entering-holds}
use Rattle.orient_arcs.proofs.PlacedNumbers.{HasOverLabels, IsPlaced, placed-numbers}
use Rattle.slide_laws.specs.Slid.{on, slid, source}
use Rattle.slide_laws.specs.SlideCodes.{is_head_with}
use Rattle.slide_laws.specs.Triangles.{IsTriangle}
use Rattle.slide_laws.proofs.Corners.{four, at_places, on-below, on-on, on-zero, source-below, source-outside, source-rotated, source-x}
use Rattle.slide_laws.proofs.Passes.{KeepsPass-slid, arc-behind, passes-arcs, respects-behind}
use Rattle.slide_laws.proofs.Sides.{HasSides, HasSides-rotated, HasSides-triangle}
use Rattle.slide_laws.proofs.SlidArcs.{arc_of_dart-slid, length-slid}
use Rattle.slide_laws.proofs.SlidHeads.{HasHeadsAndTails-slid}
use Rattle.diagram_moves.specs.Kept.{slid_parts}
use Rattle.diagram_moves.proofs.SlidCodes.{ArePaired-slid, signs-slid}
use Rattle.gluing_laws.specs.Codes.{arc_of_dart}
use Rattle.gluing_laws.proofs.DartPairs.{arc_of-dart}

-- what is one at the two darts of each arc, and at opposite slots, is one at a dart and at its source

record IsOne (n : ℕ) (partner value : ℕ → ℕ) : Type 0 where
  pub across : (place : ℕ) → place < 4 * n → value place ≡ value (on place 2)
  pub partners : (place : ℕ) → place < 4 * n → value (partner place) ≡ value place

value-source_x : (n : ℕ) (partner value : ℕ → ℕ) (x y z : ℕ) → IsOne n partner value → HasSides n partner x y z
    → (j : ℕ) → j < 4 → value (source x y z (on x j)) ≡ value (on x j)
value-source_x n partner value x y z is sides =
    let y_side : value (on y 1) ≡ value x = sym (ap value sides.from_x) ∙ is.partners x sides.x_below in
    let z_side : value z ≡ value (on x 1) = sym (is.partners z sides.z_below) ∙ ap value sides.from_z in
    four (λ j. value (source x y z (on x j)) ≡ value (on x j))
    (ap value (source-x x y z 0 (omega arith)) ∙ sym (ap value (on-on y 1 2)) ∙ sym (is.across (on y 1) (on-below n y 1 sides.y_below))
    ∙ y_side ∙ sym (ap value (on-zero x)))
    (ap value (source-x x y z 1 (omega arith)) ∙ sym (is.across z sides.z_below) ∙ z_side)
    (ap value (source-x x y z 2 (omega arith)) ∙ y_side ∙ is.across x sides.x_below)
    (ap value (source-x x y z 3 (omega arith)) ∙ z_side ∙ is.across (on x 1) (on-below n x 1 sides.x_below) ∙ ap value (on-on x 1 2))

value-source : (n : ℕ) (partner value : ℕ → ℕ) (x y z : ℕ) → IsOne n partner value → HasSides n partner x y z
    → (place : ℕ) → value (source x y z place) ≡ value place
value-source n partner value x y z is sides =
    let second = HasSides-rotated n partner x y z sides in
    let third = HasSides-rotated n partner y z x second in
    let once = source-rotated x y z sides.apart in
    let twice = once ∙ source-rotated y z x second.apart in
    at_places x y z (λ place. value (source x y z place) ≡ value place)
    (value-source_x n partner value x y z is sides)
    (λ j below. ap (λ f. value (f (on y j))) once ∙ value-source_x n partner value y z x is second j below)
    (λ j below. ap (λ f. value (f (on z j))) twice ∙ value-source_x n partner value z x y is third j below)
    (λ place outside. ap value (source-outside x y z place outside))

-- a pass goes from the slot of a head to the one across
across-next : (next : ℕ → ℕ) (b : Bool) (slots : List ℕ) (slot : ℕ) → slot < 4 → (nat_eq slot 0 || nat_eq slot (if b then 3 else 1)) ≡ true
    → arc_in slots 2 ≡ next (arc_in slots 0)
    → MatchBool b (arc_in slots 1 ≡ next (arc_in slots 3)) (arc_in slots 3 ≡ next (arc_in slots 1))
    → arc_in slots ((slot + 2) % 4) ≡ next (arc_in slots slot)
across-next next b slots slot below head under over = grind (arith, nat_tests)

module _ (code : Code) (x y z : ℕ) (holds : IsTrue (accepted code)) (triangle : IsTriangle code.crossings x y z) where
  abbrev after : List (List ℕ)
  after = slid code.crossings x y z

  abbrev parts : Parts
  parts = (slid_parts code x y z)

  abbrev signs : ℕ → Bool
  signs = is_positive code.crossings

  twice : HasArcsTwice code.crossings
  twice = HasArcsTwice-accepted code holds

  sides : HasSides (length code.crossings) (partner_at code.crossings) x y z
  sides = HasSides-triangle code.crossings x y z twice triangle

  directed : IsDirected code.crossings
  directed = (HasNoSingleArcs-accepted code holds).0

  moves : HasNoSingleArcs code.crossings
  moves = (HasNoSingleArcs-accepted code holds).1

  size-after : length (slid code.crossings x y z) ≡ length code.crossings
  size-after = length-slid code.crossings x y z

  pub slid-paired : ArePaired (slid_parts code x y z)
  slid-paired = ArePaired-slid code x y z holds triangle

  source-low : (dart : ℕ) → dart < 4 * length code.crossings → source x y z dart < 4 * length code.crossings
  source-low = source-below (length code.crossings) x y z sides.apart sides.x_below sides.y_below sides.z_below

  old-arc : (dart : ℕ) → dart < 4 * length code.crossings → IsArc code.crossings (arc_of_dart code.crossings dart)
  old-arc dart below =
      subst (λ (a : ℕ). IsArc code.crossings a) (arc_of-dart code.crossings dart) (twice.slots (dart_at dart) (IsDart-at code.crossings dart below))

  new-arc : (dart : ℕ) → dart < 4 * length code.crossings → IsArc code.crossings (arc_of_dart (slid code.crossings x y z) dart)
  new-arc dart below = grind (arith, nat_tests, arc_of_dart-slid, old-arc, source-low)

  -- the arc at a dart is one of the component that was there
  same-component : (dart : ℕ) → dart < 4 * length code.crossings
      → component code.crossings (arc_of_dart (slid code.crossings x y z) dart) ≡ component code.crossings (arc_of_dart code.crossings dart)
  same-component dart below =
      let n = length code.crossings in
      let together = classes-together (2 * n + 1) _ (passes-arcs code.crossings twice) in
      ap (component code.crossings) (arc_of_dart-slid code.crossings x y z dart below)
      ∙ value-source n (partner_at code.crossings) (λ d. component code.crossings (arc_of_dart code.crossings d)) x y z
      (record {
        across = λ place within. respects-behind (component code.crossings) code.crossings together place within;
        partners = λ place within.
            ap (component code.crossings)
            (sym (arc_of-dart code.crossings (partner_at code.crossings place))
            ∙ (IsOtherPlace-partner_at code.crossings place twice within).same_arc ∙ arc_of-dart code.crossings place);
      })
      sides dart

  -- passes go on to the next arc

  old-next : (dart : ℕ) → dart < 4 * length code.crossings → is_head_with (is_positive code.crossings) (dart_at dart) ≡ true
      → arc_of_dart code.crossings (on dart 2) ≡ next code.crossings (arc_of_dart code.crossings dart)
  old-next dart below head =
      let crossing = dart / 4 + 1 in
      let is : IsCrossing code.crossings (dart / 4 + 1) = record { positive = omega arith; within = omega (arith, below) } in
      let e : dart / 4 + 1 - 1 ≡ dart / 4 = omega arith in
      let under = IsPass-under code.crossings directed moves crossing is in
      let over = IsPass-over code.crossings directed moves crossing is in
      arc-behind code.crossings dart
      ∙ subst (λ (k : ℕ). arc_in (slice_index_or code.crossings k []) ((dart % 4 + 2) % 4)
      ≡ next code.crossings (arc_in (slice_index_or code.crossings k []) (dart % 4))) e
      (across-next (next code.crossings) (is_positive code.crossings crossing) (slots_of code.crossings crossing) (dart % 4) (omega arith)
      head under.follows (both (is_positive code.crossings crossing) crossing over))
    where
      both : (b : Bool) (crossing : ℕ) → MatchBool b (IsPass code.crossings crossing 3 1) (IsPass code.crossings crossing 1 3)
          → MatchBool b
          (arc_in (slots_of code.crossings crossing) 1 ≡ next code.crossings (arc_in (slots_of code.crossings crossing) 3))
          (arc_in (slots_of code.crossings crossing) 3 ≡ next code.crossings (arc_in (slots_of code.crossings crossing) 1))
      both b crossing pass = grind (arith, nat_tests)

  new-next : (dart : ℕ) → dart < 4 * length code.crossings → is_head_with (is_positive code.crossings) (dart_at dart) ≡ true
      → arc_of_dart (slid code.crossings x y z) (on dart 2) ≡ next code.crossings (arc_of_dart (slid code.crossings x y z) dart)
  new-next dart below head = grind (arith, nat_tests, KeepsPass-slid, sides, old-next)

  -- a pass that goes from an arc to the next
  IsOnward : Pass → Type 0
  IsOnward pass = IsArc code.crossings pass.enters × (pass.leaves ≡ next code.crossings pass.enters)

  slot-there : (place slot : ℕ) → slot < 4
      → arc_of_dart (slid code.crossings x y z) (4 * place + slot) ≡ arc_in (slots_in (slid code.crossings x y z) place) slot
  slot-there place slot below = grind (arith, nat_tests)

  slot-next : (place slot : ℕ) → place < length code.crossings → slot < 4
      → (nat_eq slot 0 || nat_eq slot (if is_positive code.crossings (place + 1) then 3 else 1)) ≡ true
      → arc_in (slots_in (slid code.crossings x y z) place) ((slot + 2) % 4)
      ≡ next code.crossings (arc_in (slots_in (slid code.crossings x y z) place) slot)
  slot-next place slot below slot_below head =
      let dart = 4 * place + slot in
      let p : (4 * place + slot) / 4 ≡ place = omega (arith, slot_below) in
      let s : (4 * place + slot) % 4 ≡ slot = omega (arith, slot_below) in
      let is_head : is_head_with (is_positive code.crossings) (dart_at (4 * place + slot)) ≡ true =
      ap₂ (λ k l. nat_eq l 0 || nat_eq l (if is_positive code.crossings (k + 1) then 3 else 1)) p s ∙ head in
      sym (arc-behind (slid code.crossings x y z) dart ∙ ap₂ (λ k l. arc_in (slice_index_or (slid code.crossings x y z) k []) ((l + 2) % 4)) p s)
      ∙ new-next dart (omega (arith, below, slot_below)) is_head ∙ ap (next code.crossings) (slot-there place slot slot_below)

  slot-arc : (place slot : ℕ) → place < length code.crossings → slot < 4
      → IsArc code.crossings (arc_in (slots_in (slid code.crossings x y z) place) slot)
  slot-arc place slot below slot_below =
      grind (arith, nat_tests, slot-there place slot slot_below, new-arc (4 * place + slot) (omega (arith, below, slot_below)))

  all-onward : AllByRecursion IsOnward (passes_through (slid_parts code x y z))
  unfolding IsOnward
  all-onward =
      All-flat_map_range IsOnward (passes_at parts) 0 (length (slid code.crossings x y z))
      (λ place from below.
      let within : place < length code.crossings = omega (arith, below, size-after) in
      let sign : is_positive_at parts.positive place ≡ is_positive code.crossings (place + 1) = signs-slid code.crossings place within in (
        (slot-arc place 0 within (omega arith), slot-next place 0 within (omega arith) refl),
        (by place within (is_positive code.crossings (place + 1)) refl (is_positive_at parts.positive place) sign, tt),
      ))
    where
      by : (place : ℕ) → place < length code.crossings → (b : Bool) → is_positive code.crossings (place + 1) ≡ b
          → (c : Bool) → c ≡ is_positive code.crossings (place + 1)
          → IsArc code.crossings (arc_in (slots_in (slid code.crossings x y z) place) (if c then 3 else 1))
          × (arc_in (slots_in (slid code.crossings x y z) place) (if c then 1 else 3)
          ≡ next code.crossings (arc_in (slots_in (slid code.crossings x y z) place) (if c then 3 else 1)))
      by place within true is true same = (
        slot-arc place 3 within (omega arith),
        slot-next place 3 within (omega arith) (ap (λ t. nat_eq 3 0 || nat_eq 3 (if t then 3 else 1)) is),
      )
      by place within false is false same = (
        slot-arc place 1 within (omega arith),
        slot-next place 1 within (omega arith) (ap (λ t. nat_eq 1 0 || nat_eq 1 (if t then 3 else 1)) is),
      )
      by place within true is false same = absurd (cc)
      by place within false is true same = absurd (cc)

  heads-arcs : (a : ℕ) → IsIn a (heads_of (slid_parts code x y z) slid-paired) → IsArc code.crossings a
  unfolding IsOnward
  heads-arcs a is =
      subst (λ (b : ℕ). IsArc code.crossings b) (entering-enters parts slid-paired a is)
      (entering-holds parts slid-paired IsOnward a all-onward is).0

  arcs-heads : (a : ℕ) → IsArc code.crossings a → IsIn a (heads_of (slid_parts code x y z) slid-paired)
  arcs-heads a is =
      let is_new : IsArc (slid code.crossings x y z) a =
      record { positive = is.positive; within = subst (λ (k : ℕ). a ≤ 2 * k) (sym size-after) is.within } in
      let found = (HasHeadsAndTails-slid code x y z holds sides a is_new).0 in
      let within = found.1.is.within in
      subst (λ (b : ℕ). IsIn b (heads_of (slid_parts code x y z) slid-paired)) found.1.is.on_arc
      (slot-head parts slid-paired (found.0.crossing - 1) found.0.slot (omega (arith, within.crossing.positive, within.crossing.within)) within.slot)

  follows-next : (a : ℕ) → IsArc code.crossings a
      → follows (passes_through (slid_parts code x y z)) a ≡ next code.crossings a
  unfolding IsOnward
  follows-next a is =
      let head = arcs-heads a is in
      (entering-holds parts slid-paired IsOnward a all-onward head).1 ∙ ap (next code.crossings) (entering-enters parts slid-paired a head)

  placed : (a : ℕ) → IsArc code.crossings a
      → IsPlaced code directed (slid_parts code x y z) slid-paired arcs-heads heads-arcs follows-next size-after
      (order_of (passes_through (slid_parts code x y z))) a
  placed = placed-numbers code directed parts slid-paired arcs-heads heads-arcs follows-next size-after

  -- an arc that comes in below has a label of an under pass
  under-label : (dart : ℕ) → dart < 4 * length code.crossings → dart % 4 ≡ 0
      → is_over (label_entered (passes_through (slid_parts code x y z)) (arc_of_dart (slid code.crossings x y z) dart)) ≡ false
  under-label dart below under =
      let place = dart / 4 in
      let slots = slots_in (slid code.crossings x y z) (dart / 4) in
      let entered = (entering-at parts slid-paired (dart / 4) (omega (arith, below, size-after))).0 in
      let arc : arc_of_dart (slid code.crossings x y z) dart ≡ arc_in (slots_in (slid code.crossings x y z) (dart / 4)) 0 =
      ap (λ s. arc_in (slots_in (slid code.crossings x y z) (dart / 4)) s) under in
      let same : label_entered (passes_through (slid_parts code x y z)) (arc_in (slots_in (slid code.crossings x y z) (dart / 4)) 0)
      ≡ neg_ℤ (pos (dart / 4 + 1)) = ap (λ (p : Pass). p.label) entered in
      ap (λ a. is_over (label_entered (passes_through (slid_parts code x y z)) a)) arc ∙ ap is_over same
      ∙ ap is_over (under_at-is (dart / 4))

  -- a component that is over at both its crossings after the slide was so before
  over-before : (first : ℕ) → IsFirst code.crossings first
      → HasOverLabels code directed (slid_parts code x y z) slid-paired arcs-heads heads-arcs follows-next size-after first
      → (arc : ℕ) → IsArc code.crossings arc → component code.crossings arc ≡ first → is_over (entering_label code.crossings arc) ≡ true
  over-before first is labels arc arc_is inside =
      let ends = HasEnds-accepted code holds arc arc_is in
      let head = head_of code.crossings arc in
      let within = ends.head.within in
      elim (cases_Bool (nat_eq (head_of code.crossings arc).slot 0)) [
        | inr over ↦
            ap (λ b. is_over (if b then neg_ℤ (pos (head_of code.crossings arc).crossing) else pos (head_of code.crossings arc).crossing)) over
            ∙ positive-over (head_of code.crossings arc).crossing within.crossing.positive
        | inl under ↦
            let dart = dart_place head in
            let below : dart_place (head_of code.crossings arc) < 4 * length code.crossings = dart_place-below code.crossings head within in
            let slot = eqb-true (head_of code.crossings arc).slot 0 under in
            let at_zero : dart_place (head_of code.crossings arc) % 4 ≡ 0 = omega (arith, slot) in
            let other = arc_of_dart (slid code.crossings x y z) dart in
            let other_is = new-arc dart below in
            let old : arc_of_dart code.crossings (dart_place (head_of code.crossings arc)) ≡ arc =
            sym (arc_of-dart code.crossings dart) ∙ ap (arc_of code.crossings) (dart_at-place code.crossings head within) ∙ ends.head.on_arc in
            let other_inside : component code.crossings (arc_of_dart (slid code.crossings x y z) (dart_place (head_of code.crossings arc))) ≡ first =
            same-component dart below ∙ ap (component code.crossings) old ∙ inside in
            let place = HasPlace-directed code.crossings directed other other_is in
            let alike : size code.crossings (component code.crossings (arc_of_dart (slid code.crossings x y z) (dart_place (head_of code.crossings arc))))
            ≡ size code.crossings first = ap (size code.crossings) other_inside in
            let two = labels.two in
            let label_of = λ (a : ℕ). is_over (label_entered (passes_through (slid_parts code x y z)) a) in
            let over : is_over (label_entered (passes_through (slid_parts code x y z))
            (arc_of_dart (slid code.crossings x y z) (dart_place (head_of code.crossings arc)))) ≡ true =
            elim (cases_eq (arc_of_dart (slid code.crossings x y z) (dart_place (head_of code.crossings arc))) first) [
              | inl same ↦ ap label_of same ∙ labels.first_over
              | inr differs ↦
                  let second : arc_of_dart (slid code.crossings x y z) (dart_place (head_of code.crossings arc)) ≡ first + 1 =
                  omega (arith, differs, place.from, place.below, other_inside, alike, two) in
                  ap label_of second ∙ labels.second_over
            ] in
            absurd (both_ways (label_of other) (under-label dart below at_zero) over)
      ]
    where
      positive-over : (k : ℕ) → 1 ≤ k → is_over (pos k) ≡ true
      positive-over k some = grind (arith, nat_tests)

  pub slid-keeps : KeepsComponents (number_in (order_of (passes_through (slid_parts code x y z)))) code.crossings
  slid-keeps = record {
    apart = λ a b a_is b_is same. number-once parts slid-paired a b (arcs-heads a a_is) (arcs-heads b b_is) same;
    across = λ a b a_is b_is behind.
        let a_placed = placed a a_is in
        let b_placed = placed b b_is in
        let a_first = IsFirstOf-directed code.crossings directed a a_is in
        let b_first = IsFirstOf-directed code.crossings directed b b_is in
        let a_below = a_placed.below in
        let b_from = b_placed.from in
        elim (cases_lt (component code.crossings b)
        (component code.crossings a + size code.crossings (component code.crossings a))) [
          | inr past ↦ omega (arith, past, a_below, b_from)
          | inl inside ↦
              let same = component-in code.crossings directed (component code.crossings a) (component code.crossings b)
              (record { is_arc = a_first.is_arc; own = a_first.own }) (omega (arith, behind)) inside in
              absurd (omega (arith, same, b_first.own, behind))
        ];
    within = λ a a_is.
        let first = component code.crossings a in
        let found = IsFirstOf-directed code.crossings directed a a_is in
        let is : IsFirst code.crossings (component code.crossings a) = record { is_arc = found.is_arc; own = found.own } in
        elim ((placed a a_is).least) [
          | inl low ↦ inl low
          | inr labels ↦
              let two = labels.two in
              let second = component-in code.crossings directed first (first + 1) is (omega arith) (omega (arith, two)) in
              let second_is : IsArc code.crossings (component code.crossings a + 1) = second-arc first is labels.two in
              inr (record {
                two = labels.two;
                first_over = over-before first is labels first found.is_arc found.own;
                second_over = over-before first is labels (first + 1) second_is second;
              })
        ];
  }
    where
      second-arc : (first : ℕ) → IsFirst code.crossings first → size code.crossings first ≡ 2 → IsArc code.crossings (first + 1)
      second-arc first is two = grind (arith, nat_tests, end-within, directed)
