-- No arc of a directed code has two heads, where no component has a single arc.
--
-- Two heads on one arc make its component one of two arcs (TwoHeads), and each rule on these excludes one case. Two under passes: the rule
-- of two arcs. An under pass and an over pass: the sign was read off the under pass, so the over pass begins where that one ends. Two over
-- passes: the sign of each is read off the first over pass listed, which goes up, so that the other goes down, and one head is a tail.
use Rattle.std.proofs.Common.{◌≡◌, ◌≢◌, ℕ, ◌⊎◌, inl, inr, ◌+◌, ◌%◌, ◌<◌, ◌≤◌, ◌∙◌, List, refl, sym, ap, length, arith, Bool, true, false, not}
use Rattle.std.specs.Prelude.{nat_eq, nat_lt, if◌then◌else◌, Some, None}
use Rattle.std.proofs.lemmas.Bool.{cases_lt, cases_eq, cases_Bool, eq-eqb, eqb-true}
use Rattle.std.proofs.lemmas.Bool.Decides.{nat_tests}
use Rattle.kh_types.specs.declared.dart.Dart.{Dart}
use Rattle.kh_types.specs.Code.{arc_in, slots_of, IsArc, IsCrossing}
use Rattle.kh_types.specs.Components.{components_of, arcs_in, next}
use Rattle.kh_types.specs.Darts.{arc_of, IsDart}
use Rattle.kh_types.specs.Directions.{first_under, first_over, passes_under, passes_over, is_positive, is_head}
use Rattle.kh_types.specs.Accepted.{IsDirected}
use Rattle.kh_types.proofs.Lists.{find-none}
use Rattle.kh_types.proofs.RangeCounts.{found-counted, count_by-but}
use Rattle.kh_types.proofs.PassPairs.{dart_with, IsDart-with}
use Rattle.kh_types.proofs.NextArcs.{component, size_at, component-next}
use Rattle.kh_types.proofs.DirectedPasses.{across, same_dart, is_head-across, head-cases, arc_of-across, is_positive-under, is_positive-order}
use Rattle.kh_types.proofs.TwoHeads.{TwoHeads, turned_round, size-two, head-one_of}

-- two under passes: the rule of components of two arcs forbids them
under_under : (crossings : List (List ℕ)) (dart other : Dart) → IsDirected crossings → TwoHeads crossings dart other
    → next crossings (arc_of crossings dart) ≢ arc_of crossings dart → dart.slot ≡ 0 → other.slot ≡ 0 → ⊥
under_under crossings dart other directed two moves is_under other_under =
    let x = arc_of crossings dart in
    let size = size-two crossings dart other directed two moves in
    let arc : arc_in (slots_of crossings dart.crossing) 0 ≡ x = ap (λ s. arc_in (slots_of crossings dart.crossing) s) (sym is_under) in
    let other_arc : arc_in (slots_of crossings other.crossing) 0 ≡ x =
    ap (λ s. arc_in (slots_of crossings other.crossing) s) (sym other_under) ∙ two.beside.same_arc in
    let is = two.within.crossing in
    let other_is = two.beside.within.crossing in
    elim (cases_lt dart.crossing other.crossing) [
      | inl earlier ↦ directed.two_arcs dart.crossing other.crossing is other_is earlier (arc ∙ sym other_arc)
          (ap (λ z. size_at crossings z) other_arc ∙ size)
      | inr later ↦ elim (cases_eq dart.crossing other.crossing) [
        | inl same ↦ two.beside.differs (same_dart other dart (sym same) (other_under ∙ sym is_under))
        | inr differ ↦ directed.two_arcs other.crossing dart.crossing other_is is (omega (arith, later, differ))
            (other_arc ∙ sym arc) (ap (λ z. size_at crossings z) arc ∙ size)
      ]
    ]

-- a head of an over pass
abbrev IsOverHead : List (List ℕ) → Dart → Type 0
IsOverHead crossings dart =
    ((is_positive crossings dart.crossing ≡ true) × (dart.slot ≡ 3)) ⊎ ((is_positive crossings dart.crossing ≡ false) × (dart.slot ≡ 1))

-- its pass goes from x to y
abbrev OverGoes : Bool → ℕ → ℕ → ℕ → ℕ → Type 0
OverGoes positive one three x y =
    ((positive ≡ true) × (three ≡ x) × (one ≡ y)) ⊎ ((positive ≡ false) × (one ≡ x) × (three ≡ y))

over-goes : (crossings : List (List ℕ)) (dart : Dart) (x : ℕ) → IsDirected crossings → IsDart crossings dart
    → is_head crossings dart ≡ true → arc_of crossings dart ≡ x → IsOverHead crossings dart
    → OverGoes (is_positive crossings dart.crossing) (arc_in (slots_of crossings dart.crossing) 1)
    (arc_in (slots_of crossings dart.crossing) 3) x (next crossings x)
over-goes crossings dart x directed is head is_x over =
    let slots = slots_of crossings dart.crossing in
    let leads : arc_of crossings (across dart) ≡ next crossings x =
    arc_of-across crossings dart directed is head ∙ ap (λ z. next crossings z) is_x in
    let here = λ (slot : ℕ) (is_slot : slot ≡ dart.slot). ap (λ s. arc_in slots s) is_slot ∙ is_x in
    let there = λ (slot : ℕ) (is_slot : slot ≡ (dart.slot + 2) % 4). ap (λ s. arc_in slots s) is_slot ∙ leads in
    elim over [
      | inl positive ↦ inl (positive.0, here 3 (sym positive.1), there 1 (omega (arith, positive.1)))
      | inr negative ↦ inr (negative.0, here 1 (sym negative.1), there 3 (omega (arith, negative.1)))
    ]

over-component : (crossings : List (List ℕ)) (x one three : ℕ) (positive : Bool) → IsDirected crossings → IsArc crossings x
    → OverGoes positive one three x (next crossings x) → component crossings one ≡ component crossings x
over-component crossings x one three positive directed is goes = grind (arith, nat_tests, component, component-next)

not_zero : (crossings : List (List ℕ)) (dart : Dart) → IsOverHead crossings dart → dart.slot ≢ 0
not_zero crossings dart over = omega arith

-- an under pass and an over pass: the over pass begins where the under pass ends
under_over : (crossings : List (List ℕ)) (dart other : Dart) → IsDirected crossings → TwoHeads crossings dart other
    → next crossings (arc_of crossings dart) ≢ arc_of crossings dart → dart.slot ≡ 0 → IsOverHead crossings other → ⊥
under_over crossings dart other directed two moves is_under over =
    let x = arc_of crossings dart in
    let y = next crossings x in
    let components = components_of crossings in
    let is_x = directed.slots dart two.within in
    let small = size-two crossings dart other directed two moves in
    let goes = over-goes crossings other x directed two.beside.within two.other_head two.beside.same_arc over in
    let one = arc_in (slots_of crossings other.crossing) 1 in
    let three = arc_in (slots_of crossings other.crossing) 3 in
    let positive = is_positive crossings other.crossing in
    let together = over-component crossings x one three positive directed is_x goes in
    let same_size : size_at crossings one ≡ size_at crossings x = ap (λ first. arcs_in components first) together in
    let p = passes_under crossings components (component crossings x) in
    let passes : p dart.crossing ≡ true =
    eq-eqb (component crossings (arc_in (slots_of crossings dart.crossing) 0)) (component crossings x)
    (ap (λ s. component crossings (arc_in (slots_of crossings dart.crossing) s)) (sym is_under)) in
    let some = count_by-but p 1 (length crossings) dart.crossing two.within.crossing.positive
    (omega (arith, two.within.crossing.within)) passes in
    let found = found-counted p 1 (length crossings) (omega (arith, some)) in
    let under = found.0 in
    let third = dart_with under 0 in
    let third_is = IsDart-with crossings under 0
    (record { positive = found.1.from; within = omega (arith, found.1.below) }) (omega arith) in
    elim (head-one_of crossings dart other third directed two third_is refl
    (eqb-true (component crossings (arc_of crossings third)) (component crossings x) found.1.passes)) [
      | inr is_other ↦ not_zero crossings other over (sym (ap (λ (d : Dart). d.slot) is_other))
      | inl is_dart ↦
          let ends : arc_in (slots_of crossings under) 2 ≡ y =
          ap (λ (d : Dart). arc_of crossings (across d)) is_dart ∙ arc_of-across crossings dart directed two.within two.head in
          let sign = is_positive-under crossings other.crossing under (omega (arith, same_size, small))
          (ap (λ c. first_under crossings components c) together ∙ found.1.first) in
          against positive one three x y (arc_in (slots_of crossings under) 2) sign ends moves goes
    ]
  where
    against : (positive : Bool) (one three x y end : ℕ) → positive ≡ nat_eq three end → end ≡ y → y ≢ x
        → OverGoes positive one three x y → ⊥
    against positive one three x y end sign ends differ goes = grind (arith, nat_tests)

-- two over passes at one crossing are one
over-crossings : (crossings : List (List ℕ)) (dart other : Dart) → TwoHeads crossings dart other → IsOverHead crossings dart
    → IsOverHead crossings other → dart.crossing ≢ other.crossing
over-crossings crossings dart other two over other_over = grind (arith, nat_tests)

-- two over passes, of which the first listed goes up and the other goes down
over_first : (crossings : List (List ℕ)) (dart other : Dart) → IsDirected crossings → TwoHeads crossings dart other
    → next crossings (arc_of crossings dart) ≢ arc_of crossings dart → IsOverHead crossings dart → IsOverHead crossings other
    → first_under crossings (components_of crossings) (component crossings (arc_of crossings dart)) ≡ None
    → first_over crossings (components_of crossings) (component crossings (arc_of crossings dart)) ≡ Some dart.crossing → ⊥
over_first crossings dart other directed two moves over other_over none found =
    let x = arc_of crossings dart in
    let components = components_of crossings in
    let is_x = directed.slots dart two.within in
    let small = size-two crossings dart other directed two moves in
    let goes = over-goes crossings dart x directed two.within two.head refl over in
    let other_goes = over-goes crossings other x directed two.beside.within two.other_head two.beside.same_arc other_over in
    let slot = λ (d : Dart) (s : ℕ). arc_in (slots_of crossings d.crossing) s in
    let together = over-component crossings x (slot dart 1) (slot dart 3) (is_positive crossings dart.crossing) directed is_x goes in
    let other_together = over-component crossings x (slot other 1) (slot other 3) (is_positive crossings other.crossing) directed is_x
    other_goes in
    let size = λ (one : ℕ) (same : component crossings one ≡ component crossings x). ap (λ first. arcs_in components first) same in
    let sign = is_positive-order crossings dart.crossing dart.crossing (omega (arith, size (slot dart 1) together, small))
    (ap (λ c. first_under crossings components c) together ∙ none) (ap (λ c. first_over crossings components c) together ∙ found) in
    let other_sign = is_positive-order crossings other.crossing dart.crossing
    (omega (arith, size (slot other 1) other_together, small))
    (ap (λ c. first_under crossings components c) other_together ∙ none)
    (ap (λ c. first_over crossings components c) other_together ∙ found) in
    against dart.crossing other.crossing (is_positive crossings dart.crossing) (is_positive crossings other.crossing) (slot dart 1)
    (slot dart 3) (slot other 1) (slot other 3) x (next crossings x) sign other_sign
    (over-crossings crossings dart other two over other_over) moves goes other_goes
  where
    up : (c : ℕ) (p : Bool) (one three x y : ℕ) → p ≡ (if nat_eq c c then nat_lt three one else nat_lt one three) → y ≢ x
        → OverGoes p one three x y → x < y
    up c p one three x y sign differ goes = grind (arith, nat_tests)

    down : (c e : ℕ) (p : Bool) (one three x y : ℕ) → p ≡ (if nat_eq c e then nat_lt three one else nat_lt one three) → c ≢ e
        → OverGoes p one three x y → y ≤ x
    down c e p one three x y sign apart goes = grind (arith, nat_tests)

    against : (c e : ℕ) (p q : Bool) (one three other_one other_three x y : ℕ)
        → p ≡ (if nat_eq c c then nat_lt three one else nat_lt one three)
        → q ≡ (if nat_eq c e then nat_lt other_three other_one else nat_lt other_one other_three) → c ≢ e → y ≢ x
        → OverGoes p one three x y → OverGoes q other_one other_three x y → ⊥
    against c e p q one three other_one other_three x y sign other_sign apart differ goes other_goes = grind (arith, nat_tests, up, down)

-- a component with two over heads passes under nowhere
over-nowhere_under : (crossings : List (List ℕ)) (dart other : Dart) → IsDirected crossings → TwoHeads crossings dart other
    → IsOverHead crossings dart → IsOverHead crossings other
    → first_under crossings (components_of crossings) (component crossings (arc_of crossings dart)) ≡ None
over-nowhere_under crossings dart other directed two over other_over =
    let x = arc_of crossings dart in
    let p = passes_under crossings (components_of crossings) (component crossings x) in
    find-none p 1 (length crossings)
    (λ crossing from below. elim (cases_Bool (p crossing)) [
      | inr fails ↦ fails
      | inl passes ↦
          let third_is = IsDart-with crossings crossing 0 (record { positive = from; within = omega (arith, below) }) (omega arith) in
          elim (head-one_of crossings dart other (dart_with crossing 0) directed two third_is refl
          (eqb-true (component crossings (arc_of crossings (dart_with crossing 0))) (component crossings x) passes)) [
            | inl is_dart ↦ absurd (not_zero crossings dart over (sym (ap (λ (d : Dart). d.slot) is_dart)))
            | inr is_other ↦ absurd (not_zero crossings other other_over (sym (ap (λ (d : Dart). d.slot) is_other)))
          ]
    ])

-- a component's head at a crossing, of the two darts of its over pass
over_head : (crossings : List (List ℕ)) (crossing : ℕ) → IsDirected crossings → IsCrossing crossings crossing
    → (slot : ℕ) × (slot < 4) × (is_head crossings (dart_with crossing slot) ≡ true)
    × (component crossings (arc_of crossings (dart_with crossing slot))
    ≡ component crossings (arc_of crossings (dart_with crossing 1)))
over_head crossings crossing directed is = elim (cases_Bool (is_head crossings (dart_with crossing 1))) [
  | inl head ↦ (1, omega arith, head, refl)
  | inr tail ↦
      let three = dart_with crossing 3 in
      let three_is = IsDart-with crossings crossing 3 is (omega arith) in
      let head : is_head crossings three ≡ true =
      is_head-across crossings (dart_with crossing 1) (omega arith) ∙ ap not tail in (
        3,
        omega arith,
        head,
        sym (component-next crossings directed (arc_of crossings three) (directed.slots three three_is))
            ∙ ap (λ z. component crossings z) (sym (arc_of-across crossings three directed three_is head)),
      )
]

-- two over passes: the first over pass of the component is one of them
over_over_at : (crossings : List (List ℕ)) (dart other : Dart) (first : ℕ) → IsDirected crossings → TwoHeads crossings dart other
    → next crossings (arc_of crossings dart) ≢ arc_of crossings dart → IsOverHead crossings dart → IsOverHead crossings other
    → IsCrossing crossings first
    → passes_over crossings (components_of crossings) (component crossings (arc_of crossings dart)) first ≡ true
    → first_over crossings (components_of crossings) (component crossings (arc_of crossings dart)) ≡ Some first → ⊥
over_over_at crossings dart other first directed two moves over other_over is passes found =
    let components = components_of crossings in
    let none = over-nowhere_under crossings dart other directed two over other_over in
    let head = over_head crossings first directed is in
    let same = eqb-true (component crossings (arc_of crossings (dart_with first 1))) (component crossings (arc_of crossings dart))
    passes in
    elim (head-one_of crossings dart other (dart_with first head.0) directed two (IsDart-with crossings first head.0 is head.1) head.2
    (head.3 ∙ same)) [
      | inl is_dart ↦
          let here : first ≡ dart.crossing = ap (λ (d : Dart). d.crossing) is_dart in
          over_first crossings dart other directed two moves over other_over none (found ∙ ap (λ n. Some n) here)
      | inr is_other ↦
          let back = two.beside.same_arc in
          let there : first ≡ other.crossing = ap (λ (d : Dart). d.crossing) is_other in
          over_first crossings other dart directed (turned_round crossings dart other two)
          (λ alone. moves (sym (ap (λ z. next crossings z) back) ∙ alone ∙ back)) other_over over
          (ap (λ z. first_under crossings components (component crossings z)) back ∙ none)
          (ap (λ z. first_over crossings components (component crossings z)) back ∙ found ∙ ap (λ n. Some n) there)
    ]

over_over : (crossings : List (List ℕ)) (dart other : Dart) → IsDirected crossings → TwoHeads crossings dart other
    → next crossings (arc_of crossings dart) ≢ arc_of crossings dart → IsOverHead crossings dart → IsOverHead crossings other → ⊥
over_over crossings dart other directed two moves over other_over =
    let x = arc_of crossings dart in
    let is = two.within.crossing in
    let goes = over-goes crossings dart x directed two.within two.head refl over in
    let slots = slots_of crossings dart.crossing in
    let together = over-component crossings x (arc_in slots 1) (arc_in slots 3) (is_positive crossings dart.crossing) directed
    (directed.slots dart two.within) goes in
    let p = passes_over crossings (components_of crossings) (component crossings x) in
    let passes : p dart.crossing ≡ true = eq-eqb (component crossings (arc_in slots 1)) (component crossings x) together in
    let some = count_by-but p 1 (length crossings) dart.crossing is.positive (omega (arith, is.within)) passes in
    let found = found-counted p 1 (length crossings) (omega (arith, some)) in
    over_over_at crossings dart other found.0 directed two moves over other_over
    (record { positive = found.1.from; within = omega (arith, found.1.below) }) found.1.passes found.1.first

-- no arc has two heads, where it is not its own next
pub two_heads-none : (crossings : List (List ℕ)) (dart other : Dart) → IsDirected crossings → TwoHeads crossings dart other
    → next crossings (arc_of crossings dart) ≢ arc_of crossings dart → ⊥
two_heads-none crossings dart other directed two moves = elim (head-cases crossings dart two.head) [
  | inl under ↦ elim (head-cases crossings other two.other_head) [
    | inl other_under ↦ under_under crossings dart other directed two moves under other_under
    | inr other_over ↦ under_over crossings dart other directed two moves under other_over
  ]
  | inr over ↦ elim (head-cases crossings other two.other_head) [
    | inl other_under ↦
        let back = two.beside.same_arc in
        under_over crossings other dart directed (turned_round crossings dart other two)
        (λ alone. moves (sym (ap (λ z. next crossings z) back) ∙ alone ∙ back)) other_under over
    | inr other_over ↦ over_over crossings dart other directed two moves over other_over
  ]
]
