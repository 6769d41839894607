-- In a mirror, each circle of two arcs that lies under all that it meets enters the first listed of its crossings on its first arc.
--
-- Such a circle is over in the code at the same two crossings, and its arcs follow one another there too (`under-now`), so that they are a
-- component of the code (`two-arcs`). The code begins a component of two over passes with the arc that enters the first listed of its
-- crossings, since its labels need no turn. The mirror lies under at both, so that its passes begin the component with the code's least arc
-- too, which gets the lesser number (`lesser-first`). So the first arc of the circle in the mirror is the code's lesser one.
use Rattle.std.proofs.Common.{◌≡◌, ◌≢◌, ℕ, ◌⊎◌, inl, inr, ◌+◌, ◌%◌, ◌<◌, ◌≤◌, ◌∙◌, List, [], ◌∷◌, map, refl, sym, ap, ap₂, subst, arith, Bool, true, false, not, ◌||◌, pos, neg_ℤ, IsTrue}
use Rattle.std.specs.Prelude.{nat_eq, if◌then◌else◌, MatchBool}
use Rattle.std.specs.List.{range_with_len}
use Rattle.std.proofs.lemmas.Bool.{cases_eq, cases_lt, ne_eqb}
use Rattle.std.proofs.lemmas.Bool.Decides.{nat_tests}
use Rattle.kh_types.specs.Acceptance.{accepted}
use Rattle.kh_types.specs.Accepted.{IsDirected}
use Rattle.kh_types.specs.Code.{Code, IsArc, IsCrossing}
use Rattle.kh_types.specs.Components.{next}
use Rattle.kh_types.specs.Directions.{HasNoSingleArcs, IsPass, head_of, is_positive}
use Rattle.kh_types.specs.Edges.{arc_at_slot}
use Rattle.kh_types.specs.declared.dart.Dart.{Dart}
use Rattle.kh_types.proofs.Heads.{HasEnds-directed, HasNoSingleArcs-accepted, IsPass-over, IsPass-under}
use Rattle.kh_types.proofs.NextArcs.{HasPlace-directed, IsArc-next, component, component-next}
use Rattle.code_passes.specs.ComponentLabels.{component_labels, entering_label, label_at}
use Rattle.code_passes.specs.Passes.{is_over, turned_labels}
use Rattle.code_passes.proofs.CutArcs.{IsFirst, component-in, end-within, size}
use Rattle.code_passes.proofs.TwoArcComponents.{turned_labels-component}
use Rattle.orient_arcs.proofs.PlacedNumbers.{placed-numbers}
use Rattle.orient_arcs.specs.Renumbered.{label_entered, number_in, order_of}
use Rattle.code_passes.specs.Parts.{passes_through}
use Rattle.link_algebra.specs.Mirrors.{EntersInOrder, mirror_of, mirror_parts}
use Rattle.link_algebra.proofs.MirrorParts.{IsTurnOf-mirror, mirror_turn}
use Rattle.link_algebra.proofs.MirrorPasses.{arc-there, follows-next, label-mirrored, paired_parts, there-arc, under-of}
use Rattle.link_algebra.proofs.TurnedCodes.{mirror-accepted, mirror-rotated, mirror-signs, mirror_name, mirror_number}
use Rattle.link_algebra.proofs.TurnedParts.{IsTurnOf, name-within, number-is, number-within}

-- two labels of over passes that are not turned ascend
ascending-labels : (a b : ℕ) → 1 ≤ a → 1 ≤ b → turned_labels (pos a ∷ pos b ∷ []) ≡ pos a ∷ pos b ∷ [] → a ≤ b
ascending-labels a b a_some b_some same = grind (arith, nat_tests)

label-over : (dart : Dart) → dart.slot ≢ 0 → label_at dart ≡ pos dart.crossing
label-over dart over = ap (λ b. if b then neg_ℤ (pos dart.crossing) else pos dart.crossing) (ne_eqb dart.slot 0 over)

module _ (code : Code) (holds : IsTrue (accepted code)) where
  abbrev cs : List (List ℕ)
  cs = code.crossings

  abbrev new : List (List ℕ)
  new = (mirror_of code).crossings

  abbrev directed : IsDirected code.crossings
  directed = (HasNoSingleArcs-accepted code holds).0

  abbrev moves : HasNoSingleArcs code.crossings
  moves = (HasNoSingleArcs-accepted code holds).1

  abbrev new_directed : IsDirected (mirror_of code).crossings
  new_directed = (HasNoSingleArcs-accepted (mirror_of code) (mirror-accepted code holds)).0

  abbrev new_moves : HasNoSingleArcs (mirror_of code).crossings
  new_moves = (HasNoSingleArcs-accepted (mirror_of code) (mirror-accepted code holds)).1

  abbrev f : ℕ → ℕ
  f = mirror_number code holds

  abbrev turns : ℕ → ℕ
  turns crossing = mirror_turn (is_positive code.crossings crossing)

  abbrev turn : IsTurnOf turns code (mirror_parts code)
  turn = IsTurnOf-mirror code holds

  f-is : (x : ℕ) → IsArc cs x → f x ≡ number_in (order_of (passes_through (mirror_parts code))) x
  f-is x is = number-is turns code holds (mirror_parts code) turn x is

  f-arc : (x : ℕ) → IsArc cs x → IsArc new (f x)
  f-arc x is =
      let within = number-within turns code holds (mirror_parts code) turn x is in
      record {
        positive = omega (arith, f-is x is, within.positive);
        within = omega (arith, f-is x is, within.within, (mirror-rotated code holds).size);
      }

  f-apart : (x y : ℕ) → IsArc cs x → IsArc cs y → f x ≡ f y → x ≡ y
  f-apart x y x_is y_is same =
      let names = (mirror-rotated code holds).names in
      sym (names.there x x_is.positive (omega (arith, x_is.within))) ∙ ap (mirror_name code holds) same
      ∙ names.there y y_is.positive (omega (arith, y_is.within))

  -- what is over at a crossing is under there in the mirror, and goes to the same arc
  record IsUnderNow (x : ℕ) : Type 0 where
    pub over : (head_of code.crossings x).slot ≢ 0
    pub head : head_of (mirror_of code).crossings (mirror_number code holds x) ≡ record { crossing = (head_of code.crossings x).crossing; slot = 0 }
    pub onward : next (mirror_of code).crossings (mirror_number code holds x) ≡ mirror_number code holds (next code.crossings x)

  there-too : (crossing : ℕ) → IsCrossing code.crossings crossing → IsCrossing (mirror_of code).crossings crossing
  there-too crossing is = record { positive = is.positive; within = omega (arith, is.within, (mirror-rotated code holds).size) }

  arcs-now : (c slot v : ℕ) (d : Bool) → IsCrossing cs c → slot < 4 → is_positive cs c ≡ d → (slot + mirror_turn d) % 4 ≡ v
      → f (arc_at_slot code c slot) ≡ arc_at_slot (mirror_of code) c v
  arcs-now c slot v d is below sign at =
      sym ((mirror-rotated code holds).arcs c slot is below)
      ∙ ap (arc_at_slot (mirror_of code) c) (ap (λ b. (slot + mirror_turn b) % 4) sign ∙ at)

  under-now : (x : ℕ) → IsArc cs x → (head_of (mirror_of code).crossings (f x)).slot ≡ 0 → IsUnderNow x
  under-now x is none =
      let ends = HasEnds-directed cs directed moves x is in
      let h = head_of cs x in
      let here = ends.head.within.crossing in
      by (is_positive cs h.crossing) refl here
      (subst (λ (b : Bool). MatchBool b (IsPass new h.crossing 3 1) (IsPass new h.crossing 1 3)) (mirror-signs code holds h.crossing here)
      (IsPass-over new new_directed new_moves h.crossing (there-too h.crossing here)))
      (IsPass-under new new_directed new_moves h.crossing (there-too h.crossing here))
      (IsPass-over cs directed moves h.crossing here) ends.enters ends.head.on_arc
    where
      slot_is : (s enters : ℕ) → IsTrue (nat_eq s 0 || nat_eq s enters) → (s ≡ 0) ⊎ (s ≡ enters)
      slot_is s enters is = grind (arith, nat_tests)

      -- the over pass enters at a slot and leaves at another, which the turn makes 0 and 2
      turned : (d : Bool) (enters leaves : ℕ) → 1 ≤ enters → enters < 4 → 1 ≤ leaves → leaves < 4 → (0 + mirror_turn d) % 4 ≡ leaves
          → (enters + mirror_turn d) % 4 ≡ 0 → (leaves + mirror_turn d) % 4 ≡ 2
          → is_positive code.crossings (head_of code.crossings x).crossing ≡ d
          → IsCrossing code.crossings (head_of code.crossings x).crossing
          → IsPass (mirror_of code).crossings (head_of code.crossings x).crossing leaves enters
          → IsPass (mirror_of code).crossings (head_of code.crossings x).crossing 0 2
          → IsPass code.crossings (head_of code.crossings x).crossing enters leaves
          → ((head_of code.crossings x).slot ≡ 0) ⊎ ((head_of code.crossings x).slot ≡ enters)
          → arc_at_slot code (head_of code.crossings x).crossing (head_of code.crossings x).slot ≡ x → IsUnderNow x
      turned d enters leaves some enters_below some_too leaves_below from_0 to_0 to_2 sign is over under own slot on_arc =
          let k = (head_of code.crossings x).crossing in
          elim slot [
            | inl zeroth ↦
                let at = ap (λ y. mirror_number code holds y) (sym on_arc ∙ ap (arc_at_slot code k) zeroth)
                ∙ arcs-now k 0 leaves d is (omega arith) sign from_0 in
                absurd (omega (arith, none, some_too, ap (λ (h : Dart). h.slot) (ap (head_of (mirror_of code).crossings) at ∙ over.head)))
            | inr at_enters ↦
                let x_is : arc_at_slot code k enters ≡ x = ap (arc_at_slot code k) (sym at_enters) ∙ on_arc in
                let at = ap (λ y. mirror_number code holds y) (sym x_is) ∙ arcs-now k enters 0 d is enters_below sign to_0 in
                record {
                  over = λ zeroth. absurd (omega (arith, at_enters, zeroth, some));
                  head = ap (head_of (mirror_of code).crossings) at ∙ under.head;
                  onward = ap (next (mirror_of code).crossings) at ∙ sym under.follows
                      ∙ sym (arcs-now k leaves 2 d is leaves_below sign to_2)
                      ∙ ap (λ y. mirror_number code holds y) (own.follows ∙ ap (next code.crossings) x_is);
                }
          ]

      by : (d : Bool) → is_positive code.crossings (head_of code.crossings x).crossing ≡ d
          → IsCrossing code.crossings (head_of code.crossings x).crossing
          → MatchBool (not d) (IsPass (mirror_of code).crossings (head_of code.crossings x).crossing 3 1)
          (IsPass (mirror_of code).crossings (head_of code.crossings x).crossing 1 3)
          → IsPass (mirror_of code).crossings (head_of code.crossings x).crossing 0 2
          → MatchBool d (IsPass code.crossings (head_of code.crossings x).crossing 3 1) (IsPass code.crossings (head_of code.crossings x).crossing 1 3)
          → IsTrue (nat_eq (head_of code.crossings x).slot 0 || nat_eq (head_of code.crossings x).slot (if d then 3 else 1))
          → arc_at_slot code (head_of code.crossings x).crossing (head_of code.crossings x).slot ≡ x → IsUnderNow x
      by true sign is over under own enters =
          turned true 3 1 (omega arith) (omega arith) (omega arith) (omega arith) refl refl refl sign is over under own
          (slot_is (head_of code.crossings x).slot 3 enters)
      by false sign is over under own enters =
          turned false 1 3 (omega arith) (omega arith) (omega arith) (omega arith) refl refl refl sign is over under own
          (slot_is (head_of code.crossings x).slot 1 enters)

  -- two arcs that follow one another both ways are a component
  two-arcs : (x y : ℕ) → IsArc cs x → IsArc cs y → x < y → next cs x ≡ y → next cs y ≡ x
      → IsFirst cs x × (size cs x ≡ 2) × (y ≡ x + 1)
  two-arcs x y x_is y_is less onward back =
      let x_place = HasPlace-directed cs directed x x_is in
      let y_place = HasPlace-directed cs directed y y_is in
      let together : component cs y ≡ component cs x = ap (component cs) (sym onward) ∙ component-next cs directed x x_is in
      let sizes : size cs (component cs y) ≡ size cs (component cs x) = ap (size cs) together in
      elim (cases_lt (x + 1) (component cs x + size cs (component cs x))) [
        | inr last ↦ absurd (omega (arith, x_place.last last, onward, less, x_place.from))
        | inl inside ↦ elim (cases_lt (y + 1) (component cs y + size cs (component cs y))) [
          | inl more ↦ absurd (omega (arith, y_place.inside more, back, less))
          | inr last ↦
              let up : y ≡ x + 1 = omega (arith, x_place.inside inside, onward) in
              let own : component cs x ≡ x = omega (arith, y_place.last last, back, together) in
              let alike : size cs (component cs x) ≡ size cs x = ap (size cs) own in (
                record { is_arc = x_is; own = own },
                omega (arith, inside, last, own, alike, sizes, together, up),
                up,
              )
        ]
      ]

  -- of two such arcs that are over in the code, the lesser has the lesser number in the mirror, and enters the first listed crossing
  lesser-first : (x y : ℕ) → IsArc cs x → IsArc cs y → x < y → next cs x ≡ y → next cs y ≡ x → IsUnderNow x → IsUnderNow y
      → (f x ≤ f y) × ((head_of cs x).crossing < (head_of cs y).crossing)
  lesser-first x y x_is y_is less onward back x_under y_under =
      let two = two-arcs x y x_is y_is less onward back in
      let ends = HasEnds-directed cs directed moves x x_is in
      let y_ends = HasEnds-directed cs directed moves y y_is in
      let placed = placed-numbers code directed (mirror_parts code) (paired_parts code holds) (arc-there code holds) (there-arc code holds)
      (follows-next code holds) turn.size y y_is in
      let inside = component-in cs directed x y two.0 (omega (arith, less)) (omega (arith, two.1, two.2)) in
      let order = order_of (passes_through (mirror_parts code)) in
      let labels : turned_labels (pos (head_of cs x).crossing ∷ pos (head_of cs y).crossing ∷ [])
      ≡ pos (head_of cs x).crossing ∷ pos (head_of cs y).crossing ∷ [] =
      (let listed : component_labels cs x ≡ pos (head_of cs x).crossing ∷ pos (head_of cs y).crossing ∷ [] =
      ap (λ n. map (entering_label cs) (range_with_len x n)) two.1
      ∙ ap₂ (λ a b. a ∷ b ∷ []) (label-over (head_of cs x) x_under.over)
      (ap (entering_label cs) (sym two.2) ∙ label-over (head_of cs y) y_under.over) in
      ap turned_labels (sym listed) ∙ turned_labels-component cs x (record { directed = directed; moves = moves }) two.0 ∙ listed) in
      let up = ascending-labels (head_of cs x).crossing (head_of cs y).crossing ends.head.within.crossing.positive
      y_ends.head.within.crossing.positive labels in
      let apart : (head_of cs x).crossing ≢ (head_of cs y).crossing = λ same.
      let heads : head_of new (f x) ≡ head_of new (f y) =
      x_under.head ∙ ap (λ (k : ℕ). made k) same ∙ sym y_under.head in
      let one : f x ≡ f y =
      sym (HasEnds-directed new new_directed new_moves (f x) (f-arc x x_is)).head.on_arc
      ∙ ap (λ (h : Dart). arc_at_slot (mirror_of code) h.crossing h.slot) heads
      ∙ (HasEnds-directed new new_directed new_moves (f y) (f-arc y y_is)).head.on_arc in
      let equal = f-apart x y x_is y_is one in
      omega (arith, equal, less) in (
        elim (placed.least) [
          | inl low ↦ omega (arith, ap (number_in order) inside, low, f-is x x_is, f-is y y_is)
          | inr over ↦ absurd
              (x_under.over (under-of (head_of cs x)
              (ap is_over (sym (label-mirrored code holds x x_is)) ∙ ap (λ z. is_over (label_entered (passes_through (mirror_parts code)) z)) (sym inside)
              ∙ over.first_over)).0)
        ],
        elim (cases_lt (head_of cs x).crossing (head_of cs y).crossing) [
          | inl below ↦ below
          | inr not_below ↦ absurd (apart (omega (arith, not_below, up)))
        ],
      )
    where
      made : ℕ → Dart
      made k = record { crossing = k; slot = 0 }

  pub mirrors-enter : EntersInOrder (mirror_of code).crossings
  mirrors-enter a a_is own circle =
      let names = (mirror-rotated code holds).names in
      let size_is = (mirror-rotated code holds).size in
      let first_is : IsFirst new a = record { is_arc = a_is; own = own } in
      let end = end-within new new_directed a first_is in
      let second_is : IsArc new (a + 1) = record { positive = omega arith; within = omega (arith, end, circle.two) } in
      let x = mirror_name code holds a in
      let y = mirror_name code holds (a + 1) in
      let x_f : f x ≡ a = names.here a a_is.positive (omega (arith, a_is.within, size_is)) in
      let y_f : f y ≡ a + 1 = names.here (a + 1) (omega arith) (omega (arith, second_is.within, size_is)) in
      let x_is : IsArc cs x = name-within turns code holds (mirror_parts code) turn a
      (record { positive = a_is.positive; within = omega (arith, a_is.within, size_is) }) in
      let y_is : IsArc cs y = name-within turns code holds (mirror_parts code) turn (a + 1)
      (record { positive = omega arith; within = omega (arith, second_is.within, size_is) }) in
      let x_under = under-now x x_is (ap (λ z. (head_of new z).slot) x_f ∙ circle.first_under) in
      let y_under = under-now y y_is (ap (λ z. (head_of new z).slot) y_f ∙ circle.second_under) in
      let a_place = HasPlace-directed new new_directed a a_is in
      let b_place = HasPlace-directed new new_directed (a + 1) second_is in
      let b_in = component-in new new_directed a (a + 1) first_is (omega arith) (omega (arith, circle.two)) in
      let a_size : size new (component new a) ≡ size new a = ap (size new) own in
      let b_size : size new (component new (a + 1)) ≡ size new a = ap (size new) b_in in
      let a_next : next new a ≡ a + 1 = a_place.inside (omega (arith, own, a_size, circle.two)) in
      let b_next : next new (a + 1) ≡ a = b_place.last (omega (arith, b_in, b_size, circle.two)) ∙ b_in in
      let x_next : next cs x ≡ y =
      f-apart (next cs x) y (IsArc-next cs directed x x_is) y_is (sym x_under.onward ∙ ap (next new) x_f ∙ a_next ∙ sym y_f) in
      let y_next : next cs y ≡ x =
      f-apart (next cs y) x (IsArc-next cs directed y y_is) x_is (sym y_under.onward ∙ ap (next new) y_f ∙ b_next ∙ sym x_f) in
      let x_head : (head_of new a).crossing ≡ (head_of cs x).crossing =
      ap (λ z. (head_of new z).crossing) (sym x_f) ∙ ap (λ (h : Dart). h.crossing) x_under.head in
      let y_head : (head_of new (a + 1)).crossing ≡ (head_of cs y).crossing =
      ap (λ z. (head_of new z).crossing) (sym y_f) ∙ ap (λ (h : Dart). h.crossing) y_under.head in
      elim (cases_lt x y) [
        | inl less ↦
            let law = lesser-first x y x_is y_is less x_next y_next x_under y_under in
            omega (arith, law.1, x_head, y_head)
        | inr not_less ↦ elim (cases_eq x y) [
          | inl same ↦ absurd (omega (arith, ap f same, x_f, y_f))
          | inr other ↦
              let law = lesser-first y x y_is x_is (omega (arith, not_less, other)) y_next x_next y_under x_under in
              absurd (omega (arith, law.0, x_f, y_f))
        ]
      ]
