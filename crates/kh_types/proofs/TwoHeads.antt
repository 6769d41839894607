-- Where an arc of a directed code had two heads, it and its next arc would be the whole component.
--
-- Across from each of the two heads lies a dart of the next arc, so that all four darts of the two arcs lie in pairs at the ends of two
-- passes. A pass that begins on one of the two arcs thus ends on one of them too: the function that is 1 on them and 0 elsewhere respects
-- all passes, and is one on the component (`size-two`). What OneHead then excludes is a component of two arcs.
use Rattle.std.proofs.Common.{◌≡◌, ◌≢◌, ℕ, ◌⊎◌, inl, inr, ◌+◌, ◌<◌, ◌∙◌, List, sym, ap, arith, Bool, true, false, not}
use Rattle.std.specs.Prelude.{nat_eq, ◌||◌, if◌then◌else◌}
use Rattle.std.specs.List.{flat_map}
use Rattle.std.proofs.lemmas.Bool.{cases_lt}
use Rattle.std.proofs.lemmas.Bool.Decides.{nat_tests}
use Rattle.kh_types.specs.declared.dart.Dart.{Dart}
use Rattle.kh_types.specs.Code.{arc_count, IsArc, IsCrossing}
use Rattle.kh_types.specs.Components.{passes_of, next}
use Rattle.kh_types.specs.Darts.{arc_of, IsDart, IsOtherDart}
use Rattle.kh_types.specs.Directions.{is_head}
use Rattle.kh_types.specs.Accepted.{IsDirected}
use Rattle.kh_types.proofs.ClassLemmas.{classes-finest}
use Rattle.kh_types.proofs.DartPairs.{dart_or_partner, partner-only}
use Rattle.kh_types.proofs.AcceptedLemmas.{HasArcsTwice-directed}
use Rattle.kh_types.proofs.PassPairs.{dart_with, passes-all, passes-below, IsDart-with}
use Rattle.kh_types.proofs.NextArcs.{component, size_at, next-alone, size-of_two}
use Rattle.kh_types.proofs.DirectedPasses.{across, IsDart-across, across-across, is_head-across, arc_of-across}

-- two darts of one arc that are both heads
pub record TwoHeads (crossings : List (List ℕ)) (dart other : Dart) : Type 0 where
  pub within : IsDart crossings dart
  pub beside : IsOtherDart crossings dart other
  pub head : is_head crossings dart ≡ true
  pub other_head : is_head crossings other ≡ true

pub turned_round : (crossings : List (List ℕ)) (dart other : Dart) → TwoHeads crossings dart other → TwoHeads crossings other dart
turned_round crossings dart other two = grind (arith, nat_tests)

-- of two darts of one arc each dart of the arc is one
one_of : (crossings : List (List ℕ)) (dart other third : Dart) → IsDirected crossings → IsDart crossings dart
    → IsOtherDart crossings dart other → IsDart crossings third → arc_of crossings third ≡ arc_of crossings dart
    → (third ≡ dart) ⊎ (third ≡ other)
one_of crossings dart other third directed is beside third_is same =
    let twice = HasArcsTwice-directed crossings directed in
    elim (dart_or_partner crossings dart third twice is third_is same) [
      | inl is_dart ↦ inl is_dart
      | inr is_partner ↦ inr (is_partner ∙ sym (partner-only crossings dart other twice is beside))
    ]

-- the darts across from two heads of one arc are the two darts of the next arc
beside-across : (crossings : List (List ℕ)) (dart other : Dart) → IsDirected crossings → TwoHeads crossings dart other
    → IsOtherDart crossings (across dart) (across other)
beside-across crossings dart other directed two = record {
  within = IsDart-across crossings other two.beside.within;
  differs = λ same. two.beside.differs
      (sym (across-across other two.beside.within.slot) ∙ ap across same ∙ across-across dart two.within.slot);
  same_arc =
      arc_of-across crossings other directed two.beside.within two.other_head
      ∙ ap (λ arc. next crossings arc) two.beside.same_arc
      ∙ sym (arc_of-across crossings dart directed two.within two.head);
}

-- a pass that begins or ends on the arc or on its next arc does so at both its ends
stays : (crossings : List (List ℕ)) (dart other third : Dart) → IsDirected crossings → TwoHeads crossings dart other
    → IsDart crossings third
    → (arc_of crossings third ≡ arc_of crossings dart) ⊎ (arc_of crossings third ≡ next crossings (arc_of crossings dart))
    → (arc_of crossings (across third) ≡ arc_of crossings dart)
    ⊎ (arc_of crossings (across third) ≡ next crossings (arc_of crossings dart))
stays crossings dart other third directed two is one =
    let leads = arc_of-across crossings dart directed two.within two.head in
    let other_leads : arc_of crossings (across other) ≡ next crossings (arc_of crossings dart) =
    arc_of-across crossings other directed two.beside.within two.other_head ∙ ap (λ arc. next crossings arc) two.beside.same_arc in
    let arc = λ (d : Dart). arc_of crossings d in
    elim one [
      | inl here ↦ elim (one_of crossings dart other third directed two.within two.beside is here) [
        | inl is_dart ↦ inr (ap (λ d. arc (across d)) is_dart ∙ leads)
        | inr is_other ↦ inr (ap (λ d. arc (across d)) is_other ∙ other_leads)
      ]
      | inr there ↦ elim (one_of crossings (across dart) (across other) third directed (IsDart-across crossings dart two.within)
          (beside-across crossings dart other directed two) is (there ∙ sym leads)) [
            | inl is_dart ↦ inl (ap (λ d. arc (across d)) is_dart ∙ ap arc (across-across dart two.within.slot))
            | inr is_other ↦ inl
                (ap (λ d. arc (across d)) is_other ∙ ap arc (across-across other two.beside.within.slot) ∙ two.beside.same_arc)
          ]
    ]

-- 1 at two numbers, and 0 at all others
abbrev flag : ℕ → ℕ → ℕ → ℕ
flag x y z = if nat_eq z x || nat_eq z y then 1 else 0

flag-same : (x y a b : ℕ) → ((a ≡ x) ⊎ (a ≡ y) → (b ≡ x) ⊎ (b ≡ y)) → ((b ≡ x) ⊎ (b ≡ y) → (a ≡ x) ⊎ (a ≡ y))
    → flag x y a ≡ flag x y b
flag-same x y a b to from = grind (arith, nat_tests)

flag-tells : (x y z : ℕ) → flag x y x ≡ flag x y z → (z ≡ x) ⊎ (z ≡ y)
flag-tells x y z same = grind (arith, nat_tests)

flag-across : (crossings : List (List ℕ)) (dart other third : Dart) → IsDirected crossings → TwoHeads crossings dart other
    → IsDart crossings third
    → flag (arc_of crossings dart) (next crossings (arc_of crossings dart)) (arc_of crossings third)
    ≡ flag (arc_of crossings dart) (next crossings (arc_of crossings dart)) (arc_of crossings (across third))
flag-across crossings dart other third directed two is =
    let x = arc_of crossings dart in
    let y = next crossings x in
    let back : arc_of crossings (across (across third)) ≡ arc_of crossings third =
    ap (λ d. arc_of crossings d) (across-across third is.slot) in
    flag-same x y (arc_of crossings third) (arc_of crossings (across third)) (stays crossings dart other third directed two is)
    (λ one. moved x y (arc_of crossings (across (across third))) (arc_of crossings third) back
    (stays crossings dart other (across third) directed two (IsDart-across crossings third is) one))
  where
    moved : (x y a b : ℕ) → a ≡ b → (a ≡ x) ⊎ (a ≡ y) → (b ≡ x) ⊎ (b ≡ y)
    moved x y a b same one = grind arith

-- so the arc and its next arc are the whole component
component-of_two : (crossings : List (List ℕ)) (dart other : Dart) (arc : ℕ) → IsDirected crossings → TwoHeads crossings dart other
    → IsArc crossings arc → component crossings arc ≡ component crossings (arc_of crossings dart)
    → (arc ≡ arc_of crossings dart) ⊎ (arc ≡ next crossings (arc_of crossings dart))
component-of_two crossings dart other arc directed two is same =
    let x = arc_of crossings dart in
    let y = next crossings x in
    let is_x = directed.slots dart two.within in
    let at = λ (slot : ℕ) (below : slot < 4) (crossing : ℕ) (is_crossing : IsCrossing crossings crossing).
    flag-across crossings dart other (dart_with crossing slot) directed two (IsDart-with crossings crossing slot is_crossing below) in
    flag-tells x y arc
    (classes-finest (flag x y) (arc_count crossings + 1) (flat_map passes_of crossings)
    (passes-all (λ pair. flag x y pair.0 ≡ flag x y pair.1) crossings
    (λ crossing is_crossing. (at 0 (omega arith) crossing is_crossing, (at 1 (omega arith) crossing is_crossing, tt))))
    (passes-below crossings directed) x arc (omega (arith, is_x.within)) (omega (arith, is.within)) (sym same))

-- so a component with two heads on an arc has two arcs
pub size-two : (crossings : List (List ℕ)) (dart other : Dart) → IsDirected crossings → TwoHeads crossings dart other
    → next crossings (arc_of crossings dart) ≢ arc_of crossings dart → size_at crossings (arc_of crossings dart) ≡ 2
size-two crossings dart other directed two moves =
    let x = arc_of crossings dart in
    let is_x = directed.slots dart two.within in
    let most = size-of_two crossings directed x x (next crossings x) is_x
    (λ arc is same. component-of_two crossings dart other arc directed two is same) in
    elim (cases_lt (size_at crossings x) 2) [
      | inl less ↦ absurd (moves (next-alone crossings directed x is_x (omega (arith, less))))
      | inr many ↦ omega (arith, most, many)
    ]

-- and every head in the component is one of the two
pub head-one_of : (crossings : List (List ℕ)) (dart other third : Dart) → IsDirected crossings → TwoHeads crossings dart other
    → IsDart crossings third → is_head crossings third ≡ true
    → component crossings (arc_of crossings third) ≡ component crossings (arc_of crossings dart) → (third ≡ dart) ⊎ (third ≡ other)
head-one_of crossings dart other third directed two is head same =
    let no_head = λ (tail : Dart) (is_tail : third ≡ across tail) (below : tail.slot < 4) (tail_head : is_head crossings tail ≡ true).
    true_not_false (is_head crossings third) head
    (ap (λ d. is_head crossings d) is_tail ∙ is_head-across crossings tail below ∙ ap not tail_head) in
    elim (component-of_two crossings dart other (arc_of crossings third) directed two (directed.slots third is) same) [
      | inl here ↦ one_of crossings dart other third directed two.within two.beside is here
      | inr there ↦ elim (one_of crossings (across dart) (across other) third directed (IsDart-across crossings dart two.within)
          (beside-across crossings dart other directed two) is (there ∙ sym (arc_of-across crossings dart directed two.within two.head))) [
            | inl is_dart ↦ absurd (no_head dart is_dart two.within.slot two.head)
            | inr is_other ↦ absurd (no_head other is_other two.beside.within.slot two.other_head)
          ]
    ]
  where
    true_not_false : (b : Bool) → b ≡ true → b ≡ false → ⊥
    true_not_false b holds fails = cc
