-- The labels of the arcs of a directed code: each names a crossing, and no two arcs have one label.
use Rattle.std.proofs.Common.{◌≡◌, ◌⊎◌, inl, inr, ℕ, ◌≤◌, ◌∙◌, ℤ, pos, neg_ℤ, nat_abs, List, sym, ap, arith, Bool, true, false}
use Rattle.std.specs.Prelude.{nat_eq, if◌then◌else◌}
use Rattle.std.proofs.lemmas.Bool.Decides.{nat_tests}
use Rattle.kh_types.specs.declared.dart.Dart.{Dart}
use Rattle.kh_types.specs.Code.{arc_in, slots_of, IsArc, IsCrossing}
use Rattle.kh_types.specs.Directions.{is_positive, is_head, head_of, HasEnds, HasNoSingleArcs}
use Rattle.kh_types.specs.Accepted.{IsDirected}
use Rattle.kh_types.proofs.DirectedPasses.{same_dart, head-cases}
use Rattle.kh_types.proofs.Heads.{HasEnds-directed, IsPass-under}
use Rattle.code_passes.specs.ComponentLabels.{entering_label}

-- a directed code, no component of which has a single arc
pub record IsOriented (crossings : List (List ℕ)) : Type 0 where
  pub directed : IsDirected crossings
  pub moves : HasNoSingleArcs crossings

pub HasEnds-arc : (crossings : List (List ℕ)) → IsOriented crossings → (arc : ℕ) → IsArc crossings arc → HasEnds crossings arc
HasEnds-arc crossings oriented = HasEnds-directed crossings oriented.directed oriented.moves

-- a number with a sign
abbrev signed : Bool → ℕ → ℤ
signed minus size = if minus then neg_ℤ (pos size) else pos size

same_signed : (minus other : Bool) (size more : ℕ) → 1 ≤ size → 1 ≤ more → signed minus size ≡ signed other more
    → (minus ≡ other) × (size ≡ more)
same_signed minus other size more positive positive_more same = grind (arith, nat_tests)

size-signed : (minus : Bool) (size : ℕ) → nat_abs (signed minus size) ≡ size
size-signed minus size = grind (arith, nat_tests)

-- the size of a label is the number of a crossing
pub entering_label-size : (crossings : List (List ℕ)) (arc : ℕ) → nat_abs (entering_label crossings arc) ≡ (head_of crossings arc).crossing
entering_label-size crossings arc = size-signed (nat_eq (head_of crossings arc).slot 0) (head_of crossings arc).crossing

pub entering_label-names : (crossings : List (List ℕ)) → IsOriented crossings → (arc : ℕ) → IsArc crossings arc
    → IsCrossing crossings (nat_abs (entering_label crossings arc))
entering_label-names crossings oriented arc is = grind (arith, nat_tests, HasEnds-arc, entering_label-size)

-- two heads at one crossing that are both at slot 0, or both not, are one
same_slot : (positive : Bool) (slot other : ℕ) → (slot ≡ 0) ⊎ (((positive ≡ true) × (slot ≡ 3)) ⊎ ((positive ≡ false) × (slot ≡ 1)))
    → (other ≡ 0) ⊎ (((positive ≡ true) × (other ≡ 3)) ⊎ ((positive ≡ false) × (other ≡ 1))) → nat_eq slot 0 ≡ nat_eq other 0
    → slot ≡ other
same_slot positive slot other head other_head same = grind (arith, nat_tests)

same_head : (crossings : List (List ℕ)) (dart other : Dart) → dart.crossing ≡ other.crossing → is_head crossings dart ≡ true
    → is_head crossings other ≡ true → nat_eq dart.slot 0 ≡ nat_eq other.slot 0 → dart ≡ other
same_head crossings dart other same head other_head under =
    let other_cases = head-cases crossings other other_head in
    let turned_labels : is_positive crossings other.crossing ≡ is_positive crossings dart.crossing = ap (is_positive crossings) (sym same) in
    same_dart dart other same
    (same_slot (is_positive crossings dart.crossing) dart.slot other.slot (head-cases crossings dart head) (elim other_cases [
      | inl zero_slot ↦ inl zero_slot
      | inr over ↦ elim over [
        | inl positive ↦ inr (inl (sym turned_labels ∙ positive.0, positive.1))
        | inr negative ↦ inr (inr (sym turned_labels ∙ negative.0, negative.1))
      ]
    ]) under)

-- no two arcs have one label
pub entering_label-once : (crossings : List (List ℕ)) → IsOriented crossings → (arc other : ℕ) → IsArc crossings arc → IsArc crossings other
    → entering_label crossings arc ≡ entering_label crossings other → arc ≡ other
entering_label-once crossings oriented arc other is other_is same = grind (arith, nat_tests, HasEnds-arc, same_signed, same_head)

-- the arc of an under pass has minus the number of the crossing as its label
pub entering_label-under : (crossings : List (List ℕ)) → IsOriented crossings → (crossing : ℕ) → IsCrossing crossings crossing
    → entering_label crossings (arc_in (slots_of crossings crossing) 0) ≡ neg_ℤ (pos crossing)
entering_label-under crossings oriented crossing is = grind (arith, nat_tests, IsPass-under)
