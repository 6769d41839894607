-- Codes with alike crossings are one another's under other numbers.
use Rattle.std.proofs.lemmas.Bool.Decides.{nat_tests}
use Rattle.std.proofs.Common.{◌≡◌, ℕ, ◌⊎◌, inl, inr, ◌+◌, ◌*◌, ◌<◌, ◌≤◌, ◌∙◌, length, refl, sym, ap, subst, arith, ◌&&◌, cond}
use Rattle.std.specs.Prelude.{nat_lt}
use Rattle.kh_types.specs.Code.{Code, IsArc, arc_count}
use Rattle.kh_types.specs.Darts.{HasArcsTwice, arc_of, dart_at, dart_place, first_dart}
use Rattle.kh_types.proofs.DartPairs.{IsDart-at, IsDartOf-first_dart, dart_at-place, dart_place-below}
use Rattle.gluing_laws.specs.Alike.{AreAlike}
use Rattle.gluing_laws.specs.Arcs.{arc_by_place}
use Rattle.gluing_laws.specs.Codes.{IsRenumbered}
use Rattle.slide_laws.proofs.SlidTriangle.{arc_at-there, HoldsArcs-twice}
use Rattle.slide_view_laws.specs.RenamedViews.{IsRenumberedOnto}
use Rattle.slide_view_laws.specs.SlidMoves.{new_number}
use Rattle.gluing_laws.proofs.DartPairs.{arc_of-dart}

-- codes with alike crossings

module _ (old new : Code) (alike : AreAlike old.crossings new.crossings) (twice : HasArcsTwice old.crossings)
    (new_twice : HasArcsTwice new.crossings) (loops : new.loops ≡ old.loops) where
  number : ℕ → ℕ
  number x = new_number old new x

  size : length new.crossings ≡ length old.crossings
  size = alike.size

  -- an arc, or not one
  kind : (x : ℕ) → (((1 ≤ x) × (x ≤ arc_count old.crossings)) × (number x ≡ arc_of new.crossings (first_dart old.crossings x)))
      ⊎ (((x ≡ 0) ⊎ (arc_count old.crossings < x)) × (number x ≡ x))
  unfolding number
  kind x = by x (arc_count old.crossings) (arc_of new.crossings (first_dart old.crossings x))
    where
      by : (x n y : ℕ) → (((1 ≤ x) × (x ≤ n)) × (cond (nat_lt 0 x && nat_lt x (n + 1)) y x ≡ y))
          ⊎ (((x ≡ 0) ⊎ (n < x)) × (cond (nat_lt 0 x && nat_lt x (n + 1)) y x ≡ x))
      by x n y = grind (arith, nat_tests)

  -- the place of an arc's first dart
  first_place : ℕ → ℕ
  first_place x = dart_place (first_dart old.crossings x)

  record IsFirstPlace (x : ℕ) : Type 0 where
    pub below : first_place x < 4 * length old.crossings
    pub on_arc : arc_of old.crossings (dart_at (first_place x)) ≡ x
    pub new_arc : arc_of new.crossings (dart_at (first_place x)) ≡ arc_of new.crossings (first_dart old.crossings x)

  first-place : (x : ℕ) → IsArc old.crossings x → IsFirstPlace x
  unfolding first_place
  first-place x is =
      let dart = first_dart old.crossings x in
      let first = IsDartOf-first_dart old.crossings x twice is in
      let at = dart_at-place old.crossings dart first.within in
      record {
        below = dart_place-below old.crossings dart first.within;
        on_arc = ap (arc_of old.crossings) at ∙ first.on_arc;
        new_arc = ap (arc_of new.crossings) at;
      }

  -- the new number of an arc is an arc
  number-arc : (x : ℕ) → IsArc old.crossings x → IsArc new.crossings (arc_of new.crossings (first_dart old.crossings x))
  number-arc x is =
      let first = first-place x is in
      subst (λ (a : ℕ). IsArc new.crossings a) first.new_arc
      (new_twice.slots (dart_at (first_place x)) (IsDart-at new.crossings (first_place x) (omega (arith, first.below, size))))

  -- two arcs have two numbers
  arcs-apart : (x y : ℕ) → IsArc old.crossings x → IsArc old.crossings y
      → arc_of new.crossings (first_dart old.crossings x) ≡ arc_of new.crossings (first_dart old.crossings y) → x ≡ y
  arcs-apart x y x_is y_is same =
      let x_first = first-place x x_is in
      let y_first = first-place y y_is in
      sym x_first.on_arc
      ∙ alike.back (first_place x) (first_place y) x_first.below y_first.below (x_first.new_arc ∙ same ∙ sym y_first.new_arc)
      ∙ y_first.on_arc

  pub IsRenumbered-alike : IsRenumbered (new_number old new) old new
  unfolding number
  IsRenumbered-alike =
      let arc = λ (x : ℕ) (range : (1 ≤ x) × (x ≤ arc_count old.crossings)).
      let is : IsArc old.crossings x = record { positive = range.0; within = range.1 } in is in
      record {
        size = size;
        loops = loops;
        below = λ x below. elim (kind x) [
          | inl is ↦
              let new_is = number-arc x (arc x is.0) in
              omega (arith, is.1, new_is.within, size)
          | inr other ↦ omega (arith, other.1, below)
        ];
        apart = λ x y x_below y_below same. elim (kind x) [
          | inl x_is ↦ elim (kind y) [
            | inl y_is ↦ arcs-apart x y (arc x x_is.0) (arc y y_is.0) (sym x_is.1 ∙ same ∙ y_is.1)
            | inr y_other ↦
                let new_is = number-arc x (arc x x_is.0) in
                absurd (outside y (arc_count old.crossings) (number x) y_other.0
                (omega (arith, x_is.1, new_is.positive)) (omega (arith, x_is.1, new_is.within, size)) (same ∙ y_other.1))
          ]
          | inr x_other ↦ elim (kind y) [
            | inl y_is ↦
                let new_is = number-arc y (arc y y_is.0) in
                absurd (outside x (arc_count old.crossings) (number y) x_other.0
                (omega (arith, y_is.1, new_is.positive)) (omega (arith, y_is.1, new_is.within, size)) (sym same ∙ x_other.1))
            | inr y_other ↦ sym x_other.1 ∙ same ∙ y_other.1
          ]
        ];
        arcs = λ place slot below slot_below.
            let dart = 4 * place + slot in
            let x = arc_by_place old.crossings place slot in
            let dart_below : 4 * place + slot < 4 * length old.crossings = omega (arith, below, slot_below) in
            let old_at : arc_of old.crossings (dart_at (4 * place + slot)) ≡ arc_by_place old.crossings place slot =
            arc_of-dart old.crossings dart ∙ sym (arc_at-there old.crossings place slot slot_below) in
            let new_at : arc_of new.crossings (dart_at (4 * place + slot)) ≡ arc_by_place new.crossings place slot =
            arc_of-dart new.crossings dart ∙ sym (arc_at-there new.crossings place slot slot_below) in
            let is : IsArc old.crossings (arc_by_place old.crossings place slot) =
            subst (λ (a : ℕ). IsArc old.crossings a) old_at (twice.slots (dart_at dart) (IsDart-at old.crossings dart dart_below)) in
            let first = first-place x is in
            elim (kind x) [
              | inl here ↦
                  sym new_at
                  ∙ alike.onward dart (first_place x) dart_below first.below (old_at ∙ sym first.on_arc)
                  ∙ first.new_arc ∙ sym here.1
              | inr other ↦ absurd (neither x (arc_count old.crossings) is.positive is.within other.0)
            ];
      }
    where
      outside : (y n z : ℕ) → (y ≡ 0) ⊎ (n < y) → 1 ≤ z → z ≤ n → z ≡ y → ⊥
      outside y n z other from below same = elim other [
        | inl none ↦ absurd (omega (arith, none, from, same))
        | inr above ↦ absurd (omega (arith, above, below, same))
      ]

      neither : (x n : ℕ) → 1 ≤ x → x ≤ n → (x ≡ 0) ⊎ (n < x) → ⊥
      neither x n from within other = elim other [
        | inl none ↦ absurd (omega (arith, none, from))
        | inr above ↦ absurd (omega (arith, above, within))
      ]

pub IsRenumberedOnto-alike : (old new : Code) → AreAlike old.crossings new.crossings → HasArcsTwice old.crossings
    → HasArcsTwice new.crossings → new.loops ≡ old.loops → IsRenumberedOnto (new_number old new) old new
IsRenumberedOnto-alike old new alike twice new_twice loops = record {
  renumbered = IsRenumbered-alike old new alike twice new_twice loops;
  holds = HoldsArcs-twice old twice;
  zero_kept = refl;
}
