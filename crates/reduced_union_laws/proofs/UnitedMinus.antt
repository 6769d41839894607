-- The label of a marked arc or loop in a union.
use Rattle.std.proofs.Common.{◌≡◌, ℕ, inl, inr, ◌+◌, ◌-◌, ◌<◌, ◌≤◌, ◌∙◌, ap, arith, Bool, true, false, IsTrue}
use Rattle.std.specs.Prelude.{nat_le, nat_eq, if◌then◌else◌}
use Rattle.std.proofs.lemmas.Bool.{cases_Bool}
use Rattle.std.proofs.lemmas.Bool.Decides.{nat_tests}
use Rattle.kh_types.specs.Acceptance.{accepted}
use Rattle.kh_types.specs.CircleNumbers.{IsName}
use Rattle.kh_types.specs.Code.{Code, arc_count}
use Rattle.kh_types.specs.Differential.{label_of}
use Rattle.kh_types.specs.Generators.{Generator}
use Rattle.cell_laws.proofs.CubeCells.{IsMember}
use Rattle.link_algebra.specs.Unions.{union_of}
use Rattle.reduced_cube.specs.Reduced.{is_reduced}
use Rattle.reduced_union_laws.specs.UnitedMarks.{first_mark, second_mark}
use Rattle.union_laws.specs.Cubes.{united}
use Rattle.union_laws.proofs.UnitedLabels.{label-first, label-first_loop, label-second, label-second_loop}

le-true : (a b : ℕ) → nat_le a b ≡ true → a ≤ b
le-true a b is = grind (arith, nat_tests)

le-false : (a b : ℕ) → nat_le a b ≡ false → b < a
le-false a b is = grind (arith, nat_tests)

module _ (first second : Code) (first_is : IsTrue (accepted first)) (second_is : IsTrue (accepted second)) (x y : Generator)
    (is_x : IsMember first x) where
  abbrev m : ℕ
  m = arc_count first.crossings

  abbrev k : ℕ
  k = arc_count second.crossings

  abbrev label : ℕ → ℕ
  label z = label_of (union_of first second) (united first second (x, y)) z

  pub minus-first : (mark : ℕ) → IsName first mark
      → is_reduced (union_of first second) (first_mark first second mark) (united first second (x, y)) ≡ is_reduced first mark x
  minus-first mark name = ap (λ l. nat_eq l 1) (elim (cases_Bool (nat_le mark m)) [
    | inl passes ↦
        ap label (ap (λ (b : Bool). if b then mark else mark + k) passes)
        ∙ label-first first second first_is second_is x.state y.state is_x.state x.label y.label is_x.label mark name.positive
        (le-true mark m passes)
    | inr fails ↦
        let t = mark - (m + 1) in
        let above : m < mark = le-false mark m fails in
        let e : mark + k ≡ m + (k + 1 + t) = omega (arith, above) in
        let f : m + 1 + t ≡ mark = omega (arith, above) in
        ap label (ap (λ (b : Bool). if b then mark else mark + k) fails ∙ e)
        ∙ label-first_loop first second first_is second_is x.state y.state is_x.state x.label y.label is_x.label t
        (omega (arith, above, name.within))
        ∙ ap (label_of first x) f
  ])

  pub minus-second : (mark : ℕ) → IsName second mark
      → is_reduced (union_of first second) (second_mark first second mark) (united first second (x, y)) ≡ is_reduced second mark y
  minus-second mark name = ap (λ l. nat_eq l 1) (elim (cases_Bool (nat_le mark k)) [
    | inl passes ↦
        ap label (ap (λ (b : Bool). if b then m + mark else m + (first.loops + mark)) passes)
        ∙ label-second first second first_is second_is x.state y.state is_x.state x.label y.label is_x.label mark name.positive
        (le-true mark k passes)
    | inr fails ↦
        let t = mark - (k + 1) in
        let above : k < mark = le-false mark k fails in
        let e : m + (first.loops + mark) ≡ m + (k + 1 + (first.loops + t)) = omega (arith, above) in
        let f : k + 1 + t ≡ mark = omega (arith, above) in
        ap label (ap (λ (b : Bool). if b then m + mark else m + (first.loops + mark)) fails ∙ e)
        ∙ label-second_loop first second first_is second_is x.state y.state is_x.state x.label y.label is_x.label t
        (omega (arith, above, name.within))
        ∙ ap (label_of second y) f
  ])
