-- The reversal of a code has the same survivors: its states have the circles of the code's, under other names.
use Rattle.std.proofs.Common.{◌≡◌, ℕ, ◌+◌, ◌-◌, ◌^◌, ◌<◌, ◌∙◌, ℤ, List, length, refl, sym, subst, ap, ap₂, arith, IsTrue}
use Rattle.std.specs.Prelude.{nat_eq}
use Rattle.std.proofs.lemmas.Bool.{eq-eqb, eqb-true}
use Rattle.std.proofs.lemmas.Nat.{pow_pos}
use Rattle.kh_types.specs.Acceptance.{accepted}
use Rattle.kh_types.specs.CircleNumbers.{IsName}
use Rattle.kh_types.specs.Code.{Code, arc_count, arcs_and_loops}
use Rattle.kh_types.specs.Directions.{minus_count, plus_count}
use Rattle.kh_types.specs.Residues.{HasInverses}
use Rattle.kh_types.proofs.AcceptedLemmas.{HasArcsTwice-accepted}
use Rattle.kh_types.proofs.Lists.{within-range}
use Rattle.kh_types.proofs.Tests.{agree}
use Rattle.gluing_laws.specs.Codes.{IsRenumbered}
use Rattle.slide_laws.proofs.SlidTriangle.{HoldsArcs-twice}
use Rattle.link_algebra.specs.Mirrors.{mirror_of, reversal_of}
use Rattle.link_algebra.proofs.Flips.{flipped, flipped-below, flipped-twice}
use Rattle.link_algebra.proofs.MovedLabels.{Corresponds-back, IsName-back, name-here}
use Rattle.link_algebra.proofs.TurnedCircles.{Corresponds, Corresponds-turned}
use Rattle.link_algebra.proofs.TurnedCodes.{mirror-accepted, mirror-dual, mirror-rotated, mirror_name, mirror_number, reversal-accepted, reversal-dual, reversal-plus, reversal-rotated, reversal_name, reversal_number}
use Rattle.cell_laws.specs.DeformedCubes.{deformed_cube_of}
use Rattle.cell_laws.specs.Filtered.{survivors}
use Rattle.view_laws.specs.Views.{IsPlain, circle_at}
use Rattle.view_laws.proofs.CircleNames.{HasCircles-accepted}
use Rattle.view_laws.proofs.Renumbered.{old-plain}
use Rattle.link_laws.specs.CodeSurvivors.{code_survivors}
use Rattle.view_laws.proofs.PlainViews.{survivors-plain}

module _ (code : Code) (holds : IsTrue (accepted code)) where
  abbrev middle : Code
  middle = mirror_of code

  abbrev new : Code
  new = reversal_of code

  abbrev first_to : ℕ → ℕ
  first_to = mirror_number code holds

  abbrev first_back : ℕ → ℕ
  first_back = mirror_name code holds

  abbrev second_to : ℕ → ℕ
  second_to x = reversal_number code holds (mirror_name code holds x)

  abbrev second_back : ℕ → ℕ
  second_back x = mirror_number code holds (reversal_name code holds x)

  abbrev to : ℕ → ℕ
  to x = second_to (first_to x)

  abbrev names : List ℕ
  names = arcs_and_loops code

  module _ (s : ℕ) (below : s < 2 ^ length code.crossings) where
    abbrev turned : ℕ
    turned = flipped (length code.crossings) s

    there : Corresponds first_to first_back code middle s turned
    there = Corresponds-turned first_to first_back code middle s holds (mirror-accepted code holds) (mirror-dual code holds).turned below

    again : flipped (length (mirror_of code).crossings) (flipped (length code.crossings) s) ≡ s
    again = ap (λ (m : ℕ). flipped m turned) (mirror-rotated code holds).size ∙ flipped-twice (length code.crossings) s below

    onward : Corresponds second_to second_back middle new turned s
    onward =
        subst (λ (r : ℕ). Corresponds second_to second_back middle new turned r) again
        (Corresponds-turned second_to second_back middle new turned (mirror-accepted code holds) (reversal-accepted code holds)
        (reversal-dual code holds).turned
        (subst (λ (m : ℕ). turned < 2 ^ m) (sym (mirror-rotated code holds).size) (flipped-below (length code.crossings) s)))

    name-middle : (x : ℕ) → IsName code x → IsName middle (first_to x)
    name-middle x name =
        IsName-back first_back first_to middle code turned s x (Corresponds-back first_to first_back code middle s turned there) name

    name-new : (x : ℕ) → IsName code x → IsName new (to x)
    name-new x name =
        IsName-back second_back second_to new middle s turned (first_to x)
        (Corresponds-back second_to second_back middle new turned s onward) (name-middle x name)

    name-home : (y : ℕ) → IsName new y → IsName code (first_back (second_back y))
    name-home y name =
        IsName-back first_to first_back code middle s turned (second_back y) there
        (IsName-back second_to second_back middle new turned s y onward name)

    home : (y : ℕ) → IsName new y → to (first_back (second_back y)) ≡ y
    home y name =
        ap second_to (name-here first_to first_back code middle s turned (second_back y) there
        (IsName-back second_to second_back middle new turned s y onward name))
        ∙ name-here second_to second_back middle new turned s y onward name

    see : (x y : ℕ) → IsName code x → IsName code y
        → nat_eq (circle_at code s x) (circle_at code s y) ≡ nat_eq (circle_at new s (to x)) (circle_at new s (to y))
    see x y x_name y_name =
        agree (nat_eq (circle_at code s x) (circle_at code s y)) (nat_eq (circle_at new s (to x)) (circle_at new s (to y)))
        (λ passes.
        eq-eqb (circle_at new s (to x)) (circle_at new s (to y))
        (onward.onward (first_to x) (first_to y) (name-middle x x_name) (name-middle y y_name)
        (there.onward x y x_name y_name (eqb-true (circle_at code s x) (circle_at code s y) passes))))
        (λ passes.
        eq-eqb (circle_at code s x) (circle_at code s y)
        (there.backward x y x_name y_name
        (onward.backward (first_to x) (first_to y) (name-middle x x_name) (name-middle y y_name)
        (eqb-true (circle_at new s (to x)) (circle_at new s (to y)) passes))))

  same-numbers : IsRenumbered (λ x. x) code code
  same-numbers =
      record {
        size = refl;
        loops = refl;
        below = λ x is. is;
        apart = λ x y x_below y_below same. same;
        arcs = λ place slot below slot_below. refl;
      }

  old-is : IsPlain code (arcs_and_loops code) (λ x. x)
  old-is = old-plain (λ x. x) code code same-numbers (HoldsArcs-twice code (HasArcsTwice-accepted code holds)) refl

  some-state : 0 < 2 ^ length code.crossings
  some-state = pow_pos (length code.crossings)

  new-is : IsPlain new (arcs_and_loops code) to
  new-is =
      record {
        once = old-is.once;
        arcs = λ x has. name-new 0 some-state x (old-is.arcs x has);
        shows = λ state other below name.
            let name_is = name-home 0 some-state other name in
            let x = first_back (second_back other) in (
              x,
              within-range 1 (arc_count code.crossings + code.loops) x name_is.positive (omega (arith, name_is.within)),
              ap (circle_at new state) (home 0 some-state other name),
            );
      }

  pub survivors-reversed : (p h : ℕ) → HasInverses p → (i t : ℤ)
      → code_survivors p h (reversal_of code) i t ≡ code_survivors p h code i t
  survivors-reversed p h field i t =
      let size : length (reversal_of code).crossings ≡ length code.crossings = (reversal-rotated code holds).size in
      let plus = reversal-plus code holds in
      ap₂ (λ a b. survivors p (deformed_cube_of p h new a b) i t) plus (ap₂ (λ (m n : ℕ). m - n) size plus)
      ∙ survivors-plain p h code new (plus_count code.crossings) (minus_count code.crossings) names (λ x. x) to field
      (HasCircles-accepted code holds) (HasCircles-accepted new (reversal-accepted code holds)) old-is new-is size
      (λ state below x y has_x has_y. see state below x y (old-is.arcs x has_x) (old-is.arcs y has_y)) i t
