-- Generators of a diagram and of its mirror: the state and the labels with all bits exchanged.
use Rattle.std.proofs.Common.{IsTrue, ap, arith, length, refl, subst, sym, ℕ, ◌+◌, ◌<◌, ◌^◌, ◌∙◌, ◌≡◌}
use Rattle.kh_types.proofs.CircleNumbers.{IsCircle-of, number_of-below}
use Rattle.kh_types.specs.Acceptance.{accepted}
use Rattle.kh_types.specs.Bits.{ones}
use Rattle.kh_types.specs.CircleNumbers.{IsName, circle_number}
use Rattle.kh_types.specs.Circles.{circle_count}
use Rattle.kh_types.specs.Code.{Code}
use Rattle.kh_types.specs.Differential.{label_of}
use Rattle.kh_types.specs.Generators.{Generator, generator_of}
use Rattle.square_laws.proofs.Merges.{circle_in}
use Rattle.link_algebra.proofs.GeneratorLists.{IsGenerator}
use Rattle.link_algebra.proofs.Flips.{bit-flipped, flipped, flipped-below, flipped-twice, ones-flipped}
use Rattle.link_algebra.proofs.MovedLabels.{IsName-back, count-moved, label-moved, name-here, ones-moved}
use Rattle.link_algebra.proofs.Renamings.{IsTurned}
use Rattle.link_algebra.proofs.TurnedCircles.{Corresponds-turned}

-- the generator of the mirror with all bits exchanged
pub record IsStar (f : ℕ → ℕ) (old new : Code) (generator star : Generator) : Type 0 where
  pub state : star.state ≡ flipped (length old.crossings) generator.state
  pub label : star.label < 2 ^ circle_count new star.state
  pub labels : (x : ℕ) → IsName old x → label_of new star (f x) + label_of old generator x ≡ 1
  pub circles : circle_count new star.state ≡ circle_count old generator.state
  pub minuses : ones (circle_count new star.state) star.label + ones (circle_count old generator.state) generator.label
      ≡ circle_count old generator.state

label-flipped : (code : Code) (state label x : ℕ) → IsTrue (accepted code) → label < 2 ^ circle_count code state → IsName code x
    → label_of code (generator_of state (flipped (circle_count code state) label)) x + label_of code (generator_of state label) x ≡ 1
label-flipped code state label x is below name =
    bit-flipped (circle_count code state) label (circle_number code state x) below
    (number_of-below code state (circle_in code state x) (IsCircle-of code state x is name))

pub star-exists : (f back : ℕ → ℕ) (old new : Code) (generator : Generator) → IsTrue (accepted old) → IsTrue (accepted new)
    → IsTurned f back old new → IsGenerator old generator → (star : Generator) × IsStar f old new generator star
star-exists f back old new generator old_is new_is turned is =
    let n = length old.crossings in
    let s = generator.state in
    let c = circle_count old s in
    let t = flipped n s in
    let label = flipped c generator.label in
    let corresponds = Corresponds-turned f back old new s old_is new_is turned is.state in
    let moved = label-moved f back old new s t label new_is corresponds in (
      generator_of t moved.0,
      record {
        state = refl;
        label = moved.1.below;
        labels = λ x name. ap (λ l. l + label_of old generator x) (moved.1.same x name)
            ∙ label-flipped old s generator.label x old_is is.label name;
        circles = count-moved f back old new s t old_is new_is corresponds;
        minuses = omega (
          arith,
          ones-moved f back old new s t label moved.0 old_is new_is corresponds moved.1,
          ones-flipped c generator.label c is.label (omega arith),
        );
      },
    )

-- it is a generator, whose own such generator is the first
pub IsGenerator-star : (f back : ℕ → ℕ) (old new : Code) (generator star : Generator) → IsTurned f back old new
    → IsStar f old new generator star → IsGenerator new star
IsGenerator-star f back old new generator star turned is =
    record {
      state = subst (λ (k : ℕ). star.state < 2 ^ k) (sym turned.size)
          (subst (λ (k : ℕ). k < 2 ^ length old.crossings) (sym is.state) (flipped-below (length old.crossings) generator.state));
      label = is.label;
    }

pub IsStar-back : (f back : ℕ → ℕ) (old new : Code) (generator star : Generator) → IsTrue (accepted old) → IsTrue (accepted new)
    → IsTurned f back old new → IsGenerator old generator → IsStar f old new generator star → IsStar back new old star generator
IsStar-back f back old new generator star old_is new_is turned gen is =
    let n = length old.crossings in
    let corresponds = Corresponds-turned f back old new generator.state old_is new_is turned gen.state in
    record {
      state = sym (flipped-twice n generator.state gen.state) ∙ ap (flipped n) (sym is.state)
          ∙ ap (λ k. flipped k star.state) (sym turned.size);
      label = gen.label;
      labels = λ y name.
          let x = back y in
          let x_name = IsName-back f back old new generator.state (flipped n generator.state) y corresponds name in
          let e : label_of new star (f x) ≡ label_of new star y =
          ap (label_of new star) (name-here f back old new generator.state (flipped n generator.state) y corresponds name) in
          omega (arith, is.labels x x_name, e);
      circles = sym is.circles;
      minuses = omega (arith, is.minuses, is.circles);
    }
