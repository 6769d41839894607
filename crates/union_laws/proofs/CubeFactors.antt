-- The cubes of codes are factors: their generators are told apart, stand once, and have signs that turn along edges.
use Rattle.std.proofs.Common.{IsTrue, ap, ap₂, arith, Bool, true, false, length, refl, ℕ, ◌*◌, ◌+◌, ◌%◌, ◌<◌, ◌∙◌, ◌≡◌, ◌≢◌, ◌&&◌}
use Rattle.std.specs.Prelude.{nat_eq}
use Rattle.std.proofs.lemmas.Bool.{both_ways, eq-eqb, eqb-true, ne_eqb, and_parts}
use Rattle.std.proofs.lemmas.Bool.Decides.{nat_tests}
use Rattle.kh_types.specs.Acceptance.{accepted}
use Rattle.kh_types.specs.Bits.{ones}
use Rattle.kh_types.specs.Code.{Code}
use Rattle.kh_types.specs.Generators.{Generator, generator_of, one_count}
use Rattle.kh_types.specs.Residues.{HasInverses, Same}
use Rattle.kh_types.proofs.Residues.{same-equal, same-multiple}
use Rattle.cell_laws.proofs.CubeCells.{AreComplex-cube, step-of}
use Rattle.cell_laws.proofs.NoDoubles.{once-generators}
use Rattle.square_laws.proofs.Signs.{ones-set_below, power_sign, same_parity, signs-product}
use Rattle.union_laws.specs.Cubes.{first_factor, same_generator, second_factor, state_sign}
use Rattle.product_laws.specs.Products.{AreTurned, IsFactor, IsTest}

-- the test of generators
pub generator-test : IsTest same_generator
generator-test =
    record {
      one = λ x y passes.
          let parts = and_parts (nat_eq x.state y.state) (nat_eq x.label y.label) passes in
          ap₂ generator_of (eqb-true x.state y.state parts.0) (eqb-true x.label y.label parts.1);
      self = λ x. ap₂ (λ (b c : Bool). b && c) (eq-eqb x.state x.state refl) (eq-eqb x.label x.label refl);
    }

pub other-state : (x y : Generator) → x.state ≢ y.state → same_generator x y ≡ false
other-state x y other = ap (λ (b : Bool). b && nat_eq x.label y.label) (ne_eqb x.state y.state other)

-- signs
pub sign-square : (p n : ℕ) → 0 < p → Same p (power_sign p n * power_sign p n) 1
sign-square p n positive = signs-product p n n positive ∙ same-equal p (power_sign p (n + n)) 1 (same_parity p (n + n) 0 (omega arith))

signs-turn : (p n : ℕ) → 0 < p → Same p (1 * power_sign p (n + 1) + power_sign p n * 1) 0
signs-turn p n positive =
    same-equal p (1 * power_sign p (n + 1) + power_sign p n * 1) p (once (power_sign p (n + 1)) (power_sign p n) ∙ turned p n positive)
    ∙ self p
  where
    once : (a b : ℕ) → 1 * a + b * 1 ≡ a + b
    once a b = omega arith

    turned : (p n : ℕ) → 0 < p → power_sign p (n + 1) + power_sign p n ≡ p
    turned p n positive = grind (arith, nat_tests)

    self : (p : ℕ) → p % p ≡ 0 % p
    self p = same-equal p p (0 + p * 1) (omega arith) ∙ same-multiple p 0 1

module _ (p : ℕ) (code : Code) (plus minus : ℕ) (field : HasInverses p) (is : IsTrue (accepted code)) where
  positive : 0 < p
  positive = omega (arith, field.above_one)

  pub factor-first : IsFactor p (first_factor p code plus minus)
  factor-first =
      record {
        test = generator-test;
        complex = AreComplex-cube p code plus minus field.above_one is;
        once = once-generators code;
        squares = λ x has. sign-square p (one_count code x.state) positive;
      }

  pub factor-second : IsFactor p (second_factor p code plus minus)
  factor-second =
      record {
        test = generator-test;
        complex = AreComplex-cube p code plus minus field.above_one is;
        once = once-generators code;
        squares = λ x has. refl;
      }

module _ (p : ℕ) (first second : Code) (plus minus second_plus second_minus : ℕ) (field : HasInverses p) where
  above : 0 < p
  above = omega (arith, field.above_one)

  pub AreTurned-cubes : AreTurned p (first_factor p first plus minus) (second_factor p second second_plus second_minus)
  AreTurned-cubes x u y v has_x has_u has_y has_v some some_too =
      let step = step-of p first x u some in
      let more : one_count first u.state ≡ one_count first x.state + 1 =
      ap (ones (length first.crossings)) step.1.behind
      ∙ ones-set_below x.state step.0 (length first.crossings) step.1.zero_there step.1.within in
      same-equal p (1 * state_sign p first u + state_sign p first x * 1)
      (1 * power_sign p (one_count first x.state + 1) + power_sign p (one_count first x.state) * 1)
      (ap (λ k. 1 * power_sign p k + state_sign p first x * 1) more)
      ∙ signs-turn p (one_count first x.state) above
