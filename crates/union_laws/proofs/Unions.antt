-- The dimensions of unions.
use Rattle.std.proofs.Common.{◌≡◌, ℕ, ◌+◌, ◌*◌, ◌<◌, ◌≤◌, ◌∙◌, ℤ, length, sym, ap₂, arith, IsTrue}
use Rattle.kh_types.specs.Acceptance.{accepted}
use Rattle.kh_types.specs.Circles.{circle_count}
use Rattle.kh_types.specs.Code.{Code}
use Rattle.kh_types.specs.Components.{component_count}
use Rattle.kh_types.specs.Directions.{minus_count, plus_count}
use Rattle.kh_types.specs.Generators.{Generator}
use Rattle.kh_types.specs.Residues.{HasInverses}
use Rattle.kh_types.specs.Table.{dimension}
use Rattle.kh_types.proofs.AcceptedCodes.{accepted_arcs}
use Rattle.kh_types.proofs.CircleBound.{circle_count-le}
use Rattle.kh_types.proofs.QuantumDegrees.{homological_degree-within, quantum_degree-within}
use Rattle.kh_types.proofs.Residues.{same-equal}
use Rattle.prime_field.specs.Residues.{IsSmallPrime}
use Rattle.prime_field.specs.SmallFields.{field-small_prime}
use Rattle.plain_matrix.proofs.FieldInverses.{inverses-field}
use Rattle.cell_laws.specs.Cells.{dimension_at}
use Rattle.cell_laws.specs.Cubes.{cube_of}
use Rattle.cell_laws.proofs.AlikeCells.{dimension-alike}
use Rattle.square_laws.proofs.Degrees.{coefficient-below}
use Rattle.link_algebra.proofs.UnitedSigns.{plus-both}
use Rattle.link_algebra.proofs.UnitedSums.{minus-both}
use Rattle.link_algebra.specs.Unions.{union_of}
use Rattle.union_laws.specs.Cubes.{first_factor, second_factor, united}
use Rattle.product_laws.specs.Products.{Factor, IsFactor, product_complex, product_dimension}
use Rattle.product_laws.proofs.Kuenneth.{dimension-product}
use Rattle.product_laws.proofs.PairCoefficients.{no-loop, pair-below}
use Rattle.product_laws.proofs.Squares.{AreComplex-product}
use Rattle.product_laws.proofs.Turned.{dimension-turned}
use Rattle.union_laws.proofs.CubeFactors.{AreTurned-cubes, factor-first, factor-second}
use Rattle.union_laws.proofs.UnitedCubes.{AreAlike-united}

pub fits-state : (code : Code) (most : ℕ) (x : Generator) → IsTrue (accepted code)
    → 3 * length code.crossings + component_count code.crossings + code.loops ≤ most
    → circle_count code x.state + 2 * length code.crossings ≤ most
fits-state code most x is fits = omega (arith, fits, circle_count-le code x.state (λ dart. accepted_arcs code dart is))

module _ (p : ℕ) (first second : Code) (field : HasInverses p) (first_is : IsTrue (accepted first))
    (second_is : IsTrue (accepted second)) where
  positive : 0 < p
  positive = omega (arith, field.above_one)

  abbrev first_cube : Factor Generator
  first_cube = first_factor p first (plus_count first.crossings) (minus_count first.crossings)

  abbrev second_cube : Factor Generator
  second_cube = second_factor p second (plus_count second.crossings) (minus_count second.crossings)

  abbrev both : Code
  both = union_of first second

  first-factor : IsFactor p first_cube
  first-factor = factor-first p first (plus_count first.crossings) (minus_count first.crossings) field first_is

  second-factor : IsFactor p second_cube
  second-factor = factor-second p second (plus_count second.crossings) (minus_count second.crossings) field second_is

  -- the cube of the union has the dimensions of the product
  as-product : (i j : ℤ) → dimension p (union_of first second) i j ≡ dimension_at p (product_complex p first_cube second_cube) i j
  as-product i j =
      let plus = plus-both first second first_is second_is in
      ap₂ (λ k l. dimension_at p (cube_of p both k l) i j) plus (minus-both first second plus)
      ∙ dimension-alike p (united first second) (λ z. 1) (product_complex p first_cube second_cube)
      (cube_of p both (plus_count first.crossings + plus_count second.crossings)
      (minus_count first.crossings + minus_count second.crossings))
      (AreAlike-united p first second field first_is second_is (plus_count first.crossings) (minus_count first.crossings)
      (plus_count second.crossings) (minus_count second.crossings))
      field (pair-below p first_cube second_cube positive) (λ x y. coefficient-below p both x y field.above_one) i j

  pub dimension-union : (most : ℕ) → 3 * length first.crossings + component_count first.crossings + first.loops ≤ most
      → (i j : ℤ) → dimension p (union_of first second) i j
      ≡ product_dimension (length first.crossings) most (dimension p first) (dimension p second) i j
  dimension-union most fits i j =
      as-product i j
      ∙ dimension-product p (length first.crossings) most first_cube second_cube field first-factor second-factor
      (AreTurned-cubes p first second (plus_count first.crossings) (minus_count first.crossings) (plus_count second.crossings)
      (minus_count second.crossings) field)
      (λ x has. homological_degree-within first x)
      (λ x has. quantum_degree-within first x most (fits-state first most x first_is fits)) i j

  -- and over the degrees of the second code
  pub dimension-union_turned : (most : ℕ) → 3 * length second.crossings + component_count second.crossings + second.loops ≤ most
      → (i j : ℤ) → dimension p (union_of first second) i j
      ≡ product_dimension (length second.crossings) most (dimension p second) (dimension p first) i j
  dimension-union_turned most fits i j =
      let turns = AreTurned-cubes p first second (plus_count first.crossings) (minus_count first.crossings) (plus_count second.crossings)
      (minus_count second.crossings) field in
      as-product i j
      ∙ sym (dimension-turned p first_cube second_cube field first-factor.test second-factor.test
      (λ x has. no-loop p first_cube.cells x first-factor.complex has)
      (λ y has. no-loop p second_cube.cells y second-factor.complex has)
      (AreComplex-product p first_cube second_cube field first-factor second-factor turns) i j)
      ∙ dimension-product p (length second.crossings) most second_cube first_cube field second-factor first-factor
      (λ y v x u has_y has_v has_x has_u some some_too.
      same-equal p (first_cube.sign x * second_cube.sign v + second_cube.sign y * first_cube.sign u)
      (second_cube.sign y * first_cube.sign u + first_cube.sign x * second_cube.sign v)
      (commuted (first_cube.sign x * second_cube.sign v) (second_cube.sign y * first_cube.sign u))
      ∙ turns x u y v has_x has_u has_y has_v some_too some)
      (λ x has. homological_degree-within second x)
      (λ x has. quantum_degree-within second x most (fits-state second most x second_is fits)) i j
    where
      commuted : (k l : ℕ) → k + l ≡ l + k
      commuted k l = omega arith

pub unions-commute : (p : ℕ) (first second : Code) → HasInverses p → IsTrue (accepted first) → IsTrue (accepted second) → (i j : ℤ)
    → dimension p (union_of second first) i j ≡ dimension p (union_of first second) i j
unions-commute p first second field first_is second_is i j =
    let most = 3 * length first.crossings + component_count first.crossings + first.loops in
    dimension-union_turned p second first field second_is first_is most (omega arith) i j
    ∙ sym (dimension-union p first second field first_is second_is most (omega arith) i j)
