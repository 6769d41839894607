-- The dimensions of a product: both factors are brought to no differential, and then pairs are counted.
use Rattle.std.proofs.lemmas.Bool.Decides.{nat_tests}
use Rattle.std.proofs.Common.{◌≡◌, ℕ, inl, inr, ◌*◌, ◌%◌, ◌<◌, ◌∙◌, ℤ, ◌-ℤ◌, length, sym, ap, ap₂, arith}
use Rattle.std.specs.List.{Contains, sum_by}
use Rattle.std.proofs.lemmas.Bool.{cases_Bool}
use Rattle.std.proofs.Math.Nat.{zero-mod}
use Rattle.kh_types.specs.Residues.{HasInverses, Same}
use Rattle.kh_types.specs.Table.{IsWithin, from_minus}
use Rattle.kh_types.proofs.ListSums.{sum_by-alike}
use Rattle.cell_laws.specs.Cells.{AreComplex, cells_at, dimension_at}
use Rattle.cell_laws.proofs.LastCells.{dimension-nothing}
use Rattle.product_laws.specs.Products.{AreTurned, Factor, IsFactor, all_pairs, pair_coefficient, product_complex, product_dimension}
use Rattle.product_laws.proofs.Counts.{length-pairs, sum_by-degrees}
use Rattle.product_laws.proofs.PairCoefficients.{by-first, by-neither, by-second, no-loop, pair-below}
use Rattle.product_laws.proofs.PairLists.{pairs-parts}
use Rattle.product_laws.proofs.Reductions.{IsReduced, factor_with, reduced}
use Rattle.product_laws.proofs.Squares.{AreComplex-product}
use Rattle.product_laws.proofs.Turned.{complex-turned, dimension-turned}

-- factors without a differential have a product without one
product-nothing : {A B : Type 0} (p : ℕ) (first : Factor A) (second : Factor B)
    → ((x u : A) → Contains first.cells.list x → Contains first.cells.list u → first.cells.coefficient x u ≡ 0)
    → ((y v : B) → Contains second.cells.list y → Contains second.cells.list v → second.cells.coefficient y v ≡ 0)
    → (z w : A × B) → Contains (all_pairs first.cells.list second.cells.list) z
    → Contains (all_pairs first.cells.list second.cells.list) w → pair_coefficient p first second z w ≡ 0
product-nothing {A} {B} p first second none none_too z w has_z has_w =
    let in_z = pairs-parts first.cells.list second.cells.list z has_z in
    let in_w = pairs-parts first.cells.list second.cells.list w has_w in
    elim (cases_Bool (second.same z.1 w.1)) [
      | inl passes ↦
          by-first p first second z.0 w.0 z.1 w.1 passes
          ∙ ap (λ n. second.sign z.1 * n % p) (none z.0 w.0 in_z.0 in_w.0) ∙ nothing (second.sign z.1)
      | inr fails ↦ elim (cases_Bool (first.same z.0 w.0)) [
        | inl passes ↦
            by-second p first second z.0 w.0 z.1 w.1 fails passes
            ∙ ap (λ n. first.sign z.0 * n % p) (none_too z.1 w.1 in_z.1 in_w.1) ∙ nothing (first.sign z.0)
        | inr fails_too ↦ by-neither p first second z.0 w.0 z.1 w.1 fails fails_too
      ]
    ]
  where
    nothing : (n : ℕ) → n * 0 % p ≡ 0
    nothing n = let e : n * 0 ≡ 0 = omega arith in ap (λ m. m % p) e ∙ zero-mod p

module _ {A B : Type 0} (p n most : ℕ) (first : Factor A) (second : Factor B) (field : HasInverses p) (is : IsFactor p first)
    (second_is : IsFactor p second) (turned : AreTurned p first second)
    (within : (x : A) → Contains first.cells.list x → IsWithin n (first.cells.homological x))
    (within_too : (x : A) → Contains first.cells.list x → IsWithin most (first.cells.quantum x)) where
  positive : 0 < p
  positive = omega (arith, field.above_one)

  whole : AreComplex p (product_complex p first second)
  whole = AreComplex-product p first second field is second_is turned

  one : IsReduced p first second field is.test second_is.test second_is.once second_is.squares first.cells.list first.cells.coefficient
  one = grind (arith, nat_tests, reduced, whole)

  abbrev few : Factor A
  few = factor_with first one.rest one.left

  few-squares : (x : A) → Contains one.rest x → Same p (first.sign x * first.sign x) 1
  few-squares x has = is.squares x (one.among x has)

  few-loops : (x : A) → Contains one.rest x → one.left x x ≡ 0
  few-loops x has = one.none x x has has

  second-loops : (y : B) → Contains second.cells.list y → second.cells.coefficient y y ≡ 0
  second-loops y has = no-loop p second.cells y second_is.complex has

  other : IsReduced p second few field second_is.test is.test one.once few-squares second.cells.list second.cells.coefficient
  other =
      reduced p second few field second_is.test is.test one.once few-squares (length second.cells.list) second.cells.list
      second.cells.coefficient (omega arith) second_is.complex
      (complex-turned p few second field is.test second_is.test few-loops second-loops one.complex) second_is.once

  abbrev few_too : Factor B
  few_too = factor_with second other.rest other.left

  counted : (i j : ℤ) → dimension_at p (product_complex p few few_too) i j ≡ length (cells_at (product_complex p few few_too) i j)
  counted i j =
      dimension-nothing p (product_complex p few few_too) field (pair-below p few few_too positive)
      (product-nothing p few few_too one.none other.none) i j

  brought : (i j : ℤ) → dimension_at p (product_complex p first second) i j ≡ dimension_at p (product_complex p few few_too) i j
  brought i j =
      sym (one.together i j)
      ∙ sym (dimension-turned p few second field is.test second_is.test few-loops second-loops one.complex i j)
      ∙ sym (other.together i j)
      ∙ sym (dimension-turned p few_too few field second_is.test is.test (λ y has. other.none y y has has) few-loops other.complex i j)

  first-counted : (i j : ℤ) → length (cells_at few.cells i j) ≡ dimension_at p first.cells i j
  first-counted i j = sym (dimension-nothing p few.cells field one.below one.none i j) ∙ one.alone i j

  second-counted : (i j : ℤ) → length (cells_at few_too.cells i j) ≡ dimension_at p second.cells i j
  second-counted i j = sym (dimension-nothing p few_too.cells field other.below other.none i j) ∙ other.alone i j

  pub dimension-product : (i j : ℤ) → dimension_at p (product_complex p first second) i j
      ≡ product_dimension n most (dimension_at p first.cells) (dimension_at p second.cells) i j
  dimension-product i j =
      brought i j ∙ counted i j ∙ length-pairs p few few_too i j
      ∙ sym (sum_by-degrees few.cells n most (λ a b. length (cells_at few_too.cells (i -ℤ a) (j -ℤ b)))
      (λ x has. within x (one.among x has)) (λ x has. within_too x (one.among x has)))
      ∙ sum_by-alike
      (λ a. sum_by (λ b. length (cells_at few.cells a b) * length (cells_at few_too.cells (i -ℤ a) (j -ℤ b))) (from_minus most))
      (λ a. sum_by (λ b. dimension_at p first.cells a b * dimension_at p second.cells (i -ℤ a) (j -ℤ b)) (from_minus most))
      (λ a.
      sum_by-alike (λ b. length (cells_at few.cells a b) * length (cells_at few_too.cells (i -ℤ a) (j -ℤ b)))
      (λ b. dimension_at p first.cells a b * dimension_at p second.cells (i -ℤ a) (j -ℤ b))
      (λ b. ap₂ (λ k l. k * l) (first-counted a b) (second-counted (i -ℤ a) (j -ℤ b))) (from_minus most))
      (from_minus n)
