-- The product the other way round.
use Rattle.std.proofs.lemmas.Bool.Decides.{nat_tests}
use Rattle.std.proofs.Common.{◌≡◌, ℕ, ◌*◌, ◌%◌, ◌<◌, ◌∙◌, ℤ, ◌+ℤ◌, List, refl, sym, arith}
use Rattle.std.specs.List.{Contains}
use Rattle.std.proofs.lemmas.Int.{ints}
use Rattle.kh_types.specs.Residues.{HasInverses}
use Rattle.kh_types.proofs.ListSums.{sum_by-turned}
use Rattle.kh_types.proofs.Residues.{same-equal}
use Rattle.cell_laws.specs.Alike.{AreAlike, AreListed}
use Rattle.cell_laws.specs.Cells.{AreComplex, dimension_at}
use Rattle.cell_laws.proofs.AlikeCells.{dimension-alike}
use Rattle.cell_laws.proofs.AlikeComplexes.{complex-alike}
use Rattle.product_laws.specs.Products.{Factor, IsTest, all_pairs, pair_coefficient, product_complex}
use Rattle.product_laws.proofs.PairCoefficients.{pair-below}
use Rattle.product_laws.proofs.PairLists.{pairs-contain, pairs-parts, sum_by-pairs}

module _ {A B : Type 0} (p : ℕ) (first : Factor A) (second : Factor B) (field : HasInverses p) (test : IsTest first.same)
    (second_test : IsTest second.same)
    (loops : (x : A) → Contains first.cells.list x → first.cells.coefficient x x ≡ 0)
    (second_loops : (y : B) → Contains second.cells.list y → second.cells.coefficient y y ≡ 0)
    (complex : AreComplex p (product_complex p first second)) where
  positive : 0 < p
  positive = omega (arith, field.above_one)

  abbrev swap : A × B → B × A
  swap z = (z.1, z.0)

  nothing-times : (s n : ℕ) → n ≡ 0 → s * n % p ≡ 0
  nothing-times s n none = grind (arith, nat_tests)

  -- where both cells are one, both coefficients are 0
  coefficients : (x u : A) (y v : B) → Contains first.cells.list x → Contains second.cells.list y
      → pair_coefficient p first second (x, y) (u, v) ≡ pair_coefficient p second first (y, x) (v, u)
  coefficients x u y v has_x has_y = grind (arith, nat_tests)

  abbrev xs : List A
  xs = first.cells.list

  abbrev ys : List B
  ys = second.cells.list

  listed : AreListed swap (all_pairs xs ys) (all_pairs ys xs)
  listed =
      record {
        there = λ z has. let parts = pairs-parts xs ys z has in pairs-contain ys xs z.1 z.0 parts.1 parts.0;
        back = λ w has. let parts = pairs-parts ys xs w has in ((w.1, w.0), pairs-contain xs ys w.1 w.0 parts.1 parts.0, refl);
        sums = λ f.
            sum_by-pairs f ys xs ∙ sum_by-turned (λ y x. f (y, x)) ys xs
            ∙ sym (sum_by-pairs (λ (z : A × B). f (z.1, z.0)) xs ys);
      }

  alike : AreAlike p swap (λ (z : A × B). 1) (product_complex p first second) (product_complex p second first)
  alike =
      record {
        listed = listed;
        squares = λ z has. refl;
        homological = λ z has. commuted (second.cells.homological z.1) (first.cells.homological z.0);
        quantum = λ z has. commuted (second.cells.quantum z.1) (first.cells.quantum z.0);
        coefficient = λ z w has_z has_w.
            let parts = pairs-parts xs ys z has_z in
            same-equal p (pair_coefficient p first second z w) (1 * (1 * pair_coefficient p second first (swap z) (swap w)))
            (coefficients z.0 w.0 z.1 w.1 parts.0 parts.1
            ∙ once (pair_coefficient p second first (swap z) (swap w)));
      }
    where
      once : (n : ℕ) → n ≡ 1 * (1 * n)
      once n = omega arith

      commuted : (a b : ℤ) → a +ℤ b ≡ b +ℤ a
      commuted a b = omega (arith, ints)

  pub complex-turned : AreComplex p (product_complex p second first)
  complex-turned =
      complex-alike p swap (λ (z : A × B). 1) (product_complex p first second) (product_complex p second first) alike
      (pair-below p second first positive) complex

  pub dimension-turned : (i j : ℤ)
      → dimension_at p (product_complex p second first) i j ≡ dimension_at p (product_complex p first second) i j
  dimension-turned i j =
      dimension-alike p swap (λ (z : A × B). 1) (product_complex p first second) (product_complex p second first) alike field
      complex.below (pair-below p second first positive) i j
