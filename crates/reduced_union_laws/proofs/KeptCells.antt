-- The generators with v- on the marked circle, as cells: they are a complex, whose dimensions are the reduced ones.
use Rattle.std.proofs.Common.{◌≡◌, ℕ, ◌*◌, ◌∙◌, ℤ, pos, ◌+ℤ◌, ◌-ℤ◌, length, ap, ap₂, arith, Bool, true, IsTrue, ◌&&◌}
use Rattle.std.specs.List.{Contains, filter, sum_by}
use Rattle.std.specs.Ordering.{int_eq}
use Rattle.std.specs.Prelude.{◌-◌}
use Rattle.std.proofs.lemmas.Bool.{both_ways, eq-eqb, eqb-true}
use Rattle.std.proofs.lemmas.Int.{ints}
use Rattle.kh_types.specs.Acceptance.{accepted}
use Rattle.kh_types.specs.CircleNumbers.{IsName}
use Rattle.kh_types.specs.Code.{Code}
use Rattle.kh_types.specs.Differential.{coefficient, label_of}
use Rattle.kh_types.specs.Directions.{minus_count, plus_count}
use Rattle.kh_types.specs.Generators.{Generator, generators, has_degrees}
use Rattle.kh_types.specs.Rank.{rank}
use Rattle.kh_types.specs.Residues.{HasInverses}
use Rattle.kh_types.proofs.LabelDegrees.{int_eq-iff}
use Rattle.kh_types.proofs.Residues.{same-equal}
use Rattle.cell_laws.specs.Cells.{AreComplex, Cells, cells_at, dimension_at, has_both, table_of}
use Rattle.cell_laws.specs.Cubes.{cube_of}
use Rattle.cell_laws.proofs.Members.{Contains-kept, filter-exchanged, sum_by-kept}
use Rattle.cell_laws.proofs.CubeCells.{AreComplex-cube}
use Rattle.reduced_cube.specs.Reduced.{is_reduced, reduced_dimension, reduced_generators}
use Rattle.reduced_cube.proofs.MarkedMinus.{coefficient-lost}
use Rattle.product_laws.specs.Products.{Factor}
use Rattle.view_laws.proofs.Tests.{filter-agree}

-- the cells that are left, with the reduced quantum degree
abbrev pub reduced_cells : ℕ → Code → ℕ → ℕ → ℕ → Cells Generator
reduced_cells p code plus minus mark =
    record {
      list = filter (is_reduced code mark) (generators code);
      homological = (cube_of p code plus minus).homological;
      quantum = λ x. (cube_of p code plus minus).quantum x +ℤ pos 1;
      coefficient = coefficient p code;
    }

-- a factor with other cells
abbrev pub factor_on : {A : Type 0} → Cells A → Factor A → Factor A
factor_on cells factor = record { cells = cells; same = factor.same; sign = factor.sign }

-- the reduced dimensions are those of these cells
module _ (p : ℕ) (code : Code) (mark : ℕ) where
  abbrev cells : Cells Generator
  cells = reduced_cells p code (plus_count code.crossings) (minus_count code.crossings) mark

  at-degrees : (i j : ℤ) → reduced_generators code mark i j ≡ cells_at cells i j
  at-degrees i j =
      filter-exchanged (is_reduced code mark) (has_degrees code i (j -ℤ pos 1)) (generators code)
      ∙ filter-agree (has_degrees code i (j -ℤ pos 1)) (has_both cells i j) (filter (is_reduced code mark) (generators code))
      (λ x has.
      let full = cube_of p code (plus_count code.crossings) (minus_count code.crossings) in
      ap (λ (b : Bool). int_eq (full.homological x) i && b) (raised (full.quantum x) j))
    where
      raised : (q j : ℤ) → int_eq q (j -ℤ pos 1) ≡ int_eq (q +ℤ pos 1) j
      raised q j = int_eq-iff q (j -ℤ pos 1) (q +ℤ pos 1) j (λ is. omega (arith, ints, is)) (λ is. omega (arith, ints, is))

  pub reduced-cells_dimension : (i j : ℤ) → reduced_dimension p code mark i j
      ≡ dimension_at p (reduced_cells p code (plus_count code.crossings) (minus_count code.crossings) mark) i j
  reduced-cells_dimension i j =
      let table = table_of (coefficient p code) in
      ap (λ xs. length xs - rank p (table xs (reduced_generators code mark (i +ℤ pos 1) j))
      - rank p (table (reduced_generators code mark (i -ℤ pos 1) j) (reduced_generators code mark (i -ℤ pos 1 +ℤ pos 1) j)))
      (at-degrees i j)
      ∙ ap (λ xs. length (cells_at cells i j) - rank p (table (cells_at cells i j) xs)
      - rank p (table (reduced_generators code mark (i -ℤ pos 1) j) (reduced_generators code mark (i -ℤ pos 1 +ℤ pos 1) j)))
      (at-degrees (i +ℤ pos 1) j)
      ∙ ap₂ (λ xs ys. length (cells_at cells i j) - rank p (table (cells_at cells i j) (cells_at cells (i +ℤ pos 1) j))
      - rank p (table xs ys))
      (at-degrees (i -ℤ pos 1) j) (at-degrees (i -ℤ pos 1 +ℤ pos 1) j)

-- they are a complex
module _ (p : ℕ) (code : Code) (plus minus mark : ℕ) (field : HasInverses p) (is : IsTrue (accepted code)) (name : IsName code mark) where
  abbrev c : Generator → Generator → ℕ
  c = coefficient p code

  whole : AreComplex p (cube_of p code plus minus)
  whole = AreComplex-cube p code plus minus field.above_one is

  kept : (x : Generator) → Contains (filter (is_reduced code mark) (generators code)) x
      → Contains (generators code) x × (is_reduced code mark x ≡ true)
  kept x has = Contains-kept (is_reduced code mark) (generators code) x has

  pub reduced-complex : AreComplex p (reduced_cells p code plus minus mark)
  reduced-complex =
      record {
        below = whole.below;
        homological = λ x y has_x has_y some. whole.homological x y (kept x has_x).0 (kept y has_y).0 some;
        quantum = λ x y has_x has_y some. ap (λ q. q +ℤ pos 1) (whole.quantum x y (kept x has_x).0 (kept y has_y).0 some);
        squares = λ x z has_x has_z.
            let in_x = kept x has_x in
            same-equal p (sum_by (λ y. c x y * c y z) (filter (is_reduced code mark) (generators code)))
            (sum_by (λ y. c x y * c y z) (generators code))
            (sum_by-kept (λ y. c x y * c y z) (is_reduced code mark) (generators code)
            (λ y has_y fails.
            ap (λ n. n * c y z)
            (coefficient-lost p code mark x y is name (eqb-true (label_of code x mark) 1 in_x.1)
            (λ same. both_ways (is_reduced code mark y) fails (eq-eqb (label_of code y mark) 1 same)))
            ∙ nothing (c y z)))
            ∙ whole.squares x z in_x.0 (kept z has_z).0;
      }
    where
      nothing : (n : ℕ) → 0 * n ≡ 0
      nothing n = omega arith
