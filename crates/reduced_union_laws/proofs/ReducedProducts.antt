-- The reduced dimensions of unions.
use Rattle.std.proofs.Common.{◌≡◌, ℕ, ◌+◌, ◌*◌, ◌<◌, ◌≤◌, ◌∙◌, ℤ, pos, ◌+ℤ◌, ◌-ℤ◌, List, [], ◌∷◌, ◌++◌, length, map, refl, sym, subst, ap, ap₂, arith, Bool, true, false, cond, ◌-◌, IsTrue}
use Rattle.std.specs.List.{Contains, filter, sum_by}
use Rattle.std.proofs.lemmas.Int.{ints}
use Rattle.std.proofs.lemmas.List.Elements.{filter-append}
use Rattle.kh_types.specs.Acceptance.{accepted}
use Rattle.kh_types.specs.CircleNumbers.{IsName}
use Rattle.kh_types.specs.Code.{Code}
use Rattle.kh_types.specs.Components.{component_count}
use Rattle.kh_types.specs.Directions.{minus_count, plus_count}
use Rattle.kh_types.specs.Generators.{Generator, generators, quantum_degree}
use Rattle.kh_types.specs.Residues.{HasInverses}
use Rattle.kh_types.specs.Table.{IsWithin, dimension, from_minus}
use Rattle.kh_types.proofs.Lists.{filter-map}
use Rattle.kh_types.proofs.ListSums.{sum_by-alike}
use Rattle.kh_types.proofs.QuantumDegrees.{IsWithin-place, homological_degree-within, place-IsWithin, quantum_degree-within}
use Rattle.cell_laws.specs.Alike.{AreAlike, AreListed}
use Rattle.cell_laws.specs.Cells.{Cells, dimension_at}
use Rattle.cell_laws.specs.Cubes.{cube_of}
use Rattle.cell_laws.proofs.AlikeCells.{dimension-alike}
use Rattle.cell_laws.proofs.CubeCells.{member-from}
use Rattle.cell_laws.proofs.Listings.{listed-kept}
use Rattle.cell_laws.proofs.NoDoubles.{once-filter}
use Rattle.cell_laws.proofs.Members.{Contains-kept}
use Rattle.square_laws.proofs.Degrees.{coefficient-below}
use Rattle.link_algebra.proofs.UnitedSigns.{plus-both}
use Rattle.link_algebra.proofs.UnitedSums.{minus-both}
use Rattle.link_algebra.specs.Unions.{union_of}
use Rattle.reduced_cube.specs.Reduced.{is_reduced, reduced_dimension}
use Rattle.reduced_union_laws.specs.UnitedMarks.{first_mark, second_mark}
use Rattle.reduced_union_laws.proofs.KeptCells.{factor_on, reduced-cells_dimension, reduced-complex, reduced_cells}
use Rattle.reduced_union_laws.proofs.UnitedMinus.{minus-first, minus-second}
use Rattle.union_laws.specs.Cubes.{first_factor, second_factor, united}
use Rattle.product_laws.specs.Products.{Factor, IsFactor, all_pairs, product_complex, product_dimension}
use Rattle.union_laws.proofs.CubeFactors.{AreTurned-cubes, factor-first, factor-second}
use Rattle.product_laws.proofs.Kuenneth.{dimension-product}
use Rattle.product_laws.proofs.PairCoefficients.{pair-below}
use Rattle.product_laws.proofs.PairLists.{pairs-parts}
use Rattle.union_laws.proofs.Unions.{fits-state}
use Rattle.union_laws.proofs.UnitedCubes.{AreAlike-united}
use Rattle.view_laws.proofs.Tests.{filter-agree}

-- pairs whose first cell passes a test, and whose second does

pairs-kept_first : {A B : Type 0} (test : A → Bool) (xs : List A) (ys : List B)
    → filter (λ z. test z.0) (all_pairs xs ys) ≡ all_pairs (filter test xs) ys
pairs-kept_first test [] ys = refl
pairs-kept_first {A} {B} test (x ∷ xs) ys =
    filter-append (λ (z : A × B). test z.0) (map {B = A × B} (λ (y : B). (x, y)) ys) (all_pairs xs ys)
    ∙ ap₂ (λ us vs. us ++ vs)
    (filter-map (λ (z : A × B). test z.0) (λ (y : B). (x, y)) ys ∙ constant (test x) ys)
    (pairs-kept_first test xs ys)
    ∙ by (test x)
  where
    constant : (b : Bool) (zs : List B) → map {B = A × B} (λ (y : B). (x, y)) (filter (λ y. b) zs)
        ≡ cond b (map {B = A × B} (λ (y : B). (x, y)) zs) []
    constant true [] = refl
    constant false [] = refl
    constant true (z ∷ zs) = ap (λ us. (x, z) ∷ us) (constant true zs)
    constant false (z ∷ zs) = constant false zs

    by : (b : Bool) → cond b (map {B = A × B} (λ (y : B). (x, y)) ys) [] ++ all_pairs (filter test xs) ys
        ≡ all_pairs (cond b (x ∷ filter test xs) (filter test xs)) ys
    by true = refl
    by false = refl

pairs-kept_second : {A B : Type 0} (test : B → Bool) (xs : List A) (ys : List B)
    → filter (λ z. test z.1) (all_pairs xs ys) ≡ all_pairs xs (filter test ys)
pairs-kept_second test [] ys = refl
pairs-kept_second {A} {B} test (x ∷ xs) ys =
    filter-append (λ (z : A × B). test z.1) (map {B = A × B} (λ (y : B). (x, y)) ys) (all_pairs xs ys)
    ∙ ap₂ (λ us vs. us ++ vs) (filter-map (λ (z : A × B). test z.1) (λ y. (x, y)) ys) (pairs-kept_second test xs ys)

one-higher : (n : ℕ) (q : ℤ) → IsWithin n q → IsWithin (n + 1) (q +ℤ pos 1)
one-higher n q within =
    let at = place-IsWithin n q within in
    IsWithin-place (n + 1) (at.0 + 2) (q +ℤ pos 1) (omega (arith, at.1)) (omega (arith, ints, at.2))

module _ (p : ℕ) (first second : Code) (field : HasInverses p) (first_is : IsTrue (accepted first))
    (second_is : IsTrue (accepted second)) where
  positive : 0 < p
  positive = omega (arith, field.above_one)

  abbrev first_plus : ℕ
  first_plus = plus_count first.crossings

  abbrev first_minus : ℕ
  first_minus = minus_count first.crossings

  abbrev second_plus : ℕ
  second_plus = plus_count second.crossings

  abbrev second_minus : ℕ
  second_minus = minus_count second.crossings

  abbrev first_cube : Factor Generator
  first_cube = first_factor p first (plus_count first.crossings) (minus_count first.crossings)

  abbrev second_cube : Factor Generator
  second_cube = second_factor p second (plus_count second.crossings) (minus_count second.crossings)

  abbrev both : Code
  both = union_of first second

  abbrev kept_cells : ℕ → Cells Generator
  kept_cells mark = reduced_cells p both (first_plus + second_plus) (first_minus + second_minus) mark

  first-factor : IsFactor p first_cube
  first-factor = factor-first p first first_plus first_minus field first_is

  second-factor : IsFactor p second_cube
  second-factor = factor-second p second second_plus second_minus field second_is

  full : AreAlike p (united first second) (λ z. 1) (product_complex p first_cube second_cube)
      (cube_of p both (first_plus + second_plus) (first_minus + second_minus))
  full = AreAlike-united p first second field first_is second_is first_plus first_minus second_plus second_minus

  of-both : (mark : ℕ) (i j : ℤ)
      → reduced_dimension p both mark i j ≡ dimension_at p (kept_cells mark) i j
  of-both mark i j =
      let plus = plus-both first second first_is second_is in
      reduced-cells_dimension p both mark i j
      ∙ ap₂ (λ k l. dimension_at p (reduced_cells p both k l mark) i j) plus (minus-both first second plus)

  -- the mark in the first code
  module _ (mark : ℕ) (name : IsName first mark) where
    abbrev few : Factor Generator
    few = factor_on (reduced_cells p first (plus_count first.crossings) (minus_count first.crossings) mark)
        (first_factor p first (plus_count first.crossings) (minus_count first.crossings))

    abbrev at : ℕ
    at = first_mark first second mark

    few-factor : IsFactor p few
    few-factor =
        record {
          test = first-factor.test;
          complex = reduced-complex p first first_plus first_minus mark field first_is name;
          once = once-filter (is_reduced first mark) (generators first) first-factor.once;
          squares = λ x has. first-factor.squares x (Contains-kept (is_reduced first mark) (generators first) x has).0;
        }

    few-pairs : filter (λ z. is_reduced both at (united first second z)) (all_pairs (generators first) (generators second))
        ≡ all_pairs (filter (is_reduced first mark) (generators first)) (generators second)
    few-pairs =
        filter-agree (λ z. is_reduced both at (united first second z)) (λ z. is_reduced first mark z.0)
        (all_pairs (generators first) (generators second))
        (λ z has.
        minus-first first second first_is second_is z.0 z.1
        (member-from first z.0 (pairs-parts (generators first) (generators second) z has).0) mark name)
        ∙ pairs-kept_first (is_reduced first mark) (generators first) (generators second)

    in-full : (z : Generator × Generator) → Contains (product_complex p few second_cube).list z
        → Contains (product_complex p first_cube second_cube).list z
    in-full z has =
        (Contains-kept (λ w. is_reduced both at (united first second w)) (all_pairs (generators first) (generators second)) z
        (subst (λ (zs : List (Generator × Generator)). Contains zs z) (sym few-pairs) has)).0

    few-alike : AreAlike p (united first second) (λ z. 1) (product_complex p few second_cube) (kept_cells at)
    few-alike =
        record {
          listed = subst
              (λ (zs : List (Generator × Generator)). AreListed (united first second) zs (filter (is_reduced both at) (generators both)))
              few-pairs
              (listed-kept (united first second) (is_reduced both at) (all_pairs (generators first) (generators second)) (generators both)
              full.listed);
          squares = λ z has. refl;
          homological = λ z has. full.homological z (in-full z has);
          quantum = λ z has.
              ap (λ q. q +ℤ pos 1) (full.quantum z (in-full z has)) ∙ moved (first_cube.cells.quantum z.0) (second_cube.cells.quantum z.1);
          coefficient = λ z w has_z has_w. full.coefficient z w (in-full z has_z) (in-full w has_w);
        }
      where
        moved : (a b : ℤ) → a +ℤ b +ℤ pos 1 ≡ a +ℤ pos 1 +ℤ b
        moved a b = omega (arith, ints)

    pub reduced-union_first : (most : ℕ) → 3 * length first.crossings + component_count first.crossings + first.loops < most → (i j : ℤ)
        → reduced_dimension p (union_of first second) (first_mark first second mark) i j
        ≡ product_dimension (length first.crossings) most (reduced_dimension p first mark) (dimension p second) i j
    reduced-union_first most fits i j =
        let turns = AreTurned-cubes p first second first_plus first_minus second_plus second_minus field in
        let kept = λ (x : Generator) (has : Contains (filter (is_reduced first mark) (generators first)) x).
        (Contains-kept (is_reduced first mark) (generators first) x has).0 in
        let low = 3 * length first.crossings + component_count first.crossings + first.loops in
        of-both at i j
        ∙ dimension-alike p (united first second) (λ z. 1) (product_complex p few second_cube)
        (kept_cells at) few-alike field
        (pair-below p few second_cube positive) (λ x y. coefficient-below p both x y field.above_one) i j
        ∙ dimension-product p (length first.crossings) most few second_cube field few-factor second-factor
        (λ x u y v has_x has_u has_y has_v some some_too. turns x u y v (kept x has_x) (kept u has_u) has_y has_v some some_too)
        (λ x has. homological_degree-within first x)
        (λ x has.
        let e : most - 1 + 1 ≡ most = omega (arith, fits) in
        subst (λ n. IsWithin n (quantum_degree first x +ℤ pos 1)) e
        (one-higher (most - 1) (quantum_degree first x)
        (quantum_degree-within first x (most - 1) (fits-state first (most - 1) x first_is (omega (arith, fits))))))
        i j
        ∙ sum_by-alike
        (λ a. sum_by (λ b. dimension_at p few.cells a b * dimension p second (i -ℤ a) (j -ℤ b)) (from_minus most))
        (λ a. sum_by (λ b. reduced_dimension p first mark a b * dimension p second (i -ℤ a) (j -ℤ b)) (from_minus most))
        (λ a.
        sum_by-alike (λ b. dimension_at p few.cells a b * dimension p second (i -ℤ a) (j -ℤ b))
        (λ b. reduced_dimension p first mark a b * dimension p second (i -ℤ a) (j -ℤ b))
        (λ b. ap (λ n. n * dimension p second (i -ℤ a) (j -ℤ b)) (sym (reduced-cells_dimension p first mark a b))) (from_minus most))
        (from_minus (length first.crossings))

  -- the mark in the second
  module _ (mark : ℕ) (name : IsName second mark) where
    abbrev less : Factor Generator
    less = factor_on (reduced_cells p second (plus_count second.crossings) (minus_count second.crossings) mark)
        (second_factor p second (plus_count second.crossings) (minus_count second.crossings))

    abbrev there : ℕ
    there = second_mark first second mark

    less-factor : IsFactor p less
    less-factor =
        record {
          test = second-factor.test;
          complex = reduced-complex p second second_plus second_minus mark field second_is name;
          once = once-filter (is_reduced second mark) (generators second) second-factor.once;
          squares = λ x has. second-factor.squares x (Contains-kept (is_reduced second mark) (generators second) x has).0;
        }

    less-pairs : filter (λ z. is_reduced both there (united first second z)) (all_pairs (generators first) (generators second))
        ≡ all_pairs (generators first) (filter (is_reduced second mark) (generators second))
    less-pairs =
        filter-agree (λ z. is_reduced both there (united first second z)) (λ z. is_reduced second mark z.1)
        (all_pairs (generators first) (generators second))
        (λ z has.
        minus-second first second first_is second_is z.0 z.1
        (member-from first z.0 (pairs-parts (generators first) (generators second) z has).0) mark name)
        ∙ pairs-kept_second (is_reduced second mark) (generators first) (generators second)

    in-whole : (z : Generator × Generator) → Contains (product_complex p first_cube less).list z
        → Contains (product_complex p first_cube second_cube).list z
    in-whole z has =
        (Contains-kept (λ w. is_reduced both there (united first second w)) (all_pairs (generators first) (generators second)) z
        (subst (λ (zs : List (Generator × Generator)). Contains zs z) (sym less-pairs) has)).0

    less-alike : AreAlike p (united first second) (λ z. 1) (product_complex p first_cube less) (kept_cells there)
    less-alike =
        record {
          listed = subst
              (λ (zs : List (Generator × Generator)). AreListed (united first second) zs (filter (is_reduced both there) (generators both)))
              less-pairs
              (listed-kept (united first second) (is_reduced both there) (all_pairs (generators first) (generators second))
              (generators both)
              full.listed);
          squares = λ z has. refl;
          homological = λ z has. full.homological z (in-whole z has);
          quantum = λ z has.
              ap (λ q. q +ℤ pos 1) (full.quantum z (in-whole z has)) ∙ moved (first_cube.cells.quantum z.0) (second_cube.cells.quantum z.1);
          coefficient = λ z w has_z has_w. full.coefficient z w (in-whole z has_z) (in-whole w has_w);
        }
      where
        moved : (a b : ℤ) → a +ℤ b +ℤ pos 1 ≡ a +ℤ (b +ℤ pos 1)
        moved a b = omega (arith, ints)

    pub reduced-union_second : (most : ℕ) → 3 * length first.crossings + component_count first.crossings + first.loops ≤ most → (i j : ℤ)
        → reduced_dimension p (union_of first second) (second_mark first second mark) i j
        ≡ product_dimension (length first.crossings) most (dimension p first) (reduced_dimension p second mark) i j
    reduced-union_second most fits i j =
        let turns = AreTurned-cubes p first second first_plus first_minus second_plus second_minus field in
        let kept = λ (x : Generator) (has : Contains (filter (is_reduced second mark) (generators second)) x).
        (Contains-kept (is_reduced second mark) (generators second) x has).0 in
        of-both there i j
        ∙ dimension-alike p (united first second) (λ z. 1) (product_complex p first_cube less)
        (kept_cells there) less-alike
        field (pair-below p first_cube less positive) (λ x y. coefficient-below p both x y field.above_one) i j
        ∙ dimension-product p (length first.crossings) most first_cube less field first-factor less-factor
        (λ x u y v has_x has_u has_y has_v some some_too. turns x u y v has_x has_u (kept y has_y) (kept v has_v) some some_too)
        (λ x has. homological_degree-within first x)
        (λ x has. quantum_degree-within first x most (fits-state first most x first_is fits))
        i j
        ∙ sum_by-alike
        (λ a. sum_by (λ b. dimension p first a b * dimension_at p less.cells (i -ℤ a) (j -ℤ b)) (from_minus most))
        (λ a. sum_by (λ b. dimension p first a b * reduced_dimension p second mark (i -ℤ a) (j -ℤ b)) (from_minus most))
        (λ a.
        sum_by-alike (λ b. dimension p first a b * dimension_at p less.cells (i -ℤ a) (j -ℤ b))
        (λ b. dimension p first a b * reduced_dimension p second mark (i -ℤ a) (j -ℤ b))
        (λ b. ap (λ n. dimension p first a b * n) (sym (reduced-cells_dimension p second mark (i -ℤ a) (j -ℤ b)))) (from_minus most))
        (from_minus (length first.crossings))
