-- The rows of a reduced table stand block by block.
use Rattle.std.proofs.Common.{◌≡◌, ℕ, ◌≤◌, ◌∙◌, List, [], ◌∷◌, inl, inr, length, ap, refl, sym, arith, ℤ, pos, ◌-ℤ◌, Bool, true, false, cond, ◌&&◌}
use Rattle.std.specs.List.{filter, flat_map}
use Rattle.std.specs.Ordering.{int_eq}
use Rattle.std.proofs.lemmas.Bool.{cases_Bool}
use Rattle.std.proofs.lemmas.List.Sums.{count_by-le-length, length-filter}
use Rattle.prime_field.specs.Residues.{IsSmallPrime}
use Rattle.kh_types.specs.declared.limits.TheConstants.{CROSSINGS, EXPONENT}
use Rattle.kh_types.specs.Code.{Code}
use Rattle.kh_types.specs.Generators.{generators, generators_at, has_degrees, homological_degree, quantum_degree}
use Rattle.kh_types.specs.Table.{Row}
use Rattle.kh_types.proofs.FilteredLists.{filter-unless_any}
use Rattle.circle_smoothing.specs.GeneratorCounts.{generator_count}
use Rattle.circle_smoothing.specs.declared.limits.TheConstants.{GENERATORS}
use Rattle.homology_tables.specs.Tables.{IsTable}
use Rattle.homology_tables.proofs.BlockTables as tables
use Rattle.homology_tables.proofs.TableLemmas.{IsTable-dims}
use Rattle.cube_signs.proofs.GeneratorPlaces.{length-generators_at}
use Rattle.reduced_cube.specs.Reduced.{has_reduced, is_reduced, reduced_degrees, reduced_dimension, reduced_generators, reduced_rows, reduced_table}

filter-filter : {X : Type 0} (p q : X → Bool) (xs : List X) → filter q (filter p xs) ≡ filter (λ x. p x && q x) xs
filter-filter p q [] = refl
filter-filter {X} p q (x ∷ xs) = elim (cases_Bool (p x)) [
  | inl passes ↦
      ap (λ b. filter q (cond b (x ∷ filter p xs) (filter p xs))) passes
      ∙ ap (λ (ys : List X). cond (q x) (x ∷ ys) ys) (filter-filter p q xs)
      ∙ sym (ap (λ b. cond (b && q x) (x ∷ filter (λ y. p y && q y) xs) (filter (λ y. p y && q y) xs)) passes)
  | inr fails ↦
      ap (λ b. filter q (cond b (x ∷ filter p xs) (filter p xs))) fails ∙ filter-filter p q xs
      ∙ sym (ap (λ b. cond (b && q x) (x ∷ filter (λ y. p y && q y) xs) (filter (λ y. p y && q y) xs)) fails)
]

reduced-none : (code : Code) (mark : ℕ) (i j : ℤ) → has_reduced code mark j ≡ false → reduced_generators code mark i j ≡ []
reduced-none code mark i j none =
    filter-filter (has_degrees code i (j -ℤ pos 1)) (is_reduced code mark) (generators code)
    ∙ filter-unless_any (λ g. int_eq (quantum_degree code g) (j -ℤ pos 1) && is_reduced code mark g)
    (λ g. has_degrees code i (j -ℤ pos 1) g && is_reduced code mark g) (generators code)
    (λ g fails. still_fails (int_eq (homological_degree code g) i) (int_eq (quantum_degree code g) (j -ℤ pos 1)) (is_reduced code mark g)
    fails) none
  where
    still_fails : (a b c : Bool) → (b && c) ≡ false → (a && b && c) ≡ false
    still_fails true b c fails = fails
    still_fails false b c fails = refl

reduced_dimension-le : (p : ℕ) (code : Code) (mark : ℕ) (i j : ℤ) → generator_count code ≤ GENERATORS
    → reduced_dimension p code mark i j ≤ GENERATORS
reduced_dimension-le p code mark i j size =
    let all = generators_at code i (j -ℤ pos 1) in
    omega (
      arith,
      length-filter (is_reduced code mark) all,
      count_by-le-length (is_reduced code mark) all,
      length-generators_at code i (j -ℤ pos 1) size,
    )

dimension-none : (p : ℕ) (code : Code) (mark : ℕ) (i j : ℤ) → has_reduced code mark j ≡ false → reduced_dimension p code mark i j ≡ 0
dimension-none p code mark i j none = omega (arith, ap length (reduced-none code mark i j none))

module _ (p : ℕ) (code : Code) (mark : ℕ) where
  -- the dimensions, by both degrees
  abbrev dims : ℤ → ℤ → ℕ
  dims i j = reduced_dimension p code mark i j

  -- other reduced quantum degrees have no rows
  pub rows-none : (j : ℤ) → has_reduced code mark j ≡ false → reduced_rows p code mark j ≡ []
  rows-none j none = tables.rows-none (length code.crossings) dims (has_reduced code mark) (dimension-none p code mark) j none

  pub rows-blocks : (reduced_table p code mark).rows ≡ flat_map (reduced_rows p code mark) (reduced_degrees code mark)
  unfolding reduced_degrees
  rows-blocks = tables.rows-blocks (length code.crossings) dims (has_reduced code mark) (dimension-none p code mark) EXPONENT

  pub table-whole : (field : ℕ) (rows : List Row) → field ≡ p
      → rows ≡ flat_map (reduced_rows p code mark) (reduced_degrees code mark) → tables.table_with field rows ≡ reduced_table p code mark
  unfolding reduced_degrees
  table-whole field rows is_field is_rows =
      tables.table-whole (length code.crossings) dims (has_reduced code mark) (dimension-none p code mark) p field rows is_field is_rows

  pub IsTable-reduced : length code.crossings ≤ CROSSINGS → generator_count code ≤ GENERATORS → IsSmallPrime p
      → IsTable (reduced_table p code mark)
  IsTable-reduced few size = IsTable-dims p (length code.crossings) dims few (λ i j. reduced_dimension-le p code mark i j size)
