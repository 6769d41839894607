-- Homology over two elements is reduced homology twice, with whatever mark.
use Rattle.std.proofs.Common.{◌≡◌, ◌≢◌, ℕ, zero, suc, inl, inr, ◌+◌, ◌-◌, ◌*◌, ◌≤◌, ◌∙◌, ℤ, pos, negsuc, ◌+ℤ◌, ◌-ℤ◌, List, length, map, sym, ap, ap₂, subst, arith, IsTrue}
use Rattle.std.specs.List.{filter, flat_map}
use Rattle.std.proofs.Math.Path.{fun_ext}
use Rattle.std.proofs.lemmas.Bool.{cases_lt}
use Rattle.std.proofs.lemmas.Int.{ints}
use Rattle.std.proofs.lemmas.List.Elements.{All-filter}
use Rattle.std.proofs.lemmas.List.FromFn.{length-range_with_len}
use Rattle.std.proofs.lemmas.List.Sums.{count_by-le-length, length-filter}
use Rattle.kh_types.specs.Acceptance.{accepted}
use Rattle.kh_types.specs.Bits.{ones}
use Rattle.kh_types.specs.Circles.{circle_count, circles_of}
use Rattle.kh_types.specs.Classes.{is_least}
use Rattle.kh_types.specs.CircleNumbers.{IsName}
use Rattle.kh_types.specs.Code.{Code, arc_count, arcs_and_loops}
use Rattle.kh_types.specs.Differential.{coefficient}
use Rattle.kh_types.specs.Directions.{minus_count, plus_count}
use Rattle.kh_types.specs.Generators.{Generator, generators_at, homological_degree, one_count, quantum_degree}
use Rattle.kh_types.specs.Rank.{rank}
use Rattle.kh_types.specs.Table.{Row, Table, dimension, from_minus, is_shown}
use Rattle.kh_types.specs.declared.limits.TheConstants.{EXPONENT}
use Rattle.kh_types.proofs.Lists.{All-some}
use Rattle.kh_types.proofs.QuantumDegrees.{generators_at-degrees, ones-le}
use Rattle.cell_laws.specs.Cells.{Cells, cells_at, dimension_at, has_both, table_of}
use Rattle.cell_laws.specs.Cubes.{cube_of}
use Rattle.cell_laws.proofs.Members.{filter-exchanged}
use Rattle.reduced_cube.specs.Reduced.{is_reduced, reduced_differential, reduced_dimension, reduced_generators, reduced_rows, reduced_table}
use Rattle.split_laws.specs.Splits.{part_of}
use Rattle.mark_laws.proofs.MarkedHalves.{cube-halves}
use Rattle.split_laws.proofs.Halves.{inverses-two}

abbrev whole_cube : ℕ → Code → Cells Generator
whole_cube p code = cube_of p code (plus_count code.crossings) (minus_count code.crossings)

-- the lower half is the reduced cube
pub dimension-reduced : (p : ℕ) (code : Code) (mark : ℕ) (i j : ℤ)
    → dimension_at p (part_of (whole_cube p code) (is_reduced code mark)) i (j -ℤ pos 1) ≡ reduced_dimension p code mark i j
dimension-reduced p code mark i j =
    let lower = is_reduced code mark in
    let below = j -ℤ pos 1 in
    let lists : ℤ → List Generator = λ d. cells_at (part_of (whole_cube p code) lower) d below in
    let same : (d : ℤ) → lists d ≡ reduced_generators code mark d j =
    λ d. filter-exchanged (has_both (whole_cube p code) d below) lower (whole_cube p code).list in
    let rank_between = λ (tails heads : List Generator). rank p (table_of (coefficient p code) tails heads) in
    ap₂ (λ (m n : ℕ). m - n - rank_between (lists (i -ℤ pos 1)) (lists (i -ℤ pos 1 +ℤ pos 1))) (ap length (same i))
    (ap₂ rank_between (same i) (same (i +ℤ pos 1)))
    ∙ ap (λ (n : ℕ). length (reduced_generators code mark i j) - rank p (reduced_differential p code mark i j) - n)
    (ap₂ rank_between (same (i -ℤ pos 1)) (same (i -ℤ pos 1 +ℤ pos 1)))

pub dimension-twice : (code : Code) (mark : ℕ) (i j : ℤ) → IsTrue (accepted code) → IsName code mark
    → dimension 2 code i j ≡ reduced_dimension 2 code mark i (j -ℤ pos 1) + reduced_dimension 2 code mark i (j +ℤ pos 1)
dimension-twice code mark i j is name =
    let half : ℤ → ℕ = λ d. dimension_at 2 (part_of (whole_cube 2 code) (is_reduced code mark)) i d in
    let down : j -ℤ pos 2 ≡ j -ℤ pos 1 -ℤ pos 1 = omega (arith, ints) in
    let here : j ≡ j +ℤ pos 1 -ℤ pos 1 = omega (arith, ints) in
    cube-halves code is mark name (plus_count code.crossings) (minus_count code.crossings) inverses-two i j
    ∙ ap₂ (λ (m n : ℕ). m + n) (ap half down ∙ dimension-reduced 2 code mark i (j -ℤ pos 1))
    (ap half here ∙ dimension-reduced 2 code mark i (j +ℤ pos 1))

-- far below there is no generator
abbrev depth : Code → ℕ
depth code = arc_count code.crossings + code.loops + 2 * minus_count code.crossings

circle_count-le : (code : Code) (state : ℕ) → circle_count code state ≤ arc_count code.crossings + code.loops
circle_count-le code state =
    omega (
      arith,
      length-filter (is_least (circles_of code state)) (arcs_and_loops code),
      count_by-le-length (is_least (circles_of code state)) (arcs_and_loops code),
      length-range_with_len 1 (arc_count code.crossings + code.loops),
    )

-- a quantum degree is a number of steps above or below minus the depth
quantum-above : (code : Code) (generator : Generator) (m : ℕ) → quantum_degree code generator ≢ pos 0 -ℤ pos (depth code + 1 + m)
quantum-above code generator m same =
    let count = circle_count code generator.state in
    let less = ones count generator.label in
    let more = one_count code generator.state + plus_count code.crossings in
    apart count less more (minus_count code.crossings) (arc_count code.crossings + code.loops) m (ones-le count generator.label)
    (circle_count-le code generator.state) same
  where
    apart : (c o r s n m : ℕ) → o ≤ c → c ≤ n → (pos c -ℤ pos (2 * o)) +ℤ (pos r -ℤ pos (2 * s)) ≡ pos 0 -ℤ pos (n + 2 * s + 1 + m) → ⊥
    apart c o r s n m few fits is = omega (arith, ints, few, fits, is)

reduced-nothing : (p : ℕ) (code : Code) (mark : ℕ) (i j : ℤ) (m : ℕ) → j -ℤ pos 1 ≡ pos 0 -ℤ pos (depth code + 1 + m)
    → reduced_dimension p code mark i j ≡ 0
reduced-nothing p code mark i j m low =
    let all = generators_at code i (j -ℤ pos 1) in
    let degrees = All-filter (is_reduced code mark) (λ g. (homological_degree code g ≡ i) × (quantum_degree code g ≡ j -ℤ pos 1)) all
    (generators_at-degrees code i (j -ℤ pos 1)) in
    elim (cases_lt 0 (length (reduced_generators code mark i j))) [
      | inl some ↦
          let found = All-some (λ g. (homological_degree code g ≡ i) × (quantum_degree code g ≡ j -ℤ pos 1))
          (reduced_generators code mark i j) degrees some in
          absurd (quantum-above code found.0 m (found.1.1 ∙ low))
      | inr none ↦
          fewer (length (reduced_generators code mark i j)) (rank p (reduced_differential p code mark i j))
          (rank p (reduced_differential p code mark (i -ℤ pos 1) j)) none
    ]
  where
    fewer : (n r s : ℕ) → n ≤ 0 → n - r - s ≡ 0
    fewer n r s none = omega (arith, none)

-- the place of a number by steps
record IsSteps (low j : ℤ) : Type 0 where
  up : ℕ
  down : ℕ
  is : j ≡ low +ℤ pos up -ℤ pos down

steps-from : (low j : ℤ) → IsSteps low j
steps-from low j =
    let by = by_sign (j -ℤ low) in
    record { up = by.0; down = by.1; is = found low j by.0 by.1 by.2 }
  where
    by_sign : (d : ℤ) → (up down : ℕ) × (d ≡ pos up -ℤ pos down)
    by_sign (pos n) = (n, 0, omega (arith, ints))
    by_sign (negsuc n) = (0, suc n, omega (arith, ints))

    found : (low j : ℤ) (up down : ℕ) → j -ℤ low ≡ pos up -ℤ pos down → j ≡ low +ℤ pos up -ℤ pos down
    found low j up down is = omega (arith, ints, is)

module _ (code : Code) (first second : ℕ) (is : IsTrue (accepted code)) (first_name : IsName code first) (second_name : IsName code second)
    (i : ℤ) where
  abbrev low : ℤ
  low = pos 0 -ℤ pos (depth code)

  abbrev AreSame : ℤ → Type 0
  AreSame j = reduced_dimension 2 code first i j ≡ reduced_dimension 2 code second i j

  -- from degrees that are 2 lower
  same-later : (j : ℤ) → AreSame (j -ℤ pos 1 -ℤ pos 1) → AreSame j
  same-later j before =
      let up : j -ℤ pos 1 +ℤ pos 1 ≡ j = omega (arith, ints) in
      let one = dimension-twice code first i (j -ℤ pos 1) is first_name in
      let two = dimension-twice code second i (j -ℤ pos 1) is second_name in
      sym (ap (reduced_dimension 2 code first i) up)
      ∙ omega (arith, one, two, before)
      ∙ ap (reduced_dimension 2 code second i) up

  same-steps : (up down : ℕ) → AreSame (low +ℤ pos up -ℤ pos down)
  same-steps zero down =
      let j = low +ℤ pos 0 -ℤ pos down in
      let far : j -ℤ pos 1 ≡ pos 0 -ℤ pos (depth code + 1 + down) = omega (arith, ints) in
      reduced-nothing 2 code first i j down far ∙ sym (reduced-nothing 2 code second i j down far)
  same-steps (suc up) zero =
      let j = low +ℤ pos (suc up) -ℤ pos 0 in
      let lower : low +ℤ pos up -ℤ pos 1 ≡ j -ℤ pos 1 -ℤ pos 1 = omega (arith, ints) in
      same-later j (subst AreSame lower (same-steps up 1))
  same-steps (suc up) (suc down) =
      let same : low +ℤ pos up -ℤ pos down ≡ low +ℤ pos (suc up) -ℤ pos (suc down) = omega (arith, ints) in
      subst AreSame same (same-steps up down)

  pub dimension-any_mark : (j : ℤ) → reduced_dimension 2 code first i j ≡ reduced_dimension 2 code second i j
  dimension-any_mark j =
      let steps = steps-from low j in
      subst AreSame (sym steps.is) (same-steps steps.up steps.down)

abbrev table_by : (ℤ → List Row) → Table
table_by by = record { field = 2; rows = flat_map by (from_minus EXPONENT) }

abbrev row_of : ℤ → ℤ → ℕ → Row
row_of j i d = record { j = j; i = i; dim = d }

pub table-any_mark : (code : Code) (first second : ℕ) → IsTrue (accepted code) → IsName code first → IsName code second
    → reduced_table 2 code first ≡ reduced_table 2 code second
table-any_mark code first second is first_name second_name =
    let rows : (j : ℤ) → reduced_rows 2 code first j ≡ reduced_rows 2 code second j =
    λ j. ap (λ (row : ℤ → Row). filter is_shown (map row (from_minus (length code.crossings))))
    (fun_ext (λ i. ap (λ (d : ℕ). row_of j i d) (dimension-any_mark code first second is first_name second_name i j))) in
    ap (λ (by : ℤ → List Row). table_by by) (fun_ext rows)
