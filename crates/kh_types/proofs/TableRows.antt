-- A table has each row with a dimension above 0, and no other.
use Rattle.std.proofs.Common.{◌≡◌, ℕ, ◌≤◌, ◌<◌, ℤ, refl, length, map, get_or, arith}
use Rattle.std.specs.List.{All, Contains}
use Rattle.std.proofs.lemmas.Bool.{lt-ltb, ltb-true}
use Rattle.std.proofs.lemmas.List.Elements.{All-map, All-filter, filter_passes}
use Rattle.kh_types.specs.declared.limits.TheConstants.{CROSSINGS, EXPONENT}
use Rattle.kh_types.specs.Code.{Code}
use Rattle.kh_types.specs.Generators.{generators_at}
use Rattle.kh_types.specs.Accepted.{IsAccepted}
use Rattle.kh_types.specs.Table.{Row, IsWithin, from_minus, dimension, row_at, is_shown, rows_at, rows_within, table}
use Rattle.kh_types.proofs.Lists.{Contains-map, Contains-filter, Contains-flat_map, All-flat_map}
use Rattle.kh_types.proofs.QuantumDegrees.{generators_at-within}

-- the rows of degrees within bounds
pub Contains-rows_within : (most p : ℕ) (code : Code) (i j : ℤ) → IsWithin (length code.crossings) i → IsWithin most j
    → 0 < dimension p code i j → Contains (rows_within most p code) (row_at p code j i)
Contains-rows_within most p code i j i_within j_within above =
    Contains-flat_map (rows_at p code) (from_minus most) j (row_at p code j i) j_within
    (Contains-filter is_shown (map (row_at p code j) (from_minus (length code.crossings))) (row_at p code j i)
    (lt-ltb 0 (dimension p code i j) above)
    (Contains-map (row_at p code j) (from_minus (length code.crossings)) i i_within))

-- each row with a dimension above 0 has its degrees within the bounds
pub Contains-table : (p : ℕ) (code : Code) (i j : ℤ) → IsAccepted code → length code.crossings ≤ CROSSINGS
    → 0 < dimension p code i j → Contains (table p code).rows (row_at p code j i)
Contains-table p code i j is few above =
    let some : 0 < length (generators_at code i j) = omega arith in
    let within = generators_at-within code i j is few some in
    Contains-rows_within EXPONENT p code i j within.0 within.1 above

-- each row of a table is one of its degrees, and has a dimension above 0

rows_at-is : (p : ℕ) (code : Code) (j : ℤ)
    → All (λ row. (0 < row.dim) × (row ≡ row_at p code row.j row.i)) (rows_at p code j)
rows_at-is p code j = λ k d below.
    let rows = map (row_at p code j) (from_minus (length code.crossings)) in
    let Same : Row → Type 0 = λ row. row ≡ row_at p code row.j row.i in
    let row = get_or (rows_at p code j) k d in (
      ltb-true 0 row.dim (filter_passes is_shown rows k d below),
      All-filter is_shown Same rows
          (All-map Same (row_at p code j) (from_minus (length code.crossings)) (λ place i within. refl)) k d below,
    )

pub rows_within-are : (most p : ℕ) (code : Code)
    → All (λ row. (0 < row.dim) × (row ≡ row_at p code row.j row.i)) (rows_within most p code)
rows_within-are most p code =
    All-flat_map (λ row. (0 < row.dim) × (row ≡ row_at p code row.j row.i)) (rows_at p code) (from_minus most) (rows_at-is p code)
