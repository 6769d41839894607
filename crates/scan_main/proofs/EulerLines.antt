-- The rows of the table of a diagram are small, and its Euler characteristic has the Jones line.
use Rattle.std.proofs.Common.{◌≡◌, ℕ, ◌+◌, ◌*◌, ◌<◌, ◌≤◌, ◌^◌, ◌∙◌, ℤ, pos, ◌-ℤ◌, List, [], ◌∷◌, length, map, ap, get_or, inl, inr, refl, subst, sym, arith}
use Rattle.std.specs.List.{All, filter, flat_map, sum_by}
use Rattle.std.specs.Prelude.{IsTrue}
use Rattle.std.proofs.Math.Nat.{mul-le-mul_left}
use Rattle.std.proofs.lemmas.List.{length-append, length-map}
use Rattle.std.proofs.lemmas.List.FromFn.{length-map-range_with_len}
use Rattle.std.proofs.lemmas.List.Sums.{count_by-le-length, length-filter, sum_by-le}
use Rattle.prime_field.specs.Residues.{IsSmallPrime}
use Rattle.prime_field.specs.Sizes.{field_size}
use Rattle.prime_field.specs.declared.size.Elements.{Elements}
use Rattle.prime_field.specs.declared.size.Elements.TheVariants.{Two, Three, Five, Seven}
use Rattle.kh_types.specs.Acceptance.{accepted}
use Rattle.kh_types.specs.Accepted.{IsAccepted}
use Rattle.kh_types.specs.Code.{Code}
use Rattle.kh_types.specs.Generators.{generators, generators_at, has_degrees}
use Rattle.kh_types.specs.StateSum.{euler, polynomial_text, state_sum}
use Rattle.kh_types.specs.Table.{Row, dimension, from_minus, is_shown, row_at, rows_at, rows_within, table}
use Rattle.kh_types.specs.declared.limits.TheConstants.{CIRCLES, CROSSINGS, EXPONENT}
use Rattle.kh_types.proofs.AcceptedLemmas.{IsAccepted-is}
use Rattle.kh_types.proofs.QuantumDegrees.{generators_at-within}
use Rattle.kh_types.proofs.TableRows.{rows_within-are}
use Rattle.circle_smoothing.proofs.GeneratorLemmas.{generator_count-le, length-generators}
use Rattle.jones_sum.specs.Coefficients.{coefficient_in, coefficients_of}
use Rattle.jones_sum.proofs.CoefficientLemmas.{polynomial_text-agree, polynomial_text-coefficients_of}
use Rattle.euler_laws.proofs.TableSums.{sum-table}
use Rattle.kh_runs.specs.Homology.{jones_line}
use Rattle.scan_main.specs.SmallRows.{IsSmallRow}

-- the rows of a table are small

generators_at-few : (code : Code) (i j : ℤ) → IsAccepted code → length code.crossings ≤ CROSSINGS
    → length (generators_at code i j) ≤ 2 ^ 68
generators_at-few code i j is few =
    let all = generators code in
    let most : 2 ^ (CROSSINGS + CIRCLES) ≤ 2 ^ 68 = omega arith in
    let counted : length all ≤ 2 ^ 68 = subst (λ (n : ℕ). n ≤ 2 ^ 68) (sym (length-generators code)) (trans-le (generator_count-le code is few) most) in
    omega (arith, length-filter (has_degrees code i j) all, count_by-le-length (has_degrees code i j) all, counted)
  where
    trans-le : {a b c : ℕ} → a ≤ b → b ≤ c → a ≤ c
    trans-le first second = omega (arith, first, second)

IsSmallRow-at : (p : ℕ) (code : Code) (row : Row) → IsAccepted code → length code.crossings ≤ CROSSINGS
    → (0 < row.dim) × (row ≡ row_at p code row.j row.i) → IsSmallRow row
IsSmallRow-at p code row is few (some, same) =
    let dim : row.dim ≡ dimension p code row.i row.j = ap (λ (r : Row). r.dim) same in
    let inhabited : 0 < length (generators_at code row.i row.j) = omega (arith, some, dim) in
    record {
      j = (generators_at-within code row.i row.j is few inhabited).1;
      few = omega (arith, dim, generators_at-few code row.i row.j is few);
    }

pub AreSmall-table : (p : ℕ) (code : Code) → IsTrue (accepted code) → length code.crossings ≤ CROSSINGS
    → All IsSmallRow (table p code).rows
AreSmall-table p code is few k d below =
    IsSmallRow-at p code (get_or (rows_within EXPONENT p code) k d) ((IsAccepted-is code).0 is) few (rows_within-are EXPONENT p code k d below)

-- there are few rows: at most 41 of each quantum degree, of which there are 177

length-degree : (p : ℕ) (code : Code) (j : ℤ) → length code.crossings ≤ CROSSINGS → length (rows_at p code j) ≤ 41
length-degree p code j few =
    let n = length code.crossings in
    let all = map (row_at p code j) (from_minus n) in
    omega (
      arith,
      few,
      length-filter is_shown all,
      count_by-le-length is_shown all,
      length-map (from_minus n) (row_at p code j),
      length-map-range_with_len (λ k. pos k -ℤ pos n) 0 (2 * n + 1),
    )

length-degrees : (p : ℕ) (code : Code) (degrees : List ℤ) → length code.crossings ≤ CROSSINGS
    → length (flat_map (rows_at p code) degrees) ≤ 41 * length degrees
length-degrees p code [] few = omega arith
length-degrees p code (j ∷ degrees) few =
    omega (
      arith,
      length-append (rows_at p code j) (flat_map (rows_at p code) degrees),
      length-degree p code j few,
      length-degrees p code degrees few,
    )

pub AreFew-table : (p : ℕ) (code : Code) → length code.crossings ≤ CROSSINGS → length (table p code).rows ≤ 2 ^ 16
AreFew-table p code few =
    omega (
      arith,
      length-degrees p code (from_minus EXPONENT) few,
      length-map-range_with_len (λ k. pos k -ℤ pos EXPONENT) 0 (2 * EXPONENT + 1),
    )

-- an element of small rows, and the sum of all their dimensions

pub IsSmallRow-item : (rows : List Row) (row : Row) (k : ℕ) → All IsSmallRow rows → k < length rows → row ≡ get_or rows k row → IsSmallRow row
IsSmallRow-item rows row k are below is = subst IsSmallRow (sym is) (are k row below)

pub sum-small : (rows : List Row) → All IsSmallRow rows → length rows ≤ 2 ^ 16 → sum_by (λ row. row.dim) rows ≤ 2 ^ 84
sum-small rows are short =
    omega (
      arith,
      sum_by-le (λ row. row.dim) (2 ^ 68) rows (λ k d below. (are k d below).few),
      mul-le-mul_left (2 ^ 68) short,
    )

-- the size of a field is a small prime

pub IsSmallPrime-field_size : (elements : Elements) → IsSmallPrime (field_size elements)
IsSmallPrime-field_size Two = inl refl
IsSmallPrime-field_size Three = inr (inl refl)
IsSmallPrime-field_size Five = inr (inr (inl refl))
IsSmallPrime-field_size Seven = inr (inr (inr refl))

-- the line of the coefficients of the Euler characteristic
pub euler-line : (p : ℕ) (code : Code) → IsSmallPrime p → IsTrue (accepted code) → length code.crossings ≤ CROSSINGS
    → polynomial_text (coefficient_in (coefficients_of (euler (table p code)))) ≡ jones_line code
unfolding jones_line
euler-line p code prime is few =
    polynomial_text-coefficients_of (euler (table p code))
    ∙ polynomial_text-agree (euler (table p code)) (state_sum code) (λ exponent within. sym (sum-table p code prime is few exponent))
