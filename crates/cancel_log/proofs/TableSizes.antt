-- The text of a homology table is short.
use Rattle.std.proofs.Common.{◌≡◌, ℕ, ◌+◌, ◌*◌, ◌^◌, ◌<◌, ◌≤◌, List, [], ◌∷◌, ◌++◌, length, map, get_or, ap, arith, ℤ, IsTrue, codes}
use Rattle.std.specs.Prelude.{All}
use Rattle.std.specs.Fmt.{decimal, signed_decimal}
use Rattle.std.specs.List.{AllByRecursion, flat_map}
use Rattle.std.proofs.lemmas.Fmt.{length-decimal-le}
use Rattle.std.proofs.lemmas.List.{length-append, length-map}
use Rattle.std.proofs.lemmas.List.Concat.{length-flat_map}
use Rattle.std.proofs.lemmas.List.Elements.{recursion_from_All}
use Rattle.std.proofs.lemmas.List.Sums.{sum_by-le}
use Rattle.kh_types.specs.Acceptance.{accepted}
use Rattle.kh_types.specs.Code.{Code}
use Rattle.kh_types.specs.Table.{Row, dimension, from_minus, is_shown, row_at, row_text, rows_at, rows_within, table, table_text}
use Rattle.kh_types.specs.declared.limits.TheConstants.{CROSSINGS, EXPONENT}
use Rattle.kh_types.proofs.AcceptedLemmas.{IsAccepted-is}
use Rattle.kh_types.proofs.QuantumDegrees.{generators_at-within}
use Rattle.kh_types.proofs.TableRows.{rows_within-are}
use Rattle.circle_smoothing.specs.GeneratorCounts.{generator_count}
use Rattle.circle_smoothing.specs.declared.limits.TheConstants.{GENERATORS}
use Rattle.cancel_log.specs.LogLines.{IsShortDegree}
use Rattle.cancel_log.specs.declared.limits.TheConstants.{PLACE_DIGITS}
use Rattle.cancel_log.proofs.PrintedDiagrams.{length-signed}
use Rattle.cancel_log.proofs.ShortBlocks.{filter-le, short-within}
use Rattle.square_laws.proofs.BlockDegrees.{length-from_minus}
use Rattle.cube_signs.proofs.GeneratorPlaces.{length-generators_at}

-- the lengths of texts

-- two texts, one behind the other
pub append-le : (xs ys : List ℕ) (m n : ℕ) → length xs ≤ m → length ys ≤ n → length (xs ++ ys) ≤ m + n
append-le xs ys m n first second = omega (arith, first, second, length-append xs ys)

-- the print of a degree of a line has a sign and three digits at most
pub degree-le : (z : ℤ) → IsShortDegree z → length (signed_decimal z) ≤ 4
degree-le z short = length-signed z (omega (arith, short))

-- that of a column or a row has seven digits at most
pub place-le : (n : ℕ) → n < 10 ^ PLACE_DIGITS → length (decimal n) ≤ 7
place-le n short = length-decimal-le 7 n (omega arith) (omega (arith, short)) (omega (arith, short))

-- rows

-- the degrees of a row have at most three digits, and its dimension at most seven
record IsShortRow (row : Row) : Type 0 where
  j : IsShortDegree row.j
  i : IsShortDegree row.i
  dim : row.dim < 10 ^ PLACE_DIGITS

-- so the line of such a row has 26 bytes at most
row_text-le : (row : Row) → IsShortRow row → length (row_text row) ≤ 26
row_text-le row short =
    let dim = codes " dim " ++ (decimal row.dim ++ codes "\n") in
    omega (
      arith,
      degree-le row.j short.j,
      degree-le row.i short.i,
      place-le row.dim short.dim,
      length-append (signed_decimal row.j) (codes " i " ++ (signed_decimal row.i ++ dim)),
      length-append (signed_decimal row.i) dim,
      length-append (decimal row.dim) (codes "\n"),
    )

-- and so has each of such rows
rows_text-le : (rows : List Row) → AllByRecursion IsShortRow rows → length (flat_map row_text rows) ≤ 26 * length rows
rows_text-le [] short = omega arith
rows_text-le (row ∷ rows) (one, short) =
    omega (arith, append-le (row_text row) (flat_map row_text rows) 26 (26 * length rows) (row_text-le row one) (rows_text-le rows short))

-- a row with a dimension above 0 is one of degrees that have a generator
short-row : (p : ℕ) (code : Code) (row : Row) → IsTrue (accepted code) → length code.crossings ≤ CROSSINGS
    → generator_count code ≤ GENERATORS → 0 < row.dim → row ≡ row_at p code row.j row.i → IsShortRow row
short-row p code row is few size above same =
    let dim : row.dim ≡ dimension p code row.i row.j = ap (λ (r : Row). r.dim) same in
    let within = generators_at-within code row.i row.j ((IsAccepted-is code).0 is) few (omega (arith, above, dim)) in
    record {
      j = short-within EXPONENT row.j within.1 (omega arith);
      i = short-within (length code.crossings) row.i within.0 (omega (arith, few));
      dim = omega (arith, dim, length-generators_at code row.i row.j size);
    }

-- how many rows there are

-- the rows of a quantum degree: one for each homological degree at most
rows_at-le : (p : ℕ) (code : Code) (j : ℤ) → length code.crossings ≤ CROSSINGS → length (rows_at p code j) ≤ 41
rows_at-le p code j few =
    let is = from_minus (length code.crossings) in
    omega (
      arith,
      few,
      filter-le is_shown (map (row_at p code j) is),
      length-map is (row_at p code j),
      length-from_minus (length code.crossings),
    )

-- the rows of quantum degrees up to a size
rows_within-le : (p : ℕ) (code : Code) (most : ℕ) → length code.crossings ≤ CROSSINGS
    → length (rows_within most p code) ≤ (2 * most + 1) * 41
rows_within-le p code most few =
    omega (
      arith,
      length-flat_map (rows_at p code) (from_minus most),
      sum_by-le (λ j. length (rows_at p code j)) 41 (from_minus most) (λ k d below. rows_at-le p code (get_or (from_minus most) k d) few),
      length-from_minus most,
    )

-- the text of a table of a diagram within the limits has 190,000 bytes at most
pub table_text-le : (p : ℕ) (code : Code) → p < 10 ^ PLACE_DIGITS → IsTrue (accepted code) → length code.crossings ≤ CROSSINGS
    → generator_count code ≤ GENERATORS → length (table_text (table p code)) ≤ 190000
table_text-le p code small is few size =
    let rows = rows_within EXPONENT p code in
    let short : All IsShortRow rows = λ k d below.
    let are = rows_within-are EXPONENT p code k d below in short-row p code (get_or rows k d) is few size are.0 are.1 in
    omega (
      arith,
      length-append (decimal p) (codes "\n" ++ flat_map row_text rows),
      place-le p small,
      rows_text-le rows (recursion_from_All IsShortRow rows short),
      rows_within-le p code EXPONENT few,
    )
