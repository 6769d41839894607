-- The rows of tables: how many there are, and those of diagrams. The pairs of degrees within the limits are numbered, by the
-- quantum degree and then by the homological degree. Along the rows of a table these numbers rise, so there are no more rows than
-- pairs; this bounds the sum of all dimensions too. Then, the rows made of any dimensions that are small enough are a table:
-- those of one quantum degree ascend by the homological degree, those of later quantum degrees stand behind (by induction), and
-- each row is within the limits. A diagram's dimensions are at most the number of its generators; so its table is one.
use Rattle.std.proofs.Common.{◌≡◌, ℕ, zero, suc, ◌+◌, ◌-◌, ◌*◌, ◌<◌, ◌≤◌, ◌∙◌, List, [], ◌∷◌, ◌++◌, map, length, get_or, ap, sym, subst, refl, inl, inr, arith, true, ℤ, pos, ◌+ℤ◌, ◌-ℤ◌}
use Rattle.std.specs.Prelude.{nat_lt, unsigned_abs, ◌≤ℤ◌}
use Rattle.std.specs.List.{All, AllPairs, filter, flat_map, range_with_len}
use Rattle.std.proofs.lemmas.Bool.{cases_lt}
use Rattle.std.proofs.lemmas.Bool.Decides.{nat_tests}
use Rattle.std.proofs.lemmas.Int.{ints}
use Rattle.std.proofs.lemmas.List.{get_or_append_left, get_or-append_right, get_or_default, length-append, length-map}
use Rattle.std.proofs.lemmas.List.Elements.{All-append, All-nil, All-map, All-filter, All-weaker, filter_passes}
use Rattle.std.proofs.lemmas.List.FromFn.{length-map-range_with_len}
use Rattle.std.proofs.lemmas.List.Kept.{AllPairs-filter}
use Rattle.std.proofs.lemmas.List.Sums.{sum_by-le, count_by-le-length, length-filter}
use Rattle.std.proofs.Math.Nat.{mul-le-mul_left}
use Rattle.prime_field.specs.Residues.{IsSmallPrime}
use Rattle.kh_types.specs.declared.limits.TheConstants.{CROSSINGS, EXPONENT}
use Rattle.kh_types.specs.Code.{Code}
use Rattle.kh_types.specs.Generators.{generators, has_degrees}
use Rattle.kh_types.specs.Table.{Row, Table, IsWithin, from_minus, dimension, is_shown, table}
use Rattle.kh_types.proofs.QuantumDegrees.{IsWithin-place, place-IsWithin, get_or-map-from_minus}
use Rattle.kh_types.proofs.RowSums.{row_by, rows_by}
use Rattle.circle_smoothing.specs.declared.limits.TheConstants.{GENERATORS}
use Rattle.circle_smoothing.specs.GeneratorCounts.{generator_count}
use Rattle.circle_smoothing.proofs.GeneratorLemmas.{length-generators}
use Rattle.homology_tables.specs.Tables.{IsRow, IsBefore, IsTable, total_of}

-- how many rows there are: the pairs of degrees are numbered, by j, then by i

number : Row → ℕ
number row = unsigned_abs (row.j +ℤ pos EXPONENT) * (2 * CROSSINGS + 1) + unsigned_abs (row.i +ℤ pos CROSSINGS)

-- a degree, counted from the least
place_of : ℕ → ℤ → ℕ
place_of n i = unsigned_abs (i +ℤ pos n)

place_of-within : (n : ℕ) (i : ℤ) → IsWithin n i → (place_of n i ≤ 2 * n) × (i +ℤ pos n ≡ pos (place_of n i))
unfolding place_of
place_of-within n i within =
    let found = place-IsWithin n i within in
    let e : i +ℤ pos n ≡ pos found.0 = omega (arith, ints, found.2) in
    let same : unsigned_abs (i +ℤ pos n) ≡ found.0 = ap unsigned_abs e in
    (omega (arith, found.1, same), e ∙ ap pos (sym same))

number-below : (row : Row) → IsRow row → number row < (2 * EXPONENT + 1) * (2 * CROSSINGS + 1)
unfolding number place_of
number-below row is =
    omega (arith, (place_of-within EXPONENT row.j is.j).0, (place_of-within CROSSINGS row.i is.i).0)

number-rises : (row other : Row) → IsRow row → IsRow other → IsBefore row other → number row < number other
unfolding number place_of
number-rises row other is other_is before =
    let j = place_of-within EXPONENT row.j is.j in
    let i = place_of-within CROSSINGS row.i is.i in
    let other_j = place_of-within EXPONENT other.j other_is.j in
    let other_i = place_of-within CROSSINGS other.i other_is.i in
    elim before [
      | inl less ↦
          let e : place_of EXPONENT row.j < place_of EXPONENT other.j = omega (arith, ints, less, j.1, other_j.1) in
          omega (arith, e, i.0)
      | inr last ↦
          let same : place_of EXPONENT row.j ≡ place_of EXPONENT other.j = ap (place_of EXPONENT) last.0 in
          let e : place_of CROSSINGS row.i < place_of CROSSINGS other.i = omega (arith, ints, last.1, i.1, other_i.1) in
          omega (arith, e, same)
    ]

number-from_place : (rows : List Row) (d : Row) → All IsRow rows → AllPairs IsBefore rows → (k : ℕ) → k < length rows
    → k ≤ number (get_or rows k d)
number-from_place rows d are ascend zero below = omega arith
number-from_place rows d are ascend (suc k) below =
    let here : k < length rows = omega (arith, below) in
    omega (
      arith,
      number-from_place rows d are ascend k here,
      number-rises (get_or rows k d) (get_or rows (suc k) d) (are k d here) (are (suc k) d below)
          (ascend k (suc k) d (omega arith) below),
    )

pub length-rows : (rows : List Row) → All IsRow rows → AllPairs IsBefore rows → length rows ≤ (2 * EXPONENT + 1) * (2 * CROSSINGS + 1)
length-rows [] are ascend = omega arith
length-rows (row ∷ rows) are ascend =
    let last = length rows in
    let below : last < length (row ∷ rows) = omega arith in
    omega (
      arith,
      number-from_place (row ∷ rows) row are ascend last below,
      number-below (get_or (row ∷ rows) last row) (are last row below),
    )

pub total_of-le : (homology : Table) → IsTable homology → total_of homology ≤ GENERATORS * ((2 * EXPONENT + 1) * (2 * CROSSINGS + 1))
total_of-le homology is =
    let rows = homology.rows in
    omega (
      arith,
      sum_by-le (λ row. row.dim) GENERATORS rows (λ k d below. (is.rows k d below).few),
      mul-le-mul_left GENERATORS (length-rows rows is.rows is.ascending),
    )

-- what is within a bound is within a greater one

pub IsWithin-le : (n m : ℕ) (i : ℤ) → n ≤ m → IsWithin n i → IsWithin m i
IsWithin-le n m i few within =
    let place = place-IsWithin n i within in
    IsWithin-place m (place.0 + m - n) i (omega (arith, place.1, few)) (omega (arith, ints, place.2, few))

dimension-le : (p : ℕ) (code : Code) (i j : ℤ) → dimension p code i j ≤ generator_count code
dimension-le p code i j =
    let all = generators code in
    omega (
      arith,
      length-filter (has_degrees code i j) all,
      count_by-le-length (has_degrees code i j) all,
      length-generators code,
    )

-- the rows of some dimensions ascend

-- a list behind another, where each element of the one is related to each of the other
pub AllPairs-append : {X : Type 0} (R : X → X → Type 0) (xs ys : List X) → AllPairs R xs → AllPairs R ys
    → ((k l : ℕ) (d : X) → k < length xs → l < length ys → R (get_or xs k d) (get_or ys l d)) → AllPairs R (xs ++ ys)
AllPairs-append R xs ys first second across i j d less below =
    let n = length xs in
    let size : length (xs ++ ys) ≡ n + length ys = length-append xs ys in
    elim (cases_lt j n) [
      | inl j_first ↦
          let i_first : i < n = omega (arith, less, j_first) in
          rw (get_or_append_left xs ys d i i_first, get_or_append_left xs ys d j j_first) (first i j d less j_first)
      | inr j_second ↦
          let j_below : j - n < length ys = omega (arith, below, size, j_second) in
          let at_j : get_or (xs ++ ys) j d ≡ get_or ys (j - n) d = get_or-append_right xs ys n j d refl j_second in
          elim (cases_lt i n) [
            | inl i_first ↦ rw (get_or_append_left xs ys d i i_first, at_j) (across i (j - n) d i_first j_below)
            | inr i_second ↦
                rw (get_or-append_right xs ys n i d refl i_second, at_j) (second (i - n) (j - n) d (omega arith) j_below)
          ]
    ]

AllPairs-row_by : (dims : ℤ → ℤ → ℕ) (j : ℤ) (n : ℕ) → AllPairs IsBefore (map (row_by dims j) (from_minus n))
AllPairs-row_by dims j n a b d less below =
    let size : length (map (row_by dims j) (from_minus n)) ≡ 2 * n + 1 =
    length-map (from_minus n) (row_by dims j) ∙ length-map-range_with_len (λ k. pos k -ℤ pos n) 0 (2 * n + 1) in
    rw (
      get_or-map-from_minus (row_by dims j) n a d (omega (arith, less, below, size)),
      get_or-map-from_minus (row_by dims j) n b d (omega (arith, below, size)),
    ) (inr (refl, omega (arith, ints, less)))

rows_by-j : (n : ℕ) (dims : ℤ → ℤ → ℕ) (j : ℤ) → All (λ row. row.j ≡ j) (rows_by n dims j)
rows_by-j n dims j =
    All-filter is_shown (λ row. row.j ≡ j) (map (row_by dims j) (from_minus n))
    (All-map (λ row. row.j ≡ j) (row_by dims j) (from_minus n) (λ place i within. refl))

-- the rows of some quantum degrees that follow one another
abbrev rows_from : ℕ → ℕ → (ℤ → ℤ → ℕ) → ℕ → ℕ → List Row
rows_from most n dims a count = flat_map (rows_by n dims) (map (λ k. pos k -ℤ pos most) (range_with_len a count))

ascending-from : (most n : ℕ) (dims : ℤ → ℤ → ℕ) (a count : ℕ) → AllPairs IsBefore (rows_from most n dims a count)
    × All (λ row. (pos a -ℤ pos most) ≤ℤ row.j) (rows_from most n dims a count)
ascending-from most n dims a zero =
    ((λ i j d less below. absurd (omega (arith, below))), All-nil (λ row. (pos a -ℤ pos most) ≤ℤ row.j))
ascending-from most n dims a (suc count) =
    let j : ℤ = pos a -ℤ pos most in
    let first : List Row = rows_by n dims j in
    let later : List Row = rows_from most n dims (a + 1) count in
    let known = ascending-from most n dims (a + 1) count in (
      AllPairs-append IsBefore first later
          (AllPairs-filter IsBefore is_shown (map (row_by dims j) (from_minus n)) (AllPairs-row_by dims j n)) known.0
          (λ k l d k_below l_below.
          inl (omega (arith, ints, rows_by-j n dims j k d k_below, known.1 l d l_below))),
      All-append (λ row. j ≤ℤ row.j) first later
          (All-weaker (λ row. row.j ≡ j) (λ row. j ≤ℤ row.j) (λ row same. omega (arith, ints, same)) first (rows_by-j n dims j))
          (All-weaker (λ row. (pos (a + 1) -ℤ pos most) ≤ℤ row.j) (λ row. j ≤ℤ row.j) (λ row above. omega (arith, ints, above)) later
          known.1),
    )

-- the rows are within the limits

some-dimension : (dim : ℕ) → nat_lt 0 dim ≡ true → 1 ≤ dim
some-dimension dim shown = grind (arith, nat_tests)

IsRow-rows_by : (n : ℕ) (dims : ℤ → ℤ → ℕ) (j : ℤ) → n ≤ CROSSINGS → IsWithin EXPONENT j → ((i : ℤ) → dims i j ≤ GENERATORS)
    → All IsRow (rows_by n dims j)
IsRow-rows_by n dims j few within small k d below =
    let is = from_minus n in
    let rows = map (row_by dims j) is in
    let IsPart : Row → Type 0 = λ row. IsWithin EXPONENT row.j × IsWithin CROSSINGS row.i × (row.dim ≤ GENERATORS) in
    let parts : All IsPart rows =
    All-map IsPart (row_by dims j) is
    (λ place e place_below. (
      within,
      IsWithin-le n CROSSINGS (get_or is place e) few (place, place_below, get_or_default is place (get_or is place e) e place_below),
      small (get_or is place e),
    )) in
    let part = All-filter is_shown IsPart rows parts k d below in
    record {
      j = part.0;
      i = part.1;
      some = some-dimension (get_or (filter is_shown rows) k d).dim (filter_passes is_shown rows k d below);
      few = part.2;
    }

IsRow-from : (most n : ℕ) (dims : ℤ → ℤ → ℕ) (a count : ℕ) → most ≡ EXPONENT → a + count ≡ 2 * most + 1 → n ≤ CROSSINGS
    → ((i j : ℤ) → dims i j ≤ GENERATORS) → All IsRow (rows_from most n dims a count)
IsRow-from most n dims a zero is_most all few small = All-nil IsRow
IsRow-from most n dims a (suc count) is_most all few small =
    let j : ℤ = pos a -ℤ pos most in
    let within : IsWithin EXPONENT j =
    subst (λ (m : ℕ). IsWithin m j) is_most (IsWithin-place most a j (omega (arith, all)) refl) in
    All-append IsRow (rows_by n dims j) (rows_from most n dims (a + 1) count)
    (IsRow-rows_by n dims j few within (λ i. small i j))
    (IsRow-from most n dims (a + 1) count is_most (omega (arith, all)) few small)

-- the table of some dimensions
pub IsTable-dims : (p n : ℕ) (dims : ℤ → ℤ → ℕ) → n ≤ CROSSINGS → ((i j : ℤ) → dims i j ≤ GENERATORS) → IsSmallPrime p
    → IsTable (record { field = p; rows = flat_map (rows_by n dims) (from_minus EXPONENT) })
IsTable-dims p n dims few small prime =
    record {
      field = prime;
      rows = IsRow-from EXPONENT n dims 0 (2 * EXPONENT + 1) refl (omega arith) few small;
      ascending = (ascending-from EXPONENT n dims 0 (2 * EXPONENT + 1)).0;
    }

pub IsTable-table : (p : ℕ) (code : Code) → length code.crossings ≤ CROSSINGS → generator_count code ≤ GENERATORS
    → IsSmallPrime p → IsTable (table p code)
IsTable-table p code few small prime =
    IsTable-dims p (length code.crossings) (dimension p code) few (λ i j. omega (arith, dimension-le p code i j, small)) prime
