-- The Euler characteristic, row by row. A row adds its dimension, with the sign of its homological degree, to the coefficient of
-- its quantum degree, and nothing to the others. The size of a coefficient is at most the sum of all dimensions (by induction on
-- the rows), so that the sums stay small. The list of all coefficients, with one row more, is that of before, with what the row
-- adds put in at one place; and so for the first k rows of a list, which is one turn of the loop that computes them.
use Rattle.std.proofs.Common.{◌≡◌, ◌≢◌, ℕ, ◌+◌, ◌*◌, ◌%◌, ◌<◌, ◌≤◌, ◌∙◌, List, [], ◌∷◌, ◌++◌, map, length, get_or, take, ap, sym, refl, inl, inr, arith, ℤ, pos, negsuc, neg_ℤ, ◌+ℤ◌, ◌-ℤ◌, Bool, true, false, cond}
use Rattle.std.specs.Prelude.{unsigned_abs, nat_eq}
use Rattle.std.specs.List.{filter, sum_by}
use Rattle.std.specs.Ordering.{int_eq}
use Rattle.std.proofs.Math.ListN.{set, length-set}
use Rattle.std.proofs.lemmas.Bool.{cases_Bool, cases_eq}
use Rattle.std.proofs.lemmas.Bool.Decides.{Decides-int_eq}
use Rattle.std.proofs.lemmas.Int.{ints}
use Rattle.std.proofs.lemmas.List.{append-nil, length-map, map-append, take_more, get_or-set_same, get_or-set_other}
use Rattle.std.proofs.lemmas.List.Elements.{filter-append}
use Rattle.std.proofs.lemmas.List.FromFn.{length-map-range_with_len}
use Rattle.std.proofs.lemmas.List.Sums.{sum_by-cons, sum_by_more, sum_by_more_le}
use Rattle.kh_types.specs.declared.limits.TheConstants.{EXPONENT}
use Rattle.kh_types.specs.StateSum.{int_sum, signed_by, signed_by_parity}
use Rattle.kh_types.specs.Table.{Row, from_minus}
use Rattle.jones_sum.specs.Coefficients.{coefficients_of}
use Rattle.jones_sum.proofs.CoefficientLemmas.{filled}
use Rattle.jones_sum.proofs.KindLemmas.{int_sum-push, unsigned_abs-add}
use Rattle.kh_types.proofs.QuantumDegrees.{get_or-map-from_minus}

-- the sign of a dimension

signed_by-size : (i : ℤ) (dim : ℕ) → signed_by i dim ≡ signed_by_parity (unsigned_abs i) dim
signed_by-size (pos i) dim = refl
signed_by-size (negsuc i) dim = refl

pub signed_by-even : (i : ℤ) (dim : ℕ) → unsigned_abs i % 2 ≡ 0 → signed_by i dim ≡ pos dim
signed_by-even i dim even = signed_by-size i dim ∙ ap (λ bit. cond (nat_eq bit 0) (pos dim) (neg_ℤ (pos dim))) even

pub signed_by-odd : (i : ℤ) (dim : ℕ) → unsigned_abs i % 2 ≡ 1 → signed_by i dim ≡ neg_ℤ (pos dim)
signed_by-odd i dim odd = signed_by-size i dim ∙ ap (λ bit. cond (nat_eq bit 0) (pos dim) (neg_ℤ (pos dim))) odd

pub ruleset signs = (signed_by-even, signed_by-odd)

-- the Euler characteristic of some rows
abbrev pub rows_euler : List Row → ℤ → ℤ
rows_euler rows exponent = int_sum (map (λ row. signed_by row.i row.dim) (filter (λ row. int_eq row.j exponent) rows))

-- what a row adds to a coefficient
abbrev added : Row → ℤ → ℤ
added row exponent = cond (int_eq row.j exponent) (signed_by row.i row.dim) (pos 0)

added_last : (b : Bool) (row : Row) (sum : List ℤ)
    → int_sum (sum ++ map (λ row. signed_by row.i row.dim) (cond b (row ∷ []) []))
    ≡ int_sum sum +ℤ cond b (signed_by row.i row.dim) (pos 0)
added_last true row sum = int_sum-push sum (signed_by row.i row.dim)
added_last false row sum = ap int_sum (append-nil sum) ∙ omega (arith, ints)

pub rows_euler-more : (rows : List Row) (row : Row) (exponent : ℤ)
    → rows_euler (rows ++ row ∷ []) exponent ≡ rows_euler rows exponent +ℤ added row exponent
rows_euler-more rows row exponent =
    let test : Row → Bool = λ row. int_eq row.j exponent in
    let value : Row → ℤ = λ row. signed_by row.i row.dim in
    ap (λ (some : List Row). int_sum (map value some)) (filter-append test rows (row ∷ []))
    ∙ ap int_sum (map-append value (filter test rows) (filter test (row ∷ [])))
    ∙ added_last (int_eq row.j exponent) row (map value (filter test rows))

-- its size

unsigned_abs-signed : (b : Bool) (dim : ℕ) → unsigned_abs (cond b (pos dim) (neg_ℤ (pos dim))) ≤ dim
unsigned_abs-signed true dim = omega arith
unsigned_abs-signed false dim = omega (arith, ints)

pub unsigned_abs-signed_by : (i : ℤ) (dim : ℕ) → unsigned_abs (signed_by i dim) ≤ dim
unsigned_abs-signed_by i dim =
    omega (
      arith,
      ap unsigned_abs (signed_by-size i dim),
      unsigned_abs-signed (nat_eq (unsigned_abs i % 2) 0) dim,
    )

size-first : (b : Bool) (row : Row) (rows : List Row) (most : ℕ)
    → unsigned_abs (int_sum (map (λ row. signed_by row.i row.dim) rows)) ≤ most
    → unsigned_abs (int_sum (map (λ row. signed_by row.i row.dim) (cond b (row ∷ rows) rows))) ≤ row.dim + most
size-first true row rows most small =
    omega (
      arith,
      unsigned_abs-add (signed_by row.i row.dim) (int_sum (map (λ row. signed_by row.i row.dim) rows)),
      unsigned_abs-signed_by row.i row.dim,
      small,
    )
size-first false row rows most small = omega (arith, small)

pub unsigned_abs-rows_euler : (rows : List Row) (exponent : ℤ)
    → unsigned_abs (rows_euler rows exponent) ≤ sum_by (λ row. row.dim) rows
unsigned_abs-rows_euler [] exponent = omega arith
unsigned_abs-rows_euler (row ∷ rows) exponent =
    omega (
      arith,
      size-first (int_eq row.j exponent) row (filter (λ row. int_eq row.j exponent) rows) (sum_by (λ row. row.dim) rows)
          (unsigned_abs-rows_euler rows exponent),
      sum_by-cons (λ row. row.dim) row rows,
    )

-- the coefficients with one row more

added-same : (row : Row) (exponent : ℤ) → row.j ≡ exponent → added row exponent ≡ signed_by row.i row.dim
added-same row exponent same =
    ap (λ b. cond b (signed_by row.i row.dim) (pos 0)) ((Decides-int_eq row.j exponent).1 same)

added-other : (row : Row) (exponent : ℤ) → row.j ≢ exponent → added row exponent ≡ pos 0
added-other row exponent other = elim (cases_Bool (int_eq row.j exponent)) [
  | inl same ↦ absurd (other ((Decides-int_eq row.j exponent).0 same))
  | inr differs ↦ ap (λ b. cond b (signed_by row.i row.dim) (pos 0)) differs
]

-- numbers of which each is more by what the row adds to it
set-more : (before after : ℤ → ℤ) (row : Row) (n place : ℕ) → ((exponent : ℤ) → after exponent ≡ before exponent +ℤ added row exponent)
    → row.j +ℤ pos n ≡ pos place → place < 2 * n + 1
    → set (map before (from_minus n)) place (get_or (map before (from_minus n)) place (pos 0) +ℤ signed_by row.i row.dim)
    ≡ map after (from_minus n)
set-more before after row n place more is below =
    let old : List ℤ = map before (from_minus n) in
    let value : ℤ = signed_by row.i row.dim in
    let new : List ℤ = set old place (get_or old place (pos 0) +ℤ value) in
    let size : length old ≡ 2 * n + 1 =
    length-map (from_minus n) before ∙ length-map-range_with_len (λ k. pos k -ℤ pos n) 0 (2 * n + 1) in
    filled after n new (length-set old place (get_or old place (pos 0) +ℤ value) ∙ size)
    (λ k k_below. elim (cases_eq k place) [
      | inl here ↦
          let exponent : row.j ≡ pos k -ℤ pos n = omega (arith, ints, is, here) in
          ap (λ (m : ℕ). get_or new m (pos 0)) here
          ∙ get_or-set_same old place (get_or old place (pos 0) +ℤ value) (pos 0) (omega (arith, below, size))
          ∙ ap (λ (m : ℕ). get_or old m (pos 0) +ℤ value) (sym here)
          ∙ ap (λ (z : ℤ). z +ℤ value) (get_or-map-from_minus before n k (pos 0) k_below)
          ∙ ap (λ (z : ℤ). before (pos k -ℤ pos n) +ℤ z) (sym (added-same row (pos k -ℤ pos n) exponent))
          ∙ sym (more (pos k -ℤ pos n))
      | inr other ↦
          let exponent : row.j ≢ pos k -ℤ pos n = λ same. other (omega (arith, ints, is, same)) in
          get_or-set_other old place k (get_or old place (pos 0) +ℤ value) (pos 0) other
          ∙ get_or-map-from_minus before n k (pos 0) k_below
          ∙ omega (arith, ints, more (pos k -ℤ pos n), added-other row (pos k -ℤ pos n) exponent)
    ])

pub coefficients_of-more : (rows : List Row) (row : Row) (place : ℕ) → row.j +ℤ pos EXPONENT ≡ pos place → place < 2 * EXPONENT + 1
    → set (coefficients_of (rows_euler rows)) place
    (get_or (coefficients_of (rows_euler rows)) place (pos 0) +ℤ signed_by row.i row.dim)
    ≡ coefficients_of (rows_euler (rows ++ row ∷ []))
coefficients_of-more rows row place is below =
    set-more (rows_euler rows) (rows_euler (rows ++ row ∷ [])) row EXPONENT place (rows_euler-more rows row) is below

-- one row more of a list of rows

pub coefficients_of-row : (rows : List Row) (row : Row) (k place : ℕ) (old : List ℤ) (value : ℤ) → k < length rows
    → row ≡ get_or rows k row → old ≡ coefficients_of (rows_euler (take k rows)) → row.j +ℤ pos EXPONENT ≡ pos place
    → place < 2 * EXPONENT + 1 → value ≡ get_or old place (pos 0) +ℤ signed_by row.i row.dim
    → set old place value ≡ coefficients_of (rows_euler (take (k + 1) rows))
coefficients_of-row rows row k place old value below is_row is_old is_place within is_value =
    ap (λ (z : ℤ). set old place z) is_value
    ∙ ap (λ (xs : List ℤ). set xs place (get_or xs place (pos 0) +ℤ signed_by row.i row.dim)) is_old
    ∙ coefficients_of-more (take k rows) row place is_place within
    ∙ ap (λ (some : List Row). coefficients_of (rows_euler some))
    (sym (take_more rows k row below ∙ ap (λ (r : Row). take k rows ++ r ∷ []) (sym is_row)))

pub coefficients-small : (rows : List Row) (row : Row) (k place : ℕ) (old : List ℤ) → k < length rows
    → row ≡ get_or rows k row → old ≡ coefficients_of (rows_euler (take k rows)) → place < 2 * EXPONENT + 1
    → unsigned_abs (get_or old place (pos 0)) + unsigned_abs (signed_by row.i row.dim) ≤ sum_by (λ row. row.dim) rows
coefficients-small rows row k place old below is_row is_old within =
    let value = ap (λ (xs : List ℤ). get_or xs place (pos 0)) is_old
    ∙ get_or-map-from_minus (rows_euler (take k rows)) EXPONENT place (pos 0) within in
    omega (
      arith,
      ap unsigned_abs value,
      unsigned_abs-rows_euler (take k rows) (pos place -ℤ pos EXPONENT),
      unsigned_abs-signed_by row.i row.dim,
      ap (λ (r : Row). r.dim) is_row,
      sum_by_more (λ row. row.dim) rows k row below,
      sum_by_more_le (λ row. row.dim) rows k row below,
    )
