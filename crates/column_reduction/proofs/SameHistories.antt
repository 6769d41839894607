-- Two reductions of one matrix whose histories are the same: they have the same pivots in the degree under way, so what the stored
-- columns of one leave of a line, those of the other leave too.
use Rattle.std.proofs.Common.{◌≡◌, ◌≢◌, ℕ, ◌+◌, ◌<◌, List, [], ◌∷◌, ◌++◌, ℤ, ◌<ℤ◌, refl, ap, ap₂, sym, subst, arith, Bool, append-nil, append_assoc, ◌||◌}
use Rattle.std.specs.Prelude.{nat_eq}
use Rattle.std.specs.List.{AllByRecursion}
use Rattle.std.proofs.lemmas.Int.{ints}
use Rattle.kh_types.specs.Complex.{Complex, Pivot, pivot_at}
use Rattle.prime_field.specs.Residues.{IsField}
use Rattle.column_reduction.specs.Reductions.{AreReducedColumns, ComeInOrder, IsLeftOf, ReducedColumn, column_numbers, is_last_row, pivots_of}
use Rattle.column_reduction.specs.StoredColumns.{StoredColumn, stored_pivots}
use Rattle.column_reduction.specs.UnderWay.{last_degree}
use Rattle.column_reduction.proofs.Determined.{LeaveToo, further, leave-push}
use Rattle.column_reduction.proofs.Lefts.{left-between}

-- the last degree of a history
pub last_degree-push : (none : ℤ) (history : List Pivot) (pivot : Pivot) → last_degree none (history ++ pivot ∷ []) ≡ pivot.degree
last_degree-push none [] pivot = refl
last_degree-push none (first ∷ later) pivot = last_degree-push first.degree later pivot

-- that of a degree whose stored columns have pivots
last_degree-own : (none i : ℤ) (earlier : List Pivot) (line : StoredColumn) (stored : List StoredColumn)
    → last_degree none (earlier ++ stored_pivots i (line ∷ stored)) ≡ i
last_degree-own none i [] line [] = refl
last_degree-own none i [] line (next ∷ stored) = last_degree-own i i [] next stored
last_degree-own none i (first ∷ later) line stored = last_degree-own first.degree i later line stored

pub fresh-none : (none i : ℤ) (earlier : List Pivot) (stored : List StoredColumn)
    → i ≢ last_degree none (earlier ++ stored_pivots i stored) → stored ≡ []
fresh-none none i earlier [] other = refl
fresh-none none i earlier (line ∷ stored) other = absurd (other (sym (last_degree-own none i earlier line stored)))

first-same : (x y : Pivot) (xs ys : List Pivot) → x ∷ xs ≡ y ∷ ys → x ≡ y
first-same x y xs ys same = cc

rest-same : (x y : Pivot) (xs ys : List Pivot) → x ∷ xs ≡ y ∷ ys → xs ≡ ys
rest-same x y xs ys same = cc

no-first : (pivot : Pivot) (pivots : List Pivot) → [] ≡ pivot ∷ pivots → ⊥
no-first pivot pivots same = cc

no-second : (pivot : Pivot) (pivots : List Pivot) → pivot ∷ pivots ≡ [] → ⊥
no-second pivot pivots same = cc

-- a history is in one way one of pivots of smaller degrees, and of pivots of one degree
pub parts-once : (i : ℤ) (first second : List Pivot) (lines others : List ReducedColumn)
    → AllByRecursion (λ pivot. pivot.degree <ℤ i) first → AllByRecursion (λ pivot. pivot.degree <ℤ i) second
    → first ++ pivots_of i lines ≡ second ++ pivots_of i others → (first ≡ second) × (pivots_of i lines ≡ pivots_of i others)
parts-once i [] [] lines others less less_too same = (refl, same)
parts-once i [] (pivot ∷ second) [] others less less_too same = absurd (no-first pivot (second ++ pivots_of i others) same)
parts-once i [] (pivot ∷ second) (line ∷ lines) others less less_too same =
    let here : pivot_at i line.column line.row ≡ pivot = first-same _ _ _ _ same in
    let degree : i ≡ pivot.degree = ap (λ (pivot : Pivot). pivot.degree) here in
    absurd (omega (arith, ints, less_too.0, degree))
parts-once i (pivot ∷ first) [] lines [] less less_too same = absurd (no-second pivot (first ++ pivots_of i lines) same)
parts-once i (pivot ∷ first) [] lines (line ∷ others) less less_too same =
    let here : pivot ≡ pivot_at i line.column line.row = first-same _ _ _ _ same in
    let degree : pivot.degree ≡ i = ap (λ (pivot : Pivot). pivot.degree) here in
    absurd (omega (arith, ints, less.0, degree))
parts-once i (pivot ∷ first) (other ∷ second) lines others less less_too same =
    let here : pivot ≡ other = first-same _ _ _ _ same in
    let later : first ++ pivots_of i lines ≡ second ++ pivots_of i others = rest-same _ _ _ _ same in
    let rest = parts-once i first second lines others less.1 less_too.1 later in
    (ap₂ (λ (x : Pivot) (xs : List Pivot). x ∷ xs) here rest.0, rest.1)

-- reduced columns with the same pivots leave the same
module _ (p : ℕ) (before : Complex) (i : ℤ) (field : IsField p) where
  one-line : (one two : ReducedColumn) (lines others : List ReducedColumn)
      → pivots_of i (one ∷ lines) ≡ pivots_of i (two ∷ others)
      → (one.column ≡ two.column) × (one.row ≡ two.row) × (pivots_of i lines ≡ pivots_of i others)
  one-line one two lines others same =
      let here : pivot_at i one.column one.row ≡ pivot_at i two.column two.row = first-same _ _ _ _ same in (
        ap (λ (pivot : Pivot). pivot.column) here,
        ap (λ (pivot : Pivot). pivot.row) here,
        rest-same _ _ _ _ same,
      )

  pub leave-same : (count number least next : ℕ) (first second lines others : List ReducedColumn) → AreReducedColumns p (first ++ lines)
      → AreReducedColumns p (second ++ others) → LeaveToo p first second → LeaveToo p second first
      → ComeInOrder p before i count least first lines → ComeInOrder p before i number next second others
      → pivots_of i lines ≡ pivots_of i others → LeaveToo p (first ++ lines) (second ++ others)
  leave-same count number least next first second [] [] columns_one columns_two too back order_one order_two same =
      subst (λ (xs : List ReducedColumn). LeaveToo p xs (second ++ [])) (sym (append-nil first))
      (subst (λ (xs : List ReducedColumn). LeaveToo p first xs) (sym (append-nil second)) too)
  leave-same count number least next first second [] (two ∷ others) columns_one columns_two too back order_one order_two same =
      absurd (no-first (pivot_at i two.column two.row) (pivots_of i others) same)
  leave-same count number least next first second (one ∷ lines) [] columns_one columns_two too back order_one order_two same =
      absurd (no-second (pivot_at i one.column one.row) (pivots_of i lines) same)
  leave-same count number least next first second (one ∷ lines) (two ∷ others) columns_one columns_two too back order_one order_two same =
      let parts = one-line one two lines others same in
      let above : 0 < p = omega (arith, field.above_one) in
      let whole = column_numbers before i two.column in
      let some : IsLeftOf p first whole one.values =
      subst (λ (column : ℕ). IsLeftOf p first (column_numbers before i column) one.values) parts.0 order_one.2 in
      let there : IsLeftOf p first one.values two.values =
      left-between p first whole one.values two.values above some (back whole two.values order_two.2) in
      let again : IsLeftOf p second two.values one.values =
      left-between p second whole two.values one.values above order_two.2 (too whole one.values some) in
      let rest =
      leave-same count number (one.column + 1) (two.column + 1) (first ++ one ∷ []) (second ++ two ∷ []) lines others
      (subst (AreReducedColumns p) (sym (append_assoc first (one ∷ []) lines)) columns_one)
      (subst (AreReducedColumns p) (sym (append_assoc second (two ∷ []) others)) columns_two)
      (leave-push p first second one two too (further p second others two columns_two).free there)
      (leave-push p second first two one back (further p first lines one columns_one).free again) order_one.3 order_two.3 parts.2 in
      subst (λ (xs : List ReducedColumn). LeaveToo p xs (second ++ two ∷ others)) (append_assoc first (one ∷ []) lines)
      (subst (λ (xs : List ReducedColumn). LeaveToo p ((first ++ one ∷ []) ++ lines) xs) (append_assoc second (two ∷ []) others) rest)

  -- and end at the same rows
  pub rows-same : (row : ℕ) (lines others : List ReducedColumn) → pivots_of i lines ≡ pivots_of i others
      → is_last_row row lines ≡ is_last_row row others
  rows-same row [] [] same = refl
  rows-same row [] (two ∷ others) same = absurd (no-first (pivot_at i two.column two.row) (pivots_of i others) same)
  rows-same row (one ∷ lines) [] same = absurd (no-second (pivot_at i one.column one.row) (pivots_of i lines) same)
  rows-same row (one ∷ lines) (two ∷ others) same =
      let parts = one-line one two lines others same in
      ap₂ (λ (r : ℕ) (b : Bool). nat_eq row r || b) parts.1 (rows-same row lines others parts.2)
