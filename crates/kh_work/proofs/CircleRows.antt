-- The rows of a table beside a circle.
use Rattle.std.proofs.Common.{◌≡◌, ℕ, suc, ◌+◌, ◌*◌, ◌≤◌, map, ◌∙◌, ℤ, pos, ◌+ℤ◌, ◌-ℤ◌, List, [], ◌∷◌, ◌++◌, refl, sym, ap, ap₂, arith, Bool, true, false, cond, ◌&&◌}
use Rattle.std.specs.Prelude.{Option, Some}
use Rattle.std.specs.List.{All, filter, find, flat_map, range_with_len}
use Rattle.std.specs.Option.{option_map_or}
use Rattle.std.specs.Ordering.{int_eq}
use Rattle.std.proofs.Math.Path.{fun_ext}
use Rattle.std.proofs.lemmas.List.Elements.{All-filter}
use Rattle.std.proofs.lemmas.List.{flat_map_more}
use Rattle.kh_types.specs.Table.{Row, Table, from_minus}
use Rattle.kh_types.specs.declared.limits.TheConstants.{EXPONENT}
use Rattle.kh_types.proofs.Ranges.{map_from_zero}
use Rattle.circle_smoothing.specs.declared.limits.TheConstants.{GENERATORS}
use Rattle.homology_tables.specs.DegreeRows.{rows_with}
use Rattle.homology_tables.specs.Tables.{IsRow, dim_at}
use Rattle.kh_work.specs.Circles.{beside_circle, dim_of, dims_beside, dims_of, rows_of}

-- what passes two tests is found by the one among what passes the other
find-filter : {X : Type 0} (p q : X → Bool) (xs : List X) → find p (filter q xs) ≡ find (λ x. p x && q x) xs
find-filter p q [] = refl
find-filter {X} p q (x ∷ xs) = step (q x) (find-filter p q xs)
  where
    with_true : (a : Bool) (here past other : Option X) → past ≡ other → cond a here past ≡ cond (a && true) here other
    with_true true here past other same = refl
    with_true false here past other same = same

    with_false : (a : Bool) (here past other : Option X) → past ≡ other → past ≡ cond (a && false) here other
    with_false true here past other same = same
    with_false false here past other same = same

    step : (b : Bool) → find p (filter q xs) ≡ find (λ x. p x && q x) xs
        → find p (cond b (x ∷ filter q xs) (filter q xs)) ≡ cond (p x && b) (Some x) (find (λ x. p x && q x) xs)
    step true same = with_true (p x) (Some x) (find p (filter q xs)) (find (λ x. p x && q x) xs) same
    step false same = with_false (p x) (Some x) (find p (filter q xs)) (find (λ x. p x && q x) xs) same

-- the dimension that is found among the rows of a quantum degree is that of the table
dim_of-rows_of : (homology : Table) (i j : ℤ) → dim_of (rows_of homology.rows j) i ≡ dim_at homology i j
dim_of-rows_of homology i j =
    ap (λ (found : Option Row). option_map_or (λ row. row.dim) found 0)
    (find-filter (λ (row : Row). int_eq row.i i) (λ row. int_eq row.j j) homology.rows)

-- the rows of one quantum degree of the table beside a circle
pub degree-beside : (n : ℕ) (j : ℤ) (homology : Table) (lower upper start made : List Row) → lower ≡ rows_of homology.rows (j -ℤ pos 1)
    → upper ≡ rows_of homology.rows (j +ℤ pos 1) → made ≡ start ++ rows_with n j (dims_of lower upper)
    → made ≡ start ++ rows_with n j (dims_beside homology j)
degree-beside n j homology lower upper start made is_lower is_upper is_made =
    is_made
    ∙ ap₂ (λ (xs ys : List Row). start ++ rows_with n j (dims_of xs ys)) is_lower is_upper
    ∙ ap (λ (dims : ℤ → ℕ). start ++ rows_with n j dims)
    (fun_ext (λ i. ap₂ (λ (a b : ℕ). a + b) (dim_of-rows_of homology i (j -ℤ pos 1)) (dim_of-rows_of homology i (j +ℤ pos 1))))

-- rows that are kept are within the limits
pub rows_of-within : (rows made : List Row) (j : ℤ) → All IsRow rows → made ≡ rows_of rows j → All IsRow made
rows_of-within rows made j are is_made = rw is_made (All-filter (λ row. int_eq row.j j) IsRow rows are)

-- a dimension that is found is within the limits
found-few : (test : Row → Bool) (rows : List Row) → All IsRow rows
    → option_map_or (λ row. row.dim) (find test rows) 0 ≤ GENERATORS
found-few test [] are = omega arith
found-few test (row ∷ rows) are =
    step (test row) (are 0 row (omega arith)).few (found-few test rows (λ k d below. are (suc k) d (omega (arith, below))))
  where
    step : (b : Bool) → row.dim ≤ GENERATORS → option_map_or (λ row. row.dim) (find test rows) 0 ≤ GENERATORS
        → option_map_or (λ row. row.dim) (cond b (Some row) (find test rows)) 0 ≤ GENERATORS
    step true here later = here
    step false here later = later

pub dim_of-few : (rows : List Row) (i : ℤ) → All IsRow rows → dim_of rows i ≤ GENERATORS
dim_of-few rows i are = found-few (λ row. int_eq row.i i) rows are

-- the rows of the first quantum degrees, from -most on
abbrev pub rows_to : ℕ → ℕ → Table → ℕ → List Row
rows_to most n homology count =
    flat_map (λ j. rows_with n j (dims_beside homology j)) (map (λ k. pos k -ℤ pos most) (range_with_len 0 count))

-- one quantum degree more
pub rows_to-more : (most n : ℕ) (homology : Table) (k : ℕ) (j : ℤ) (made next : List Row) → made ≡ rows_to most n homology k
    → j ≡ pos k -ℤ pos most → next ≡ made ++ rows_with n j (dims_beside homology j) → next ≡ rows_to most n homology (k + 1)
rows_to-more most n homology k j made next is_made is_j is_next =
    let number : ℕ → ℤ = λ k. pos k -ℤ pos most in
    let rows : ℤ → List Row = λ j. rows_with n j (dims_beside homology j) in
    is_next ∙ ap₂ (λ (xs : List Row) (i : ℤ). xs ++ rows i) is_made is_j
    ∙ flat_map_more rows [] (map number (range_with_len 0 k)) (number k)
    ∙ ap (flat_map rows) (sym (map_from_zero number k))

-- all quantum degrees
pub rows_to-all : (most n field : ℕ) (homology : Table) (k : ℕ) (made : List Row) → most ≡ EXPONENT → k ≡ 2 * most + 1
    → field ≡ homology.field → made ≡ rows_to most n homology k
    → (let whole : Table = record { field = field; rows = made } in whole) ≡ beside_circle n homology
unfolding beside_circle
rows_to-all most n field homology k made is_most is_k is_field is_made =
    ap₂ (λ (p : ℕ) (rows : List Row). let whole : Table = record { field = p; rows = rows } in whole) is_field
    (is_made ∙ ap (rows_to most n homology) is_k
    ∙ ap (λ (m : ℕ). flat_map (λ j. rows_with n j (dims_beside homology j)) (from_minus m)) is_most)

pub ruleset degree_rows = (degree-beside, rows_of-within)

pub ruleset few_rows = dim_of-few
