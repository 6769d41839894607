-- The loops of src/cube.rt and src/table.rt, one step more each; a ruleset for each function.
use Rattle.std.proofs.Common.{◌≡◌, ℕ, ◌+◌, ◌∷◌, [], ◌++◌, List, map, ℤ, pos, ◌+ℤ◌, ◌-ℤ◌, length, Result, Ok, Err, IfOk, ap, sym, refl, ◌∙◌}
use Rattle.std.specs.List.{range_with_len, flat_map, filter}
use Rattle.std.proofs.lemmas.List.{append_assoc, append-nil, map_push, length-map}
use Rattle.std.proofs.lemmas.List.Concat.{flat_map-append}
use Rattle.std.proofs.lemmas.List.Elements.{filter-append}
use Rattle.std.proofs.lemmas.Int.{to_z-of_z}
use Rattle.std.proofs.lemmas.Simd.{map-map}
use Rattle.kh_types.specs.Code.{Code}
use Rattle.kh_types.specs.Generators.{Generator, generators, generators_at}
use Rattle.kh_types.specs.Differential.{coefficient, differential}
use Rattle.kh_types.specs.Table.{Row, dimension, is_shown, rows_within, Table, row_at, rows_at, table, table_text}
use Rattle.kh_types.specs.declared.limits.TheConstants.{EXPONENT}
use Rattle.plain_table.specs.declared.generators.Placed.{Placed}
use Rattle.plain_matrix.specs.Matrices.{Matrix}
use Rattle.plain_table.specs.Matrices.{row_for, rows_for, matrix_for}
use Rattle.plain_table.specs.Placed.{placed_in, is_placed_at}
use Rattle.kh_types.proofs.Lists.{filter-map}
use Rattle.kh_types.proofs.Ranges.{map_from_zero}

-- the numbers from -n on, as many as a count says
abbrev pub from_minus_to : ℕ → ℕ → List ℤ
from_minus_to n count = map (λ k. pos k -ℤ pos n) (range_with_len 0 count)

-- one number more
pub from_minus_more : (n count : ℕ) → from_minus_to n (count + 1) ≡ from_minus_to n count ++ (pos count -ℤ pos n) ∷ []
from_minus_more n count = map_from_zero (λ k. pos k -ℤ pos n) count

-- the generators of two degrees, among all
pub placed_at : (code : Code) (i j : ℤ) (all made : List Placed) → all ≡ map (placed_in code) (generators code)
    → made ≡ filter (is_placed_at i j) all → made ≡ map (placed_in code) (generators_at code i j)
placed_at code i j all made is_all is_made =
    is_made ∙ ap (filter (is_placed_at i j)) is_all
    ∙ filter-map (is_placed_at i j) (placed_in code) (generators code)

-- the row for a list of generators
pub row_for_placed : (p : ℕ) (code : Code) (tails : List Generator) (head : Generator)
    → row_for p code (map (placed_in code) tails) head ≡ map (λ tail. coefficient p code tail head) tails
row_for_placed p code tails head =
    map-map (λ (tail : Placed). coefficient p code tail.generator head) (placed_in code) tails

-- the rows for two lists of generators
pub rows_for_placed : (p : ℕ) (code : Code) (tails heads : List Generator)
    → rows_for p code (map (placed_in code) tails) (map (placed_in code) heads)
    ≡ map (λ head. map (λ tail. coefficient p code tail head) tails) heads
rows_for_placed p code tails [] = refl
rows_for_placed p code tails (head ∷ heads) =
    let first : List ℕ = map (λ (tail : Generator). coefficient p code tail head) tails in
    let others : List (List ℕ) = rows_for p code (map (placed_in code) tails) (map (placed_in code) heads) in
    ap (λ (row : List ℕ). row ∷ others) (row_for_placed p code tails head)
    ∙ ap (λ (rows : List (List ℕ)). first ∷ rows) (rows_for_placed p code tails heads)

-- how many generators two degrees have
pub placed_count : (code : Code) (i j : ℤ) (made : List Placed) → made ≡ map (placed_in code) (generators_at code i j)
    → length made ≡ length (generators_at code i j)
placed_count code i j made is_made = ap length is_made ∙ length-map (generators_at code i j) (placed_in code)

-- the matrix for the generators of two degrees is the differential
pub differential_placed : (p : ℕ) (code : Code) (i j : ℤ) (tails heads : List Placed) (made : Matrix)
    → tails ≡ map (placed_in code) (generators_at code i j) → heads ≡ map (placed_in code) (generators_at code (i +ℤ pos 1) j)
    → made ≡ matrix_for p code tails heads → made.rows ≡ differential p code i j
differential_placed p code i j tails heads made is_tails is_heads is_made =
    ap (λ (matrix : Matrix). matrix.rows) is_made ∙ ap (λ (gs : List Placed). rows_for p code gs heads) is_tails
    ∙ ap (rows_for p code (map (placed_in code) (generators_at code i j))) is_heads
    ∙ rows_for_placed p code (generators_at code i j) (generators_at code (i +ℤ pos 1) j)

-- the rows of a quantum degree, up to one more homological degree
pub rows_more : (p : ℕ) (code : Code) (j i : ℤ) (n k dim : ℕ) (start made next : List Row)
    → made ≡ start ++ filter is_shown (map (row_at p code j) (from_minus_to n k))
    → i ≡ pos k -ℤ pos n → dim ≡ dimension p code i j
    → next ≡ made ++ filter is_shown (record { j = j; i = i; dim = dim } ∷ [])
    → next ≡ start ++ filter is_shown (map (row_at p code j) (from_minus_to n (k + 1)))
rows_more p code j i n k dim start made next is_made is_i is_dim is_next =
    let front : List Row = map (row_at p code j) (from_minus_to n k) in
    let row : Row = row_at p code j (pos k -ℤ pos n) in
    let same : record { j = j; i = i; dim = dim } ≡ row =
    ap (λ (d : ℕ). let r : Row = record { j = j; i = i; dim = d } in r) is_dim ∙ ap (row_at p code j) is_i in
    let all : map (row_at p code j) (from_minus_to n (k + 1)) ≡ front ++ row ∷ [] =
    ap (map (row_at p code j)) (from_minus_more n k) ∙ map_push (row_at p code j) (from_minus_to n k) (pos k -ℤ pos n) in
    is_next ∙ ap (λ (rows : List Row). rows ++ filter is_shown (record { j = j; i = i; dim = dim } ∷ [])) is_made
    ∙ ap (λ (r : Row). (start ++ filter is_shown front) ++ filter is_shown (r ∷ [])) same
    ∙ append_assoc start (filter is_shown front) (filter is_shown (row ∷ []))
    ∙ ap (λ (rows : List Row). start ++ rows) (sym (filter-append is_shown front (row ∷ [])) ∙ ap (filter is_shown) (sym all))

-- the rows of the quantum degrees up to one more
pub degrees_more : (p : ℕ) (code : Code) (j : ℤ) (n k : ℕ) (made next : List Row)
    → made ≡ flat_map (rows_at p code) (from_minus_to n k) → j ≡ pos k -ℤ pos n → next ≡ made ++ rows_at p code j
    → next ≡ flat_map (rows_at p code) (from_minus_to n (k + 1))
degrees_more p code j n k made next is_made is_j is_next =
    let last : ℤ = pos k -ℤ pos n in
    let front : List Row = flat_map (rows_at p code) (from_minus_to n k) in
    let all : flat_map (rows_at p code) (from_minus_to n (k + 1)) ≡ front ++ rows_at p code last =
    ap (flat_map (rows_at p code)) (from_minus_more n k)
    ∙ flat_map-append (rows_at p code) (from_minus_to n k) (last ∷ [])
    ∙ ap (λ (rows : List Row). front ++ rows) (append-nil (rows_at p code last)) in
    is_next ∙ ap (λ (rows : List Row). rows ++ rows_at p code j) is_made
    ∙ ap (λ (d : ℤ). front ++ rows_at p code d) is_j ∙ sym all

-- the text of the rows within the program's sizes is the text of the table
pub table_text_within : (p : ℕ) (code : Code) (rows : List Row) → rows ≡ rows_within EXPONENT p code
    → table_text (record { field = p; rows = rows }) ≡ table_text (table p code)
table_text_within p code rows is_rows =
    ap (λ (rows : List Row). let t : Table = record { field = p; rows = rows } in table_text t) is_rows

-- the same for what a call that may fail has made
pub table_text_found : {T E : Type 0} (bytes : T → List ℕ) (p : ℕ) (code : Code) (rows : List Row) (result : Result T E)
    → rows ≡ rows_within EXPONENT p code
    → IfOk result (λ text. bytes text ≡ table_text (record { field = p; rows = rows }))
    → IfOk result (λ text. bytes text ≡ table_text (table p code))
table_text_found bytes p code rows (Ok text) is_rows is_text = is_text ∙ table_text_within p code rows is_rows
table_text_found bytes p code rows (Err e) is_rows is_text = tt

-- each with the fact that a signed argument arrives as it was passed
pub ruleset placing = (placed_at, to_z-of_z)

pub ruleset matrices = (differential_placed, to_z-of_z)

pub ruleset counting = (placed_count, to_z-of_z)

pub ruleset degrees = (rows_more, to_z-of_z)
