-- The steps of the loops over the rows and the columns of a matrix.
use Rattle.std.proofs.Common.{◌≡◌, ℕ, ◌+◌, ◌<◌, ◌≤◌, ◌∙◌, List, [], ◌∷◌, ◌++◌, length, map, take, drop, get_or, set, replicate, ap, sym, arith}
use Rattle.std.specs.Prelude.{slice_index_or}
use Rattle.std.proofs.lemmas.List.{append_assoc, append-nil, get_or-set_same, set-set, set-get_or, set_at, take_more, take_all, drop_more, drop_all, map_push, length-map, length-take-le, length-replicate}
use Rattle.kh_types.specs.Code.{Code}
use Rattle.kh_types.specs.Generators.{Generator}
use Rattle.kh_types.specs.Differential.{coefficient}
use Rattle.plain_matrix.specs.Matrices.{Matrix, with_entry, zero_matrix}
use Rattle.plain_table.specs.declared.generators.Placed.{Placed}
use Rattle.plain_table.specs.Matrices.{row_for, rows_for, matrix_for, with_row}

-- the images of the first elements of a list, and the rest of another list behind them
abbrev pub filled : {X Y : Type 0} → (X → Y) → List X → ℕ → List Y → List Y
filled f xs n ys = map f (take n xs) ++ drop n ys

filled-more : {X Y : Type 0} (f : X → Y) (xs : List X) (n : ℕ) (ys : List Y) (x : X) → n < length xs → length ys ≡ length xs
    → set (filled f xs n ys) n (f (get_or xs n x)) ≡ filled f xs (n + 1) ys
filled-more f xs n [] x below same = absurd (omega arith)
filled-more {X} {Y} f xs n (y ∷ ys) x below same =
    let front : List Y = map f (take n xs) in
    let next : Y = f (get_or xs n x) in
    let rest : List Y = drop (n + 1) (y ∷ ys) in
    let long : length front ≡ n = length-map (take n xs) f ∙ length-take-le n xs (omega arith) in
    let more : map f (take (n + 1) xs) ≡ front ++ next ∷ [] =
    ap (map f) (take_more xs n x below) ∙ map_push f (take n xs) (get_or xs n x) in
    ap (λ (zs : List Y). set (front ++ zs) n next) (drop_more (y ∷ ys) n y (omega arith))
    ∙ set_at front (get_or (y ∷ ys) n y) rest next n long
    ∙ sym (append_assoc front (next ∷ []) rest) ∙ ap (λ (zs : List Y). zs ++ rest) (sym more)

filled-all : {X Y : Type 0} (f : X → Y) (xs : List X) (n : ℕ) (ys : List Y) → length xs ≤ n → length ys ≤ n
    → filled f xs n ys ≡ map f xs
filled-all {X} {Y} f xs n ys fits_x fits_y =
    ap (λ (zs : List X). map f zs ++ drop n ys) (take_all n xs fits_x)
    ∙ ap (λ (zs : List Y). map f xs ++ zs) (drop_all n ys fits_y) ∙ append-nil (map f xs)

-- a matrix after the first coefficients of a row have been put
abbrev pub row_begun : ℕ → Code → List Placed → Generator → ℕ → ℕ → Matrix → Matrix
row_begun p code tails head row count start =
    with_row start row
    (filled (λ tail. coefficient p code tail.generator head) tails count (slice_index_or start.rows row []))

pub row_begun-none : (p : ℕ) (code : Code) (tails : List Placed) (head : Generator) (row : ℕ) (start : Matrix)
    → start ≡ row_begun p code tails head row 0 start
row_begun-none p code tails head row start =
    ap (λ rows. let made : Matrix = record { rows = rows; columns = start.columns } in made) (sym (set-get_or start.rows row []))

pub row_begun-more : (p : ℕ) (code : Code) (tails : List Placed) (head : Generator) (row count value : ℕ) (start made next : Matrix)
    (tail : Placed) → row < length start.rows → length (slice_index_or start.rows row []) ≡ length tails → count < length tails
    → value ≡ coefficient p code (get_or tails count tail).generator head → made ≡ row_begun p code tails head row count start
    → next ≡ with_entry made row count value → next ≡ row_begun p code tails head row (count + 1) start
row_begun-more p code tails head row count value start made next tail row_below width below is_value is_made is_next =
    let f : Placed → ℕ = λ tail. coefficient p code tail.generator head in
    let old : List ℕ = slice_index_or start.rows row [] in
    let entries : List ℕ = filled f tails count old in
    let of_rows : List (List ℕ) → Matrix = λ rows. record { rows = rows; columns = start.columns } in
    let held : slice_index_or (set start.rows row entries) row [] ≡ entries = get_or-set_same start.rows row entries [] row_below in
    let more : set entries count value ≡ filled f tails (count + 1) old =
    ap (set entries count) is_value ∙ filled-more f tails count old tail below width in
    is_next ∙ ap (λ (m : Matrix). with_entry m row count value) is_made
    ∙ ap (λ (line : List ℕ). of_rows (set (set start.rows row entries) row (set line count value))) held
    ∙ ap of_rows (set-set start.rows row entries (set entries count value)) ∙ ap (with_row start row) more

pub row_begun-all : (p : ℕ) (code : Code) (tails : List Placed) (head : Generator) (row count : ℕ) (start made : Matrix)
    → length (slice_index_or start.rows row []) ≡ length tails → length tails ≤ count
    → made ≡ row_begun p code tails head row count start → made ≡ with_row start row (row_for p code tails head)
row_begun-all p code tails head row count start made width past is_made =
    is_made ∙ ap (with_row start row)
    (filled-all (λ (tail : Placed). coefficient p code tail.generator head) tails count (slice_index_or start.rows row [])
    past (omega (arith, width, past)))

-- a matrix after its first rows have been put
abbrev pub matrix_begun : ℕ → Code → List Placed → List Placed → ℕ → Matrix → Matrix
matrix_begun p code tails heads count start =
    record { rows = filled (λ head. row_for p code tails head.generator) heads count start.rows; columns = start.columns }

pub matrix_begun-more : (p : ℕ) (code : Code) (tails heads : List Placed) (count : ℕ) (start made next : Matrix) (head : Placed)
    → length start.rows ≡ length heads → count < length heads → made ≡ matrix_begun p code tails heads count start
    → next ≡ with_row made count (row_for p code tails (get_or heads count head).generator)
    → next ≡ matrix_begun p code tails heads (count + 1) start
matrix_begun-more p code tails heads count start made next head height below is_made is_next =
    let f : Placed → List ℕ = λ head. row_for p code tails head.generator in
    is_next ∙ ap (λ (m : Matrix). with_row m count (f (get_or heads count head))) is_made
    ∙ ap (λ rows. let made : Matrix = record { rows = rows; columns = start.columns } in made)
    (filled-more f heads count start.rows head below height)

pub matrix_begun-all : (p : ℕ) (code : Code) (tails heads : List Placed) (count : ℕ) (start made : Matrix)
    → start ≡ zero_matrix (length heads) (length tails) → length heads ≤ count
    → made ≡ matrix_begun p code tails heads count start → made ≡ matrix_for p code tails heads
matrix_begun-all p code tails heads count start made zeros past is_made =
    let height : length start.rows ≡ length heads =
    ap (λ (m : Matrix). length m.rows) zeros ∙ length-replicate (length heads) (replicate (length tails) 0) in
    let width : start.columns ≡ length tails = ap (λ (m : Matrix). m.columns) zeros in
    let all : filled (λ (head : Placed). row_for p code tails head.generator) heads count start.rows ≡ rows_for p code tails heads =
    filled-all (λ (head : Placed). row_for p code tails head.generator) heads count start.rows past (omega (arith, height, past)) in
    is_made
    ∙ ap (λ rows. let made : Matrix = record { rows = rows; columns = start.columns } in made) all
    ∙ ap (λ columns. let made : Matrix = record { rows = rows_for p code tails heads; columns = columns } in made) width

pub ruleset entries = (row_begun-none, row_begun-more, row_begun-all)

pub ruleset rows = (matrix_begun-more, matrix_begun-all)
