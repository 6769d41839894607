-- What the rows in memory come to, after a row is pushed and after an entry is put.
use Rattle.std.proofs.Common.{◌≡◌, ℕ, zero, suc, ◌<◌, ◌∙◌, List, [], ◌∷◌, map, length, get_or, set, replicate, ap, sym, arith, ◌^◌}
use Rattle.std.specs.Prelude.{slice_index, slice_index_or}
use Rattle.std.specs.Global.{Vec}
use Rattle.std.specs.Vec.{with_item}
use Rattle.std.proofs.lemmas.List.{map-set, get_or-map, length-map, get_or-replicate, length-replicate}
use Rattle.kh_types.specs.Complex.{entry_in}
use Rattle.kh_types.specs.MatrixRanks.{IsMatrix}
use Rattle.plain_matrix.specs.Inside.{values_of, HasSize}

-- the values of one row
pub row-values_of : {F : Type 0} (value_of : F → ℕ) (rows : List (Vec F)) (i : ℕ) (row : Vec F) → i < length rows
    → row ≡ get_or rows i row → slice_index_or (values_of value_of rows) i [] ≡ map value_of row.items
row-values_of {F} value_of rows i row within is_row =
    let values : Vec F → List ℕ = λ row. map value_of row.items in
    get_or-map values rows i row [] within ∙ ap values (sym is_row)

-- an entry is put
pub values_of-set : {F : Type 0} (value_of : F → ℕ) (rows : List (Vec F)) (i j : ℕ) (row : Vec F) (x : F) → i < length rows
    → row ≡ get_or rows i row
    → values_of value_of (set rows i (with_item row j x))
    ≡ set (values_of value_of rows) i (set (slice_index_or (values_of value_of rows) i []) j (value_of x))
values_of-set {F} value_of rows i j row x within is_row =
    map-set (λ (row : Vec F). map value_of row.items) rows i (with_item row j x)
    ∙ ap (set (values_of value_of rows) i)
    (map-set value_of row.items j x ∙ ap (λ values. set values j (value_of x)) (sym (row-values_of value_of rows i row within is_row)))

-- rows have the size that their values have
pub size-from_values : {F : Type 0} (value_of : F → ℕ) (rows : List (Vec F)) (columns : ℕ) → length rows < 2 ^ 32
    → ((i : ℕ) → i < length (values_of value_of rows) → length (slice_index_or (values_of value_of rows) i []) ≡ columns)
    → HasSize rows columns
size-from_values {F} value_of rows columns fits width =
    let values : Vec F → List ℕ = λ row. map value_of row.items in
    record {
      width = λ i row within.
          sym (length-map (get_or rows i row).items value_of) ∙ ap length (sym (get_or-map values rows i row [] within))
          ∙ width i (omega (arith, within, length-map rows values));
      height = fits;
    }

-- the rows of a matrix of zeros have its size
pub size-zeros : {F : Type 0} (value_of : F → ℕ) (rows : List (Vec F)) (n columns : ℕ) → n < 2 ^ 32
    → values_of value_of rows ≡ replicate n (replicate columns 0) → HasSize rows columns
size-zeros {F} value_of rows n columns fits are =
    let values : Vec F → List ℕ = λ row. map value_of row.items in
    let height : length rows ≡ n = sym (length-map rows values) ∙ ap length are ∙ length-replicate n (replicate columns 0) in
    size-from_values value_of rows columns (omega (arith, height, fits))
    (λ i within.
    ap (λ rows. length (get_or rows i [])) are
    ∙ ap length (get_or-replicate n i (replicate columns 0) [] (omega (arith, within, height, length-map rows values)))
    ∙ length-replicate columns 0)

-- values are below p
slice_index-values : {F : Type 0} (value_of : F → ℕ) (p : ℕ) (row : List F) (j : ℕ) → ((x : F) → value_of x < p) → 0 < p
    → slice_index (map value_of row) j < p
slice_index-values value_of p [] j below positive = positive
slice_index-values value_of p (x ∷ row) zero below positive = below x
slice_index-values value_of p (x ∷ row) (suc j) below positive = slice_index-values value_of p row j below positive

entry-values : {F : Type 0} (value_of : F → ℕ) (p : ℕ) (rows : List (Vec F)) (i j : ℕ) → ((x : F) → value_of x < p) → 0 < p
    → entry_in (values_of value_of rows) i j < p
entry-values value_of p [] i j below positive = positive
entry-values value_of p (row ∷ rows) zero j below positive = slice_index-values value_of p row.items j below positive
entry-values value_of p (row ∷ rows) (suc i) j below positive = entry-values value_of p rows i j below positive

-- the length of a row, by its values
length-row_values : {F : Type 0} (value_of : F → ℕ) (rows : List (Vec F)) (columns i : ℕ) → HasSize rows columns
    → i < length (values_of value_of rows) → length (slice_index_or (values_of value_of rows) i []) ≡ columns
length-row_values value_of [] columns i size within = absurd (omega arith)
length-row_values {F} value_of (first ∷ rows) columns i size within =
    let values : Vec F → List ℕ = λ row. map value_of row.items in
    let i_within : i < length (first ∷ rows) = omega (arith, within, length-map (first ∷ rows) values) in
    let row = get_or (first ∷ rows) i first in
    ap length (get_or-map values (first ∷ rows) i first [] i_within) ∙ length-map row.items value_of ∙ size.width i first i_within

-- rows with a size are a matrix
pub matrix-from_size : {F : Type 0} (value_of : F → ℕ) (p : ℕ) (rows : List (Vec F)) (columns : ℕ)
    → ((x : F) → value_of x < p) → 1 < p → HasSize rows columns → IsMatrix p columns (values_of value_of rows)
matrix-from_size value_of p rows columns below above size =
    record {
      width = λ i. length-row_values value_of rows columns i size;
      below = λ i j. entry-values value_of p rows i j below (omega (arith, above));
    }
