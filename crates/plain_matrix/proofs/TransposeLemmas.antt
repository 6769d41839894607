-- The entries, the size and the rank of a transpose.
use Rattle.std.proofs.Common.{◌≡◌, ℕ, zero, suc, ◌+◌, ◌^◌, ◌++◌, map, take, get_or, ap₂, ◌<◌, ◌≤◌, ◌∙◌, inl, inr, List, [], ◌∷◌, length, refl, ap, sym, subst, arith}
use Rattle.std.specs.Prelude.{slice_index, slice_index_or}
use Rattle.std.proofs.lemmas.Bool.Decides.{leb_tells}
use Rattle.std.proofs.lemmas.List.{length-map, map-append, map_push, take_more}
use Rattle.std.proofs.lemmas.List.FromFn.{length-map-range_with_len, get_or-map-range_with_len, map-range_with_len_more}
use Rattle.kh_types.specs.Complex.{entry_in}
use Rattle.kh_types.specs.Rank.{rank}
use Rattle.kh_types.specs.Residues.{HasInverses}
use Rattle.std.specs.Global.{Vec}
use Rattle.plain_matrix.specs.Inside.{HasSize, values_of}
use Rattle.plain_matrix.proofs.InsideLemmas.{size-from_values}
use Rattle.kh_types.specs.MatrixRanks.{IsMatrix}
use Rattle.plain_matrix.specs.Matrices.{matrix_column, transposed_rows}
use Rattle.kh_types.proofs.MatrixEntries.{entry-past_columns}
use Rattle.kh_types.proofs.RankLaws.{rank-transposed_rows}
use Rattle.kh_types.proofs.MatrixTests.{entry-past_rows}

-- an entry of a column
slice_index-matrix_column : (rows : List (List ℕ)) (j i : ℕ) → slice_index (matrix_column rows j) i ≡ entry_in rows i j
slice_index-matrix_column [] j i = refl
slice_index-matrix_column (row ∷ rows) j zero = refl
slice_index-matrix_column (row ∷ rows) j (suc i) = slice_index-matrix_column rows j i

-- a column of one row more
pub matrix_column-more : {F : Type 0} (value_of : F → ℕ) (rows : List (Vec F)) (k column : ℕ) (made next seen : List F) (row : Vec F) (x : F)
    → map value_of made ≡ matrix_column (values_of value_of (take k rows)) column → k < length rows → row ≡ get_or rows k row
    → seen ≡ row.items → value_of x ≡ slice_index (map value_of seen) column → next ≡ made ++ x ∷ []
    → map value_of next ≡ matrix_column (values_of value_of (take (k + 1) rows)) column
matrix_column-more {F = F} value_of rows k column made next seen row x is_made below is_row is_seen is_x is_next =
    ap (map value_of) is_next ∙ map_push value_of made x
    ∙ ap₂ (λ (xs : List ℕ) (y : ℕ). xs ++ y ∷ []) is_made (is_x ∙ ap (λ ys. slice_index (map value_of ys) column) is_seen)
    ∙ sym (map_push (λ r. slice_index r column) (values_of value_of (take k rows)) (map value_of row.items))
    ∙ ap (λ rs. matrix_column rs column) (sym (map_push (λ r. map value_of r.items) (take k rows) row))
    ∙ ap (λ (r : Vec F). matrix_column (values_of value_of (take k rows ++ r ∷ [])) column) is_row
    ∙ ap (λ rs. matrix_column (values_of value_of rs) column) (sym (take_more rows k row below))

-- past the last column, entries are 0
entry-past_width : (p columns : ℕ) (rows : List (List ℕ)) → IsMatrix p columns rows → (i j : ℕ) → columns ≤ j → entry_in rows i j ≡ 0
entry-past_width p columns rows is i j past =
    elim (leb_tells (length rows) i) [
      | inl past_rows ↦ entry-past_rows rows i j past_rows.1
      | inr below ↦ entry-past_columns rows i j (omega (arith, is.width i below.1))
    ]

length-transposed_rows : (columns : ℕ) (rows : List (List ℕ)) → length (transposed_rows columns rows) ≡ columns
length-transposed_rows columns rows = length-map-range_with_len (matrix_column rows) 0 columns

row-transposed_rows : (columns : ℕ) (rows : List (List ℕ)) (j : ℕ) → j < columns
    → slice_index_or (transposed_rows columns rows) j [] ≡ matrix_column rows j
row-transposed_rows columns rows j below = get_or-map-range_with_len (matrix_column rows) 0 columns j j [] below (omega arith)

pub entry-transposed_rows : (p columns : ℕ) (rows : List (List ℕ)) → IsMatrix p columns rows → (j i : ℕ)
    → entry_in (transposed_rows columns rows) j i ≡ entry_in rows i j
entry-transposed_rows p columns rows is j i =
    elim (leb_tells columns j) [
      | inl past ↦
          entry-past_rows (transposed_rows columns rows) j i (omega (arith, length-transposed_rows columns rows, past.1))
          ∙ sym (entry-past_width p columns rows is i j past.1)
      | inr below ↦
          ap (λ row. slice_index row i) (row-transposed_rows columns rows j below.1) ∙ slice_index-matrix_column rows j i
    ]

pub matrix-transposed_rows : (p columns : ℕ) (rows : List (List ℕ)) → IsMatrix p columns rows
    → IsMatrix p (length rows) (transposed_rows columns rows)
matrix-transposed_rows p columns rows is =
    record {
      width = λ j within.
          ap length (row-transposed_rows columns rows j (omega (arith, length-transposed_rows columns rows)))
          ∙ length-map rows (λ row. slice_index row j);
      below = λ j i. subst (λ entry. entry < p) (sym (entry-transposed_rows p columns rows is j i)) (is.below i j);
    }

pub rank-transpose : (p columns : ℕ) (rows : List (List ℕ)) → HasInverses p → IsMatrix p columns rows
    → rank p (transposed_rows columns rows) ≡ rank p rows
rank-transpose p columns rows field is =
    rank-transposed_rows p columns (length rows) rows (transposed_rows columns rows) field is
    (matrix-transposed_rows p columns rows is) (entry-transposed_rows p columns rows is)

-- one column more, in memory
pub values_of-column : {F : Type 0} (value_of : F → ℕ) (made more : List (Vec F)) (column : Vec F) (k : ℕ) (rows : List (List ℕ))
    → more ≡ made ++ column ∷ [] → map value_of column.items ≡ matrix_column rows k → values_of value_of made ≡ transposed_rows k rows
    → values_of value_of more ≡ transposed_rows (k + 1) rows
values_of-column {F} value_of made more column k rows is_more is_column before =
    ap (values_of value_of) is_more ∙ map-append (λ (row : Vec F). map value_of row.items) made (column ∷ [])
    ∙ ap₂ (λ values row. values ++ row ∷ []) before is_column
    ∙ sym (map-range_with_len_more (matrix_column rows) 0 k k (omega arith))

-- all columns have the size of a matrix with as many columns as there are rows
pub size-transposed : {F : Type 0} (value_of : F → ℕ) (p k columns height : ℕ) (made : List (Vec F)) (inside rows : List (List ℕ))
    → k ≡ columns → columns < 2 ^ 32 → height ≡ length rows → IsMatrix p columns rows → inside ≡ rows
    → values_of value_of made ≡ transposed_rows k inside → HasSize made height
size-transposed {F} value_of p k columns height made inside rows all fits is_height is are made_are =
    let values : Vec F → List ℕ = λ row. map value_of row.items in
    let turned : values_of value_of made ≡ transposed_rows columns rows = made_are ∙ ap₂ transposed_rows all are in
    let count : length made ≡ columns =
    sym (length-map made values) ∙ ap length turned ∙ length-transposed_rows columns rows in
    size-from_values value_of made height (omega (arith, count, fits))
    (λ i within.
    ap (λ rows. length (slice_index_or rows i [])) turned
    ∙ (matrix-transposed_rows p columns rows is).width i
    (omega (arith, within, length-map made values, count, length-transposed_rows columns rows))
    ∙ sym is_height)
