-- Matrices that the entries of columns denote: their rows and columns, and their rows as one more column comes.
use Rattle.std.proofs.lemmas.Bool.Decides.{nat_tests}
use Rattle.std.proofs.Common.{◌≡◌, ℕ, suc, ◌+◌, ◌<◌, ◌∙◌, inl, inr, List, [], ◌∷◌, ◌++◌, length, map, get_or, take, set, replicate, refl, ap, sym, subst, arith}
use Rattle.std.specs.Prelude.{slice_index, slice_index_or, slice_set}
use Rattle.std.specs.List.{range_with_len}
use Rattle.std.proofs.Math.ListN.{get_or-map}
use Rattle.std.proofs.lemmas.Simd.{map-map}
use Rattle.std.proofs.lemmas.List.{append-nil, length-map, length-set, length-take-le, length-replicate, get_or-replicate, get_or-set_same, get_or-set_other, take_more, map_push}
use Rattle.std.proofs.lemmas.List.FromFn.{length-map-range_with_len, get_or-map-range_with_len, fill_by_all}
use Rattle.std.proofs.lemmas.Bool.Decides.{eqb_tells}
use Rattle.kh_types.specs.Complex.{entry_in}
use Rattle.sparse_block.specs.Entries.{Entry, entry_at, entries_from, entries_of, value_at, line_of, AreEntries}
use Rattle.sparse_block.specs.Complexes.{matrix_from, column_in}
use Rattle.sparse_block.specs.Inside.{HaveColumn}
use Rattle.sparse_block.proofs.AscendingLemmas.{entries-ascend}
use Rattle.sparse_block.proofs.EntryLemmas.{entries_from-other, entries_from-push, value_at-more, value_at-new}

-- a row of columns: the number that each has there
abbrev pub row_at : List (List Entry) → ℕ → List ℕ
row_at columns row = map (λ column. value_at column row) columns

pub length-matrix_from : (height : ℕ) (columns : List (List Entry)) → length (matrix_from height columns) ≡ height
length-matrix_from height columns = length-map-range_with_len (row_at columns) 0 height

pub row-matrix_from : (height row : ℕ) (columns : List (List Entry)) → row < height
    → slice_index_or (matrix_from height columns) row [] ≡ row_at columns row
row-matrix_from height row columns within = get_or-map-range_with_len (row_at columns) 0 height row row [] within (omega arith)

-- the number that a row of columns has at one of them
number-row_at : (columns : List (List Entry)) (row column : ℕ)
    → slice_index (row_at columns row) column ≡ value_at (get_or columns column []) row
number-row_at columns row column = get_or-map (λ (column : List Entry). value_at column row) columns column []

-- a column is the line that its entries denote
pub column_in-matrix_from : (height column : ℕ) (columns : List (List Entry))
    → column_in (matrix_from height columns) column ≡ line_of height (get_or columns column [])
column_in-matrix_from height column columns =
    map-map (λ (row : List ℕ). slice_index row column) (row_at columns) (range_with_len 0 height)
    ∙ same (range_with_len 0 height)
  where
    same : (rows : List ℕ) → map (λ row. slice_index (row_at columns row) column) rows ≡ map (value_at (get_or columns column [])) rows
    same [] = refl
    same (row ∷ rows) = grind (arith, nat_tests, number-row_at, same rows)

-- an entry is the number of its column at its row
pub entry-matrix_from : (height row column : ℕ) (columns : List (List Entry)) → row < height
    → entry_in (matrix_from height columns) row column ≡ value_at (get_or columns column []) row
entry-matrix_from height row column columns within = grind (arith, nat_tests, row-matrix_from, number-row_at)

-- one entry of a new column comes to the end of its row

length-row_entry : (column value : ℕ) (xs : List Entry) → value ≡ 0 → xs ++ entries_from column (value ∷ []) ≡ xs
length-row_entry column value xs is_zero = grind (arith, nat_tests, append-nil)

pub column-more : (p column k : ℕ) (entries : List Entry) (e d : Entry) (initial before after : List (List Entry))
    → AreEntries p (length initial) entries → k < length entries → e ≡ get_or entries k d
    → HaveColumn column (take k entries) initial before
    → after ≡ slice_set before e.place (slice_index_or before e.place [] ++ entry_at (column, e.value) ∷ [])
    → HaveColumn column (take (k + 1) entries) initial after
column-more p column k entries e d initial before after are within is_next so_far put =
    let ascend = entries-ascend p (length initial) entries are in
    let place_within : e.place < length initial =
    subst (λ (e : Entry). e.place < length initial) (sym is_next) (are.places k d within) in
    let positive : 0 < e.value = subst (λ (e : Entry). 0 < e.value) (sym is_next) (are.values k d within).0 in
    let new = value_at-new p 0 (length initial) k entries e d ascend within is_next in
    let next : k + 1 ≡ suc k = omega arith in
    let place_before : e.place < length before = omega (arith, so_far.height, place_within) in
    record {
      height =
          ap length put
          ∙ length-set before e.place (slice_index_or before e.place [] ++ entry_at (column, e.value) ∷ []) ∙ so_far.height;
      longer = λ row row_within.
          ap (λ (rows : List (List Entry)). slice_index_or rows row []) put
          ∙ elim (eqb_tells row e.place) [
            | inl here ↦
                ap
                (λ (row : ℕ).
                slice_index_or (set before e.place (slice_index_or before e.place [] ++ entry_at (column, e.value) ∷ [])) row [])
                here.1
                ∙ get_or-set_same before e.place (slice_index_or before e.place [] ++ entry_at (column, e.value) ∷ []) []
                place_before
                ∙ ap (λ (xs : List Entry). xs ++ entry_at (column, e.value) ∷ [])
                (so_far.longer e.place place_within
                ∙ length-row_entry column (value_at (take k entries) e.place) (slice_index_or initial e.place []) new.before)
                ∙ ap (λ (xs : List Entry). slice_index_or initial e.place [] ++ xs) (sym (entries_from-other column e.value [] positive))
                ∙ ap (λ (v : ℕ). slice_index_or initial e.place [] ++ entries_from column (v ∷ [])) (sym new.after)
                ∙ ap (λ (n : ℕ). slice_index_or initial e.place [] ++ entries_from column (value_at (take n entries) e.place ∷ []))
                (sym next)
                ∙ ap (λ (row : ℕ). slice_index_or initial row [] ++ entries_from column (value_at (take (k + 1) entries) row ∷ []))
                (sym here.1)
            | inr other ↦
                get_or-set_other before e.place row (slice_index_or before e.place [] ++ entry_at (column, e.value) ∷ []) [] other.1
                ∙ so_far.longer row row_within
                ∙ ap (λ (v : ℕ). slice_index_or initial row [] ++ entries_from column (v ∷ []))
                (sym (value_at-more k row entries e d within is_next (λ same. other.1 (sym same))))
                ∙ ap (λ (n : ℕ). slice_index_or initial row [] ++ entries_from column (value_at (take n entries) row ∷ [])) (sym next)
          ];
    }

-- the rows of the first columns, and of one more

abbrev pub rows_of : ℕ → List (List Entry) → List (List Entry)
rows_of height columns = map entries_of (matrix_from height columns)

pub length-rows_of : (height : ℕ) (columns : List (List Entry)) → length (rows_of height columns) ≡ height
length-rows_of height columns = length-map (matrix_from height columns) entries_of ∙ length-matrix_from height columns

pub row-rows_of : (height row : ℕ) (columns : List (List Entry)) → row < height
    → slice_index_or (rows_of height columns) row [] ≡ entries_of (row_at columns row)
row-rows_of height row columns within =
    get_or-map entries_of (matrix_from height columns) row [] ∙ ap entries_of (row-matrix_from height row columns within)

pub rows_of-filled : (height : ℕ) (columns rows : List (List Entry)) → length rows ≡ height
    → ((row : ℕ) → row < height → slice_index_or rows row [] ≡ entries_of (row_at columns row)) → rows ≡ rows_of height columns
rows_of-filled height columns rows size same =
    fill_by_all (λ (row : ℕ). entries_of (row_at columns row)) rows height [] size same
    ∙ sym (map-map entries_of (row_at columns) (range_with_len 0 height))

pub rows_of-none : (height : ℕ) → replicate height [] ≡ rows_of height []
rows_of-none height =
    rows_of-filled height [] (replicate height []) (length-replicate height [])
    (λ row within. get_or-replicate height row [] [] within)

pub rows_of-more : (height k : ℕ) (columns before after : List (List Entry)) (column : List Entry) → k < length columns
    → column ≡ get_or columns k [] → before ≡ rows_of height (take k columns) → HaveColumn k column before after
    → after ≡ rows_of height (take (k + 1) columns)
rows_of-more height k columns before after column within is_next so_far more =
    let rows_before : length before ≡ height = ap length so_far ∙ length-rows_of height (take k columns) in
    let count : length (take k columns) ≡ k = length-take-le k columns (omega (arith, within)) in
    rows_of-filled height (take (k + 1) columns) after (more.height ∙ rows_before)
    (λ row row_within.
    let numbers : List ℕ = row_at (take k columns) row in
    let place : length numbers ≡ k = length-map (take k columns) (λ (column : List Entry). value_at column row) ∙ count in
    more.longer row (omega (arith, row_within, rows_before))
    ∙ ap (λ (rows : List (List Entry)). slice_index_or rows row [] ++ entries_from k (value_at column row ∷ [])) so_far
    ∙ ap (λ (xs : List Entry). xs ++ entries_from k (value_at column row ∷ []))
    (row-rows_of height row (take k columns) row_within)
    ∙ ap (λ (n : ℕ). entries_of numbers ++ entries_from n (value_at column row ∷ []))
    (let at_end : k ≡ 0 + length numbers = omega (arith, place) in at_end)
    ∙ sym (entries_from-push 0 (value_at column row) numbers)
    ∙ ap entries_of
    (ap (λ (column : List Entry). numbers ++ value_at column row ∷ []) is_next
    ∙ sym (map_push (λ (column : List Entry). value_at column row) (take k columns) (get_or columns k []))
    ∙ ap (λ (columns : List (List Entry)). row_at columns row) (sym (take_more columns k [] within))))
