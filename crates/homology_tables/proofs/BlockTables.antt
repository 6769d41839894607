-- The rows of a table stand block by block, since quantum degrees without a block have no rows.
use Rattle.std.proofs.Common.{◌≡◌, ℕ, ◌+◌, ◌<◌, ◌≤◌, ◌∙◌, List, [], ◌∷◌, ◌++◌, ℤ, pos, length, map, take, take_all, get_or, sym, ap, ap₂, arith, Bool, false}
use Rattle.std.specs.Prelude.{nat_lt}
use Rattle.std.specs.List.{filter, flat_map}
use Rattle.std.proofs.lemmas.Grind.{flat_map-append}
use Rattle.std.proofs.lemmas.List.{append-nil, get_or-map, length-map, take_more}
use Rattle.kh_types.specs.Table.{Row, Table, from_minus, is_shown}
use Rattle.kh_types.specs.declared.limits.TheConstants.{EXPONENT}
use Rattle.kh_types.proofs.FilteredLists.{filter-none, flat_map-filter}
use Rattle.kh_types.proofs.RowSums.{row_by, rows_by}

module _ (rows : ℤ → List Row) where
  -- the rows of one block more; a degree that is read from memory and kept there is the same
  pub rows-more : (degrees : List ℤ) (k : ℕ) (read kept : ℤ) (made next : List Row) → made ≡ flat_map rows (take k degrees)
      → k < length degrees → read ≡ get_or degrees k read → kept ≡ read → next ≡ made ++ rows kept
      → next ≡ flat_map rows (take (k + 1) degrees)
  rows-more degrees k read kept made next is_made below is_read is_kept is_next =
      is_next
      ∙ ap₂ (λ (xs ys : List Row). xs ++ ys) is_made
      (ap rows (is_kept ∙ is_read) ∙ sym (append-nil (rows (get_or degrees k read))))
      ∙ sym (flat_map-append rows (take k degrees) (get_or degrees k read ∷ []))
      ∙ ap (flat_map rows) (sym (take_more degrees k read below))

  -- the rows of all blocks
  pub rows-all : (degrees all : List ℤ) (k : ℕ) (made : List Row) → made ≡ flat_map rows (take k degrees) → length degrees ≤ k
      → degrees ≡ all → made ≡ flat_map rows all
  rows-all degrees all k made is_made past is_degrees = is_made ∙ ap (flat_map rows) (take_all k degrees past ∙ is_degrees)

-- a number of elements with rows
abbrev pub table_with : ℕ → List Row → Table
table_with field rows = record { field = field; rows = rows }

-- dimensions that are 0 at quantum degrees without a block
module _ (n : ℕ) (dims : ℤ → ℤ → ℕ) (has : ℤ → Bool) (without : (i j : ℤ) → has j ≡ false → dims i j ≡ 0) where
  pub rows-none : (j : ℤ) → has j ≡ false → rows_by n dims j ≡ []
  rows-none j none =
      let all = from_minus n in
      let row = row_by dims j in
      filter-none is_shown (map row all) (row (pos 0))
      (λ k below.
      ap is_shown (get_or-map row all k (pos 0) (row (pos 0)) (omega (arith, below, length-map all row)))
      ∙ ap (nat_lt 0) (without (get_or all k (pos 0)) j none))

  pub rows-blocks : (most : ℕ) → flat_map (rows_by n dims) (from_minus most) ≡ flat_map (rows_by n dims) (filter has (from_minus most))
  rows-blocks most = sym (flat_map-filter has (rows_by n dims) (from_minus most) rows-none)

  pub table-whole : (p field : ℕ) (rows : List Row) → field ≡ p → rows ≡ flat_map (rows_by n dims) (filter has (from_minus EXPONENT))
      → table_with field rows ≡ table_with p (flat_map (rows_by n dims) (from_minus EXPONENT))
  table-whole p field rows is_field is_rows = ap₂ table_with is_field (is_rows ∙ sym (rows-blocks EXPONENT))
