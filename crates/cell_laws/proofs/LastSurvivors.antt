-- Where no coefficient is left other than 0, the survivors are the cells.
use Rattle.std.proofs.Common.{◌≡◌, ℕ, ◌+◌, ◌-◌, ◌<◌, ℤ, pos, ◌+ℤ◌, ◌-ℤ◌, List, length, refl, arith, Bool}
use Rattle.std.specs.List.{Contains, filter}
use Rattle.kh_types.specs.Complex.{entry_in}
use Rattle.kh_types.specs.Rank.{rank}
use Rattle.kh_types.specs.Residues.{HasInverses, Same}
use Rattle.kh_types.proofs.PivotLemmas.{rank-determined, rank-zeros}
use Rattle.kh_types.proofs.Residues.{same-equal}
use Rattle.cell_laws.specs.Cells.{Cells, table_of}
use Rattle.cell_laws.proofs.Members.{Contains-kept}
use Rattle.cell_laws.proofs.Tables.{entries-each, rank-table}
use Rattle.cell_laws.specs.Filtered.{cells_from, columns_from, differential_of, has_degree, rows_below, survivors}
use Rattle.cell_laws.proofs.Degrees.{is_below, is_from}

-- a table of zeros has rank 0
pub rank-nothing : {A : Type 0} (p : ℕ) (c : A → A → ℕ) (tails heads : List A) → HasInverses p → ((x y : A) → c x y < p)
    → ((x y : A) → Contains tails x → Contains heads y → c x y ≡ 0) → rank p (table_of c tails heads) ≡ 0
rank-nothing p c tails heads field below none =
    let M = entry_in (table_of c tails heads) in
    rank-determined p (rank p (table_of c tails heads)) 0 M (rank-table c tails heads p field below)
    (rank-zeros p M
    (entries-each c tails heads (λ n. Same p n 0) refl (λ x y has_x has_y. same-equal p (c x y) 0 (none x y has_x has_y))))

module _ {A : Type 0} (p : ℕ) (cells : Cells A) (field : HasInverses p) (below : (x y : A) → cells.coefficient x y < p)
    (none : (x y : A) → Contains cells.list x → Contains cells.list y → cells.coefficient x y ≡ 0) where
  rank-tested : (is_tail is_head : A → Bool)
      → rank p (table_of cells.coefficient (filter is_tail cells.list) (filter is_head cells.list)) ≡ 0
  rank-tested is_tail is_head =
      rank-nothing p cells.coefficient (filter is_tail cells.list) (filter is_head cells.list) field below
      (λ x y has_x has_y. none x y (Contains-kept is_tail cells.list x has_x).0 (Contains-kept is_head cells.list y has_y).0)

  pub survivors-last : (i t : ℤ) → survivors p cells i t ≡ length (cells_from cells i t)
  survivors-last i t =
      counted (length (cells_from cells i t)) (rank p (rows_below cells (i -ℤ pos 1) t)) (rank p (columns_from cells i t))
      (rank p (differential_of cells (i -ℤ pos 1)))
      (rank-tested (has_degree cells (i -ℤ pos 1)) (is_below cells ((i -ℤ pos 1) +ℤ pos 1) t))
      (rank-tested (is_from cells i t) (has_degree cells (i +ℤ pos 1)))
      (rank-tested (has_degree cells (i -ℤ pos 1)) (has_degree cells ((i -ℤ pos 1) +ℤ pos 1)))
    where
      counted : (n r k w : ℕ) → r ≡ 0 → k ≡ 0 → w ≡ 0 → n + r - k - w ≡ n
      counted n r k w no_row no_column none = omega (arith, no_row, no_column, none)
