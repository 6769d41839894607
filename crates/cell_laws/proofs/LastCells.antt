-- Which ways back count, and cells without a differential.
use Rattle.std.proofs.lemmas.Bool.Decides.{nat_tests}
use Rattle.std.proofs.Common.{◌≡◌, ℕ, ◌<◌, ℤ, pos, ◌+ℤ◌, List, length, refl, ap, arith, Bool, false}
use Rattle.std.specs.List.{Contains, filter}
use Rattle.kh_types.specs.Complex.{entry_in}
use Rattle.kh_types.specs.Rank.{minus_mod, rank}
use Rattle.kh_types.specs.Residues.{HasInverses, Same}
use Rattle.kh_types.proofs.PivotLemmas.{rank-determined, rank-zeros}
use Rattle.kh_types.proofs.Residues.{same-equal}
use Rattle.cell_laws.specs.Cells.{Cells, cells_at, differential_at, dimension_at, has_both}
use Rattle.cell_laws.specs.Elimination.{eliminated, way_back}
use Rattle.cell_laws.proofs.Members.{Contains-kept, sum_by-kept}
use Rattle.cell_laws.proofs.Tables.{entries-each, rank-table}

-- ways back that are 0 may be left out
pub eliminated-kept : {A : Type 0} (p : ℕ) (c : A → A → ℕ) (test : A × A → Bool) (pairs : List (A × A)) (x y : A)
    → ((pair : A × A) → Contains pairs pair → test pair ≡ false → way_back p c x y pair ≡ 0)
    → eliminated p c (filter test pairs) x y ≡ eliminated p c pairs x y
eliminated-kept p c test pairs x y none = ap (minus_mod p (c x y)) (sum_by-kept (way_back p c x y) test pairs none)

-- cells without a differential are counted
module _ {A : Type 0} (p : ℕ) (cells : Cells A) (field : HasInverses p) (below : (x y : A) → cells.coefficient x y < p)
    (none : (x y : A) → Contains cells.list x → Contains cells.list y → cells.coefficient x y ≡ 0) where
  rank-nothing : (i j : ℤ) → rank p (differential_at cells i j) ≡ 0
  rank-nothing i j =
      let tails = cells_at cells i j in
      let heads = cells_at cells (i +ℤ pos 1) j in
      let M = entry_in (differential_at cells i j) in
      rank-determined p (rank p (differential_at cells i j)) 0 M (rank-table cells.coefficient tails heads p field below)
      (rank-zeros p M
      (entries-each cells.coefficient tails heads (λ n. Same p n 0) refl
      (λ x y has_x has_y. same-equal p (cells.coefficient x y) 0
      (none x y (Contains-kept (has_both cells i j) cells.list x has_x).0
      (Contains-kept (has_both cells (i +ℤ pos 1) j) cells.list y has_y).0))))

  pub dimension-nothing : (i j : ℤ) → dimension_at p cells i j ≡ length (cells_at cells i j)
  dimension-nothing i j = grind (arith, nat_tests, rank-nothing)
