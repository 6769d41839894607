-- In a complex of zeros all ranks are 0, and the dimensions are its places alive.
use Rattle.std.proofs.Common.{◌≡◌, ℕ, ◌∙◌, List, [], ◌∷◌, ℤ, refl, arith, true, false}
use Rattle.std.specs.Prelude.{nat_eq}
use Rattle.std.specs.List.{list_all}
use Rattle.std.proofs.lemmas.Bool.{and_parts}
use Rattle.std.proofs.lemmas.Bool.Decides.{nat_tests, leb_tells}
use Rattle.std.proofs.lemmas.List.{get_or_past}
use Rattle.std.proofs.lemmas.List.Sums.{AllPass-from_list_all}
use Rattle.kh_types.specs.Rank.{has_entry, rank}
use Rattle.kh_types.specs.Complex.{Complex, degree_from, alive_count, dimension_of, is_zero}
use Rattle.kh_types.proofs.RankLemmas.{rank-none}
use Rattle.sparse_block.proofs.FindPivot.{is_zero_matrix}
use Rattle.history_laws.specs.RankSums.{rank_out}

-- a row of zeros has no entry
has_entry-cons : (x : ℕ) (row : List ℕ) → nat_eq 0 x ≡ true → has_entry row ≡ false → has_entry (x ∷ row) ≡ false
has_entry-cons x row is_zero none = grind (arith, nat_tests)

has_entry-zero_row : (row : List ℕ) → list_all (nat_eq 0) row ≡ true → has_entry row ≡ false
has_entry-zero_row [] zeros = refl
has_entry-zero_row (x ∷ row) zeros =
    let parts = and_parts (nat_eq 0 x) (list_all (nat_eq 0) row) zeros in
    has_entry-cons x row parts.0 (has_entry-zero_row row parts.1)

rank-zero_matrix : (p : ℕ) (matrix : List (List ℕ)) → is_zero_matrix matrix ≡ true → rank p matrix ≡ 0
rank-zero_matrix p [] zeros = refl
rank-zero_matrix p (row ∷ rows) zeros =
    let parts = and_parts (list_all (nat_eq 0) row) (is_zero_matrix rows) zeros in
    rank-none p row rows (has_entry-zero_row row parts.0) ∙ rank-zero_matrix p rows parts.1

-- in a complex of zeros all ranks are 0
zero_from : (complex : Complex) (distance : ℤ) → is_zero complex ≡ true
    → is_zero_matrix (degree_from complex distance).matrix ≡ true
zero_from complex distance zeros = grind (arith, nat_tests, leb_tells, get_or_past, AllPass-from_list_all)

pub rank_out-zero : (p : ℕ) (complex : Complex) (i : ℤ) → is_zero complex ≡ true → rank_out p complex i ≡ 0
rank_out-zero p complex i zeros = grind (arith, nat_tests, rank-zero_matrix, zero_from)

-- so its homology dimensions are its places alive
pub dimension_of-zero : (p : ℕ) (complex : Complex) (i : ℤ) → is_zero complex ≡ true
    → dimension_of p complex i ≡ alive_count complex i
dimension_of-zero p complex i zeros = grind (arith, nat_tests, rank_out-zero)
