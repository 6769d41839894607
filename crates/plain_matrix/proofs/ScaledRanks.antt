-- Matrices whose entries are entries of one another, up to factors and the order of rows and columns, have one rank.
use Rattle.std.proofs.Common.{List, arith, refl, sym, ℕ, ◌*◌, ◌∙◌, ◌≡◌}
use Rattle.kh_types.proofs.FactorLemmas.{factors-transposed}
use Rattle.kh_types.proofs.PivotLemmas.{rank-like}
use Rattle.kh_types.proofs.PlainRank.{rank-least}
use Rattle.kh_types.proofs.RankLaws.{rank-plain}
use Rattle.kh_types.proofs.Residues.{same-equal, same-mul}
use Rattle.kh_types.proofs.Sums.{sum_below-equal, sum_below-scaled}
use Rattle.kh_types.specs.Complex.{entry_in}
use Rattle.kh_types.specs.MatrixRanks.{IsMatrix}
use Rattle.kh_types.specs.Products.{Factors, product_at}
use Rattle.kh_types.specs.Rank.{rank}
use Rattle.kh_types.specs.Residues.{HasInverses}
use Rattle.plain_matrix.specs.Scaled.{IsScaled}

-- what the other is a product of gives factors of the matrix
pub factors-scaled : (p s : ℕ) (M N : ℕ → ℕ → ℕ) → IsScaled p M N → Factors p N s → Factors p M s
factors-scaled p s M N is f =
    record {
      left = λ i k. is.row_factor i * f.left (is.row i) k;
      right = λ k j. is.column_factor j * f.right k (is.column j);
      product = λ i j.
          same-equal p (product_at s (λ i k. is.row_factor i * f.left (is.row i) k) (λ k j. is.column_factor j * f.right k (is.column j)) i j)
          (is.row_factor i * is.column_factor j * product_at s f.left f.right (is.row i) (is.column j))
          (sum_below-equal s (λ k. is.row_factor i * f.left (is.row i) k * (is.column_factor j * f.right k (is.column j)))
          (λ k. is.row_factor i * is.column_factor j * (f.left (is.row i) k * f.right k (is.column j)))
          (λ k. regrouped (is.row_factor i) (f.left (is.row i) k) (is.column_factor j) (f.right k (is.column j)))
          ∙ sum_below-scaled s (is.row_factor i * is.column_factor j) (λ k. f.left (is.row i) k * f.right k (is.column j)))
          ∙ same-mul p (is.row_factor i * is.column_factor j) (is.row_factor i * is.column_factor j)
          (product_at s f.left f.right (is.row i) (is.column j)) (N (is.row i) (is.column j)) refl (f.product (is.row i) (is.column j))
          ∙ same-equal p (is.row_factor i * is.column_factor j * N (is.row i) (is.column j))
          (is.row_factor i * (is.column_factor j * N (is.row i) (is.column j))) (omega arith)
          ∙ sym (is.same i j);
    }
  where
    regrouped : (a b c d : ℕ) → a * b * (c * d) ≡ a * c * (b * d)
    regrouped a b c d = omega arith

pub rank-scaled_transposes : (p columns width : ℕ) (rows others : List (List ℕ)) → HasInverses p → IsMatrix p columns rows
    → IsMatrix p width others → IsScaled p (entry_in rows) (λ i j. entry_in others j i)
    → IsScaled p (entry_in others) (λ i j. entry_in rows j i) → rank p rows ≡ rank p others
rank-scaled_transposes p columns width rows others field is others_is there back =
    rank-plain p columns (rank p others) rows field is
    (rank-like p (rank p others) (entry_in others) (entry_in rows)
    (λ s factors.
    factors-scaled p s (entry_in rows) (λ i j. entry_in others j i) there (factors-transposed p s (entry_in others) factors))
    (λ s factors.
    factors-scaled p s (entry_in others) (λ i j. entry_in rows j i) back (factors-transposed p s (entry_in rows) factors))
    (rank-least p width others field others_is))
