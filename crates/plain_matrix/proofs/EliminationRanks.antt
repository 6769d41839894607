-- The plain rank is the number of steps of any elimination, and the order of the rows does not change it.
use Rattle.std.proofs.Common.{◌≡◌, ℕ, ◌%◌, ◌∙◌, List, ap, sym}
use Rattle.kh_types.specs.Rank.{rank}
use Rattle.kh_types.specs.Complex.{entry_in}
use Rattle.kh_types.specs.Residues.{HasInverses}
use Rattle.kh_types.specs.Products.{Factors}
use Rattle.kh_types.specs.MatrixRanks.{HasRank, IsMatrix}
use Rattle.kh_types.proofs.PivotLemmas.{rank-like, rank-pivot, rank-zeros}
use Rattle.kh_types.proofs.PlainRank.{rank-least}
use Rattle.kh_types.proofs.RankLaws.{rank-plain}
use Rattle.plain_matrix.specs.Ranks.{IsAmong}
use Rattle.plain_matrix.specs.Steps.{IsElimination}
use Rattle.plain_matrix.specs.Steps.IsElimination.{over, step}

-- the number of steps of any elimination is the rank
pub rank-eliminated : (p r : ℕ) (M : ℕ → ℕ → ℕ) → HasInverses p → IsElimination p M r → HasRank p M r
rank-eliminated p r M field (over zeros) = rank-zeros p M zeros
rank-eliminated p r M field (step {rest = N} {row = a} {column = b} {steps = n} leaves rest) =
    rank-pivot p n M N a b field leaves (rank-eliminated p n N field rest)

-- so it is the plain rank
pub rank-pivots : (p n r : ℕ) (rows : List (List ℕ)) → HasInverses p → IsMatrix p n rows → IsElimination p (entry_in rows) r
    → rank p rows ≡ r
rank-pivots p n r rows field is eliminated = rank-plain p n r rows field is (rank-eliminated p r (entry_in rows) field eliminated)

factors-among : (p s : ℕ) (rows others : List (List ℕ)) → IsAmong rows others → Factors p (entry_in others) s
    → Factors p (entry_in rows) s
factors-among p s rows others among f =
    record {
      left = λ i k. f.left (among.place i) k;
      right = f.right;
      product = λ i j. f.product (among.place i) j ∙ ap (λ z. z % p) (sym (among.same i j));
    }

-- the order of the rows does not matter, nor do rows of zeros and rows that stand twice
pub rank-rows : (p n m : ℕ) (rows others : List (List ℕ)) → HasInverses p → IsMatrix p n rows → IsMatrix p m others
    → IsAmong rows others → IsAmong others rows → rank p rows ≡ rank p others
rank-rows p n m rows others field is others_is there back =
    rank-plain p n (rank p others) rows field is
    (rank-like p (rank p others) (entry_in others) (entry_in rows) (λ s. factors-among p s rows others there)
    (λ s. factors-among p s others rows back) (rank-least p m others field others_is))
