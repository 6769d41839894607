use Rattle.prime_field.specs.SmallFields.{field-small_prime}
use Rattle.plain_matrix.proofs.FieldInverses.{inverses-field}
use Rattle.link_laws.proofs.AddedMoves.{link-moved}
use Rattle.link_laws.proofs.Paths.{dimension-link}
use Rattle.link_laws.proofs.Tables.{table-same}
use Rattle.link_laws.proofs.moves.moves_keep_homology.Goals as goal

pub returns : goal.returns
returns c =
    record {
      dimensions = λ p code new change field holds is. dimension-link p code new field (link-moved code new change holds is);
      table = λ p code new change field holds is.
          table-same p code new (dimension-link p code new field (link-moved code new change holds is));
      fields = λ p code new change prime holds is.
          table-same p code new
          (dimension-link p code new (inverses-field p (field-small_prime p prime)) (link-moved code new change holds is));
    }
