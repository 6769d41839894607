use Rattle.prime_field.specs.SmallFields.{field-small_prime}
use Rattle.plain_matrix.proofs.FieldInverses.{inverses-field}
use Rattle.link_laws.proofs.Tables.{table-same}
use Rattle.link_laws.proofs.Paths.{dimension-link}
use Rattle.link_laws.proofs.laws.links_have_one_table.Goals as goal

pub returns : goal.returns
returns c =
    record {
      dimensions = dimension-link;
      table = λ p first last field link. table-same p first last (dimension-link p first last field link);
      fields = λ p first last prime link.
          table-same p first last (dimension-link p first last (inverses-field p (field-small_prime p prime)) link);
    }
