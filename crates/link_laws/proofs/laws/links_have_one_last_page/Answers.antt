use Rattle.prime_field.specs.SmallFields.{field-small_prime}
use Rattle.plain_matrix.proofs.FieldInverses.{inverses-field}
use Rattle.link_laws.proofs.LastPages.{lasting-link}
use Rattle.link_laws.proofs.laws.links_have_one_last_page.Goals as goal

pub returns : goal.returns
returns c =
    record {
      lasting = lasting-link;
      fields = λ p first last prime link. lasting-link p first last (inverses-field p (field-small_prime p prime)) link;
    }
