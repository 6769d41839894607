use Rattle.prime_field.specs.SmallFields.{field-small_prime}
use Rattle.plain_matrix.proofs.FieldInverses.{inverses-field}
use Rattle.link_laws.proofs.LastPages.{s-link, s_max-link, s_min-link}
use Rattle.link_laws.proofs.laws.knots_have_one_s.Goals as goal

pub returns : goal.returns
returns c =
    record {
      least = s_min-link;
      greatest = s_max-link;
      s = s-link;
      fields = λ p first last prime link. s-link p first last (inverses-field p (field-small_prime p prime)) link;
    }
