use Rattle.prime_field.specs.SmallFields.{field-small_prime}
use Rattle.prime_field.proofs.laws.small_primes_give_fields.Goals as goal

pub returns : goal.returns
returns c = field-small_prime
