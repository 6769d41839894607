use Rattle.homology_tables.proofs.OutsideExponents.{euler-outside}
use Rattle.homology_tables.proofs.laws.eulers_are_within_the_exponents.Goals as goal

pub returns : goal.returns
returns c = λ homology exponent is. euler-outside homology.rows exponent is.rows
