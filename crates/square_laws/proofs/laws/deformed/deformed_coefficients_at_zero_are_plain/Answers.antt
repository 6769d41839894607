use Rattle.square_laws.proofs.RaisedDegrees.{deformed-below, deformed-plain}
use Rattle.square_laws.proofs.laws.deformed.deformed_coefficients_at_zero_are_plain.Goals as goal

pub returns-clause-below : goal.returns-clause-below
returns-clause-below c = deformed-below

pub returns-clause-plain : goal.returns-clause-plain
returns-clause-plain c = deformed-plain
