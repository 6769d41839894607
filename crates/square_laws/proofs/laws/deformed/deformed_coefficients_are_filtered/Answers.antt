use Rattle.square_laws.proofs.RaisedDegrees.{deformed-equal, deformed-raised}
use Rattle.square_laws.proofs.laws.deformed.deformed_coefficients_are_filtered.Goals as goal

pub returns-clause-raised : goal.returns-clause-raised
returns-clause-raised c = deformed-raised

pub returns-clause-equal : goal.returns-clause-equal
returns-clause-equal c = deformed-equal
