use Rattle.square_laws.proofs.SameNumbers.{deformed-same}
use Rattle.square_laws.proofs.laws.deformed.deformed_coefficients_depend_on_residues.Goals as goal

pub returns : goal.returns
returns c = deformed-same
