use Rattle.surface_laws.proofs.Tables.{value-cylinder}
use Rattle.surface_laws.proofs.worked.cylinders_are_identities.Goals as goal

pub returns : goal.returns
returns c = value-cylinder
