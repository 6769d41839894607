use Rattle.column_reduction.proofs.Alike.{complex-alike}
use Rattle.column_reduction.proofs.reduction_laws.complexes_are_known_by_places_and_entries.Goals as goal

pub returns : goal.returns
returns c = complex-alike
