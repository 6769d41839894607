use Rattle.surface_laws.proofs.Tables.{value-merge, value-split}
use Rattle.surface_laws.proofs.worked.pants_are_tables.Goals as goal

pub returns : goal.returns
returns c = record { merge = value-merge; split = value-split }
