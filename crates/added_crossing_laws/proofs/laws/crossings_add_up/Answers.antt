use Rattle.added_crossing_laws.proofs.CodeSums.{sum-crossing}
use Rattle.added_crossing_laws.proofs.laws.crossings_add_up.Goals as goal

pub returns : goal.returns
returns c = sum-crossing
