use Rattle.added_crossing_laws.proofs.CodeSums.{sum-saddle}
use Rattle.added_crossing_laws.proofs.laws.saddles_add_up.Goals as goal

pub returns : goal.returns
returns c = sum-saddle
