use Rattle.history_laws.proofs.ZeroLemmas.{dimension_of-zero}
use Rattle.history_laws.proofs.laws.zero_complexes.Goals as goal

pub returns : goal.returns
returns c = dimension_of-zero
