use Rattle.commit_core.proofs.Kept.{zero-turns}
use Rattle.commit_core.proofs.laws.zero_is_by_the_ranks.Goals as goal

pub returns : goal.returns
returns c = zero-turns
