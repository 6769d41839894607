use Rattle.kh_types.proofs.EdgeNames.{merges_or_splits}
use Rattle.circle_smoothing.proofs.laws.edges.edges_merge_or_split.Goals as goal

pub returns : goal.returns
returns c = merges_or_splits
