use Rattle.kh_types.proofs.EdgeCircles.{joins_or_parts}
use Rattle.circle_smoothing.proofs.laws.edges.edges_join_or_part.Goals as goal

pub returns : goal.returns
returns c = joins_or_parts
