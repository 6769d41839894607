use Rattle.view_laws.proofs.InnerEdges.{merge-identity, split-identity}
use Rattle.view_laws.proofs.laws.small_circles_come_and_go.Goals as goal

pub returns : goal.returns
returns c = record { merged = merge-identity; split = split-identity }
