use Rattle.cube_signs.proofs.EdgeHeads.{heads}
use Rattle.cube_signs.proofs.laws.heads.heads_of_an_edge.Goals as goal

pub returns : goal.returns
returns c = heads
