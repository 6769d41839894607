use Rattle.cube_signs.proofs.EdgeHeads.{minuses-behind}
use Rattle.cube_signs.proofs.laws.heads.minuses_behind_an_edge.Goals as goal

pub returns : goal.returns
returns c = minuses-behind
