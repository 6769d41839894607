use Rattle.link_laws.proofs.AddedMoves.{link-moved}
use Rattle.link_laws.proofs.laws.moves_keep_the_link.Goals as goal

pub returns : goal.returns
returns c = link-moved
