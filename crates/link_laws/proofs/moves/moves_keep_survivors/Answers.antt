use Rattle.link_laws.proofs.AddedMoves.{link-moved}
use Rattle.link_laws.proofs.Paths.{survivors-link}
use Rattle.link_laws.proofs.moves.moves_keep_survivors.Goals as goal

pub returns : goal.returns
returns c = λ p h code new change field holds is. survivors-link p h code new field (link-moved code new change holds is)
