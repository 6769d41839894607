use Rattle.link_laws.proofs.AtZero.{survivors-zero}
use Rattle.link_laws.proofs.moves.survivors_at_zero_are_homology.Goals as goal

pub returns : goal.returns
returns c = survivors-zero
