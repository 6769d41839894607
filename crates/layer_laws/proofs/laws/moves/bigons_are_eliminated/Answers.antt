use Rattle.layer_laws.proofs.Bigons.{bigon-closes_first, bigon-closes_second}
use Rattle.layer_laws.proofs.laws.moves.bigons_are_eliminated.Goals as goal

pub returns : goal.returns
returns c = record { first = bigon-closes_first; second = bigon-closes_second }
