use Rattle.layer_laws.proofs.Bigons.{bigon-keeps_first, bigon-keeps_second}
use Rattle.layer_laws.proofs.laws.survivors.bigons_keep_survivors.Goals as goal

pub returns : goal.returns
returns c = record { first = bigon-keeps_first; second = bigon-keeps_second }
