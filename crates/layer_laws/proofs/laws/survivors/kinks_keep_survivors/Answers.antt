use Rattle.layer_laws.proofs.Kinks.{kink-keeps_first, kink-keeps_second}
use Rattle.layer_laws.proofs.laws.survivors.kinks_keep_survivors.Goals as goal

pub returns : goal.returns
returns c = record { first = kink-keeps_first; second = kink-keeps_second }
