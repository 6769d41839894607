use Rattle.layer_laws.proofs.Kinks.{kink-closes_first, kink-closes_second}
use Rattle.layer_laws.proofs.laws.moves.kinks_are_eliminated.Goals as goal

pub returns : goal.returns
returns c = record { first = kink-closes_first; second = kink-closes_second }
