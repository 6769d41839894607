use Rattle.drop_view_laws.proofs.Bigons.{IsBigonView-dropped}
use Rattle.drop_view_laws.proofs.Signs.{AreBigonSigns-dropped}
use Rattle.drop_view_laws.proofs.laws.bigons_are_seen_alike.Goals as goal

pub returns : goal.returns
returns c = record { view = IsBigonView-dropped; signs = AreBigonSigns-dropped }
