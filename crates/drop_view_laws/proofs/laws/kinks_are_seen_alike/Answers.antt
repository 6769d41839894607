use Rattle.drop_view_laws.proofs.Kinks.{IsKinkView-dropped}
use Rattle.drop_view_laws.proofs.Signs.{AreKinkSigns-dropped}
use Rattle.drop_view_laws.proofs.laws.kinks_are_seen_alike.Goals as goal

pub returns : goal.returns
returns c = record { view = IsKinkView-dropped; signs = AreKinkSigns-dropped }
