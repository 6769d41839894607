use Rattle.drop_view_laws.proofs.KinkCuts.{IsKinkCut-dropped}
use Rattle.drop_view_laws.proofs.laws.kinks_are_cut.Goals as goal

pub returns : goal.returns
returns c = IsKinkCut-dropped
