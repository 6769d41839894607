use Rattle.drop_view_laws.proofs.BigonCuts.{IsBigonCut-dropped}
use Rattle.drop_view_laws.proofs.laws.bigons_are_cut.Goals as goal

pub returns : goal.returns
returns c = IsBigonCut-dropped
