use Rattle.link_laws.proofs.CutViews.{cut-view}
use Rattle.link_laws.proofs.PlainCuts.{cut-plain}
use Rattle.link_laws.proofs.moves.views_are_cut.Goals as goal

pub returns : goal.returns
returns c = record { deformed = cut-view; plain = cut-plain }
