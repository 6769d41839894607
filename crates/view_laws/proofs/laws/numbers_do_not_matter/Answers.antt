use Rattle.view_laws.proofs.Renumbered.{dimension-renumbered_code}
use Rattle.view_laws.proofs.laws.numbers_do_not_matter.Goals as goal

pub returns : goal.returns
returns c = dimension-renumbered_code
