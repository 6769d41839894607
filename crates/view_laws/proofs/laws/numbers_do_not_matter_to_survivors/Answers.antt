use Rattle.view_laws.proofs.Renumbered.{survivors-renumbered_code}
use Rattle.view_laws.proofs.laws.numbers_do_not_matter_to_survivors.Goals as goal

pub returns : goal.returns
returns c = survivors-renumbered_code
