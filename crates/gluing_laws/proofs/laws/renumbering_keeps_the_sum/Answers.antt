use Rattle.gluing_laws.proofs.Renumbered.{sum_with-renumbered}
use Rattle.gluing_laws.proofs.laws.renumbering_keeps_the_sum.Goals as goal

pub returns : goal.returns
returns c = sum_with-renumbered
