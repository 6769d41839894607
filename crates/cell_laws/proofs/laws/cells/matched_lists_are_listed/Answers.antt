use Rattle.cell_laws.proofs.Matched.{AreListed-matched}
use Rattle.cell_laws.proofs.laws.cells.matched_lists_are_listed.Goals as goal

pub returns : goal.returns
returns g c to back first second are = AreListed-matched to back first second are
