use Rattle.reduced_cube.proofs.MarkedMinus.{minus-stays}
use Rattle.reduced_cube.proofs.laws.marked_minus_stays.Goals as goal

pub returns : goal.returns
returns c = minus-stays
