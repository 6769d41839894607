use Rattle.circle_smoothing.proofs.EdgeNumbers.{renumbers}
use Rattle.circle_smoothing.proofs.laws.numbers.edges_renumber_circles.Goals as goal

pub returns : goal.returns
returns c = renumbers
