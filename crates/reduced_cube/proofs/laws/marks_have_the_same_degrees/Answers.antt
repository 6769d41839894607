use Rattle.reduced_cube.proofs.DegreeLemmas.{reduced_degrees-marks}
use Rattle.reduced_cube.proofs.laws.marks_have_the_same_degrees.Goals as goal

pub returns : goal.returns
returns c = reduced_degrees-marks
