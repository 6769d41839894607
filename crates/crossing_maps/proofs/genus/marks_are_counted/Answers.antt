use Rattle.crossing_maps.proofs.CountLemmas.{counted-marks}
use Rattle.crossing_maps.proofs.genus.marks_are_counted.Goals as goal

pub returns : goal.returns
returns c = counted-marks
