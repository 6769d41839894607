use Rattle.std.proofs.Common.{refl}
use Rattle.reduced_cube.proofs.laws.marks_matter.Goals as goal

pub returns : goal.returns
returns c = record { arc = refl; loop_marked = refl }
