use Rattle.mark_laws.proofs.TwoElements.{dimension-twice}
use Rattle.mark_laws.proofs.laws.marks.homology_is_reduced_homology_twice.Goals as goal

pub returns : goal.returns
returns c = dimension-twice
