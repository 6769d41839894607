use Rattle.std.proofs.Common.{refl}
use Rattle.mark_laws.proofs.laws.marks.known_marks_over_two_elements.Goals as goal

pub returns : goal.returns
returns c = record { arc = refl; loop_marked = refl }
