use Rattle.std.proofs.Common.{refl}
use Rattle.kh_types.specs.Acceptance.{accepted, first_fault}
use Rattle.diagram_moves.proofs.worked.worked_joins.Goals as goal

pub returns : goal.returns
unfolding accepted first_fault
returns c = record {
  curl = refl;
  over = refl;
  kinked = refl;
  fingered = refl;
  components = refl;
  two = refl;
  circle = refl;
  circle_accepted = refl;
}
