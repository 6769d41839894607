use Rattle.std.proofs.Common.{refl}
use Rattle.kh_types.specs.Acceptance.{accepted, first_fault}
use Rattle.kink_and_finger_laws.proofs.circles.worked_sums.Goals as goal

pub returns : goal.returns
unfolding accepted first_fault
returns c = record {
  curl = refl;
  kinked = refl;
  two = refl;
  over = refl;
  fingered = refl;
  under_plus = refl;
  under_minus = refl;
  over_plus = refl;
  over_minus = refl;
  trefoil_accepted = refl;
  circle_accepted = refl;
}
