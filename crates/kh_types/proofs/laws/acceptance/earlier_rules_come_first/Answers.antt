use Rattle.std.proofs.Common.{refl}
use Rattle.kh_types.specs.Acceptance.{first_fault}
use Rattle.kh_types.proofs.laws.acceptance.earlier_rules_come_first.Goals as goal

pub returns : goal.returns
unfolding first_fault
returns c = record {
  under_before_over = refl;
  over_too = refl;
  over_before_two_arc = refl;
  two_arc_later = refl;
  under_before_both = refl;
  over_of_both = refl;
  two_arc_of_both = refl;
  two_arc_before_checkerboard = refl;
  checkerboard_later = refl;
  interval_before_both = refl;
  under_of_both = refl;
  checkerboard_of_both = refl;
}
