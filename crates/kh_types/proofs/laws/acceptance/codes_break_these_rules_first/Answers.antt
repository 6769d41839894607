use Rattle.std.proofs.Common.{refl}
use Rattle.kh_types.specs.Acceptance.{first_fault}
use Rattle.kh_types.proofs.laws.acceptance.codes_break_these_rules_first.Goals as goal

pub returns : goal.returns
unfolding first_fault
returns c = record {
  arc_range = refl;
  arc_times = refl;
  interval = refl;
  under = refl;
  over = refl;
  two_arc = refl;
  components = refl;
  component_counts = refl;
  least_second = refl;
  one_arc = refl;
  least_interval = refl;
  no_checkerboard = refl;
  checkerboard = refl;
  torus = refl;
}
