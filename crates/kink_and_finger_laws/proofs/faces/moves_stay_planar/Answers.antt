use Rattle.std.proofs.Common.{arith}
use Rattle.kink_and_finger_laws.proofs.Smoothed.{IsClosedPlanar-smoothed}
use Rattle.kink_and_finger_laws.proofs.KinkAdded.{IsClosedPlanar-kinked}
use Rattle.kink_and_finger_laws.proofs.faces.moves_stay_planar.Goals as goal

pub returns : goal.returns
returns c = record {
  smoothed = IsClosedPlanar-smoothed;
  kinked = IsClosedPlanar-kinked;
  under_plus = λ n. grind arith;
  under_minus = λ n. grind arith;
  over_plus = λ n. grind arith;
  over_minus = λ n. grind arith;
}
