use Rattle.kink_and_finger_laws.proofs.FingerDropSums.{state_sum-without_finger}
use Rattle.kink_and_finger_laws.proofs.circles.dropped_bigons_keep_the_state_sum.Goals as goal

pub returns : goal.returns
returns c = state_sum-without_finger
