use Rattle.kink_and_finger_laws.proofs.KinkDropSums.{state_sum-without_kink}
use Rattle.kink_and_finger_laws.proofs.circles.dropped_kinks_keep_the_state_sum.Goals as goal

pub returns : goal.returns
returns c = state_sum-without_kink
