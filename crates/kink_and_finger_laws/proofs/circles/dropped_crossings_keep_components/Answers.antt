use Rattle.kink_and_finger_laws.proofs.ComponentDrops.{components-dropped}
use Rattle.kink_and_finger_laws.proofs.circles.dropped_crossings_keep_components.Goals as goal

pub returns : goal.returns
returns c = components-dropped
