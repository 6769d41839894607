use Rattle.kink_and_finger_laws.proofs.Contracted.{class_count-contracted}
use Rattle.kink_and_finger_laws.proofs.StrandCircles.{circles-dropped}
use Rattle.kink_and_finger_laws.proofs.circles.dropped_crossings_leave_circles.Goals as goal

pub returns : goal.returns
returns c = record { contracted = class_count-contracted; dropped = circles-dropped }
