use Rattle.kink_and_finger_laws.proofs.KinkCircles.{circles-closing, circles-through}
use Rattle.kink_and_finger_laws.proofs.circles.kinks_close_or_go_through.Goals as goal

pub returns : goal.returns
returns c = record { through = circles-through; closing = circles-closing }
