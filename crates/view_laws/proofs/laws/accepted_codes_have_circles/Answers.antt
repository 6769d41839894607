use Rattle.view_laws.proofs.CircleNames.{HasCircles-accepted}
use Rattle.view_laws.proofs.laws.accepted_codes_have_circles.Goals as goal

pub returns : goal.returns
returns c = HasCircles-accepted
