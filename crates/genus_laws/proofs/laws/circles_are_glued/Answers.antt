use Rattle.genus_laws.proofs.GluedCircles.{circles-glued}
use Rattle.genus_laws.proofs.laws.circles_are_glued.Goals as goal

pub returns : goal.returns
returns c = circles-glued
