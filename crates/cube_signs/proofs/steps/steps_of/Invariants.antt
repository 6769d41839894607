use Rattle.cube_signs.specs.Steps.{HasSteps}
use Rattle.cube_signs.proofs.steps.steps_of.Given as goal

abbrev pub invariant-places : goal.invariant-places
invariant-places l = HasSteps l.diagram l.state l.place l.steps.items
