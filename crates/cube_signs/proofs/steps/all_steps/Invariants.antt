use Rattle.cube_signs.specs.Steps.{steps_in, HaveSteps}
use Rattle.cube_signs.proofs.steps.all_steps.Given as goal

abbrev pub invariant-states : goal.invariant-states
invariant-states l = HaveSteps l.diagram l.state (steps_in l.rows.items)
