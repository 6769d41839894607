use Rattle.std.proofs.lemmas.Bool.Decides.{nat_tests}
use Rattle.std.proofs.Common.{arith}
use Rattle.orient_arcs.proofs.ComponentSteps.{step_more, step_room, step_same}
use Rattle.orient_arcs.proofs.renumbering.push_component.Goals as goal

pub push_walk-requires : goal.push_walk-requires
push_walk-requires = grind (arith, nat_tests, step_room)

pub returns-then-is_new : goal.returns-then-is_new
returns-then-is_new = grind (arith, nat_tests, step_more)

pub returns-else-is_new : goal.returns-else-is_new
returns-else-is_new = grind (arith, nat_tests, step_same)
