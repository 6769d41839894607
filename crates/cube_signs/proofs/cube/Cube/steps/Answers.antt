use Rattle.std.proofs.lemmas.Bool.Decides.{nat_tests}
use Rattle.std.proofs.Common.{arith}
use Rattle.cube_signs.proofs.StepLemmas.{AreSmall-steps, row-steps}
use Rattle.cube_signs.proofs.cube.Cube.steps.Goals as goal

pub returns-clause-steps : goal.returns-clause-steps
returns-clause-steps = grind (arith, nat_tests, row-steps)

pub returns-clause-small : goal.returns-clause-small
returns-clause-small = grind (arith, nat_tests, AreSmall-steps, row-steps)
