use Rattle.std.proofs.lemmas.Bool.Decides.{nat_tests}
use Rattle.std.proofs.Common.{arith}
use Rattle.cube_signs.proofs.StateLists.{length-resolutions}
use Rattle.cube_signs.proofs.steps.all_steps.Goals as goal

pub steps_of-requires-clause-state : goal.steps_of-requires-clause-state
steps_of-requires-clause-state = grind (arith, nat_tests, length-resolutions)

pub returns : goal.returns
returns = grind (arith, nat_tests, length-resolutions)
