use Rattle.std.proofs.lemmas.Bool.Decides.{nat_tests}
use Rattle.std.proofs.Common.{arith}
use Rattle.cube_signs.proofs.LevelLemmas.{names-all_states, names-more_states, states_at-below}
use Rattle.cube_signs.proofs.cube.Cube.names.Goals as goal

pub push_names-requires : goal.push_names-requires
push_names-requires = grind (arith, nat_tests, states_at-below)

pub states-preserved : goal.states-preserved
states-preserved = grind (arith, nat_tests, names-more_states)

pub returns : goal.returns
returns = grind (arith, nat_tests, names-all_states)
