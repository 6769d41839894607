use Rattle.std.proofs.Common.{◌≡◌}
use Rattle.sparse_block.specs.Inside.{lists_in}
use Rattle.cube_signs.specs.Tables.{no_states}
use Rattle.cube_signs.proofs.levels.no_levels.Given as goal

abbrev pub invariant-levels : goal.invariant-levels
invariant-levels l = lists_in l.levels.items ≡ no_states l.counter
