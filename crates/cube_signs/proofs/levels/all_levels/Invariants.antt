use Rattle.std.proofs.Common.{◌≡◌}
use Rattle.sparse_block.specs.Inside.{lists_in}
use Rattle.cube_signs.specs.Tables.{levels_to}
use Rattle.cube_signs.proofs.levels.all_levels.Given as goal

-- the states so far are listed
abbrev pub invariant-states : goal.invariant-states
invariant-states l = lists_in l.levels.items ≡ levels_to l.diagram l.state
