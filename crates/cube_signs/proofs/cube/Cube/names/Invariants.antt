use Rattle.std.proofs.Common.{◌≡◌, take}
use Rattle.std.specs.List.{flat_map}
use Rattle.cube_signs.specs.Tables.{state_generators}
use Rattle.cube_signs.proofs.cube.Cube.names.Given as goal

abbrev pub invariant-states : goal.invariant-states
invariant-states l = l.names.items ≡ flat_map (state_generators l.self l.at.i l.at.j) (take l.k l.states)
