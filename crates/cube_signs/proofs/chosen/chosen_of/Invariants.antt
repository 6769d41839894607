use Rattle.std.proofs.Common.{◌≡◌, take}
use Rattle.std.specs.List.{filter}
use Rattle.cube_signs.specs.Chosen.{has_minus}
use Rattle.cube_signs.proofs.chosen.chosen_of.Given as goal

abbrev pub invariant-names : goal.invariant-names
invariant-names l = l.chosen.items ≡ filter (has_minus l.circles) (take l.k l.names)
