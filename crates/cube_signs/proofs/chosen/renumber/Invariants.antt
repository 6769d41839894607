use Rattle.std.proofs.Common.{◌≡◌, ◌++◌, take, drop, map}
use Rattle.cube_signs.specs.ChosenParts.{moved_entry}
use Rattle.cube_signs.proofs.chosen.renumber.Given as goal

abbrev pub invariant-entries : goal.invariant-entries
invariant-entries l =
    l.column ≡ map (moved_entry l.heads) (take l.entry-index l.initial.column) ++ drop l.entry-index l.initial.column
