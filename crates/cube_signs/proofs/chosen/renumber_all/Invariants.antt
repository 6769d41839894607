use Rattle.std.proofs.Common.{◌≡◌, ◌++◌, take, drop, map}
use Rattle.sparse_block.specs.Inside.{entries_in}
use Rattle.cube_signs.specs.ChosenParts.{moved_entry}
use Rattle.cube_signs.proofs.chosen.renumber_all.Given as goal

abbrev pub invariant-columns : goal.invariant-columns
invariant-columns l =
    entries_in l.columns
    ≡ map (map (moved_entry l.heads)) (take l.column-index (entries_in l.initial.columns))
    ++ drop l.column-index (entries_in l.initial.columns)
