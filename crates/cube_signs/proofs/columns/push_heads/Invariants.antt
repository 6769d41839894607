use Rattle.std.proofs.Common.{◌≡◌, ◌++◌, map, take}
use Rattle.cube_signs.specs.Columns.{head_entry}
use Rattle.cube_signs.proofs.columns.push_heads.Given as goal

abbrev pub invariant-labels : goal.invariant-labels
invariant-labels l =
    l.column.items ≡ l.initial.column.items ++ map (head_entry l.base l.ranks l.sign) (take l.k l.labels)
