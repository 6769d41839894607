use Rattle.std.proofs.Common.{◌≡◌, take}
use Rattle.cube_signs.specs.Columns.{column_along}
use Rattle.cube_signs.proofs.columns.put_entries.Given as goal

abbrev pub invariant-outs : goal.invariant-outs
invariant-outs l = l.column.items ≡ column_along l.ranks l.label (take l.k l.outs)
