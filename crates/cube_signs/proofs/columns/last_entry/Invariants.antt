use Rattle.std.proofs.Common.{◌≡◌, ◌-◌, length, None, take}
use Rattle.std.specs.List.{last_or}
use Rattle.cube_signs.specs.Columns.{column_along}
use Rattle.cube_signs.proofs.columns.last_entry.Given as goal

abbrev pub invariant-outs : goal.invariant-outs
invariant-outs l =
    last_or None (column_along l.ranks l.label l.outs) ≡ last_or None (column_along l.ranks l.label (take (length l.outs - l.k) l.outs))
