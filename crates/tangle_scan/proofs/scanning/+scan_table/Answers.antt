use Rattle.std.proofs.Common.{◌∙◌, ap}
use Rattle.kh_types.specs.Table.{table}
use Rattle.tangle_scan.proofs.scanning.+scan_table.Goals as goal

pub multiplied-requires-clause-first : goal.multiplied-requires-clause-first
multiplied-requires-clause-first g t c =
    c.in_ok-table.ensures ∙ ap (table g.F.PrimeField.P) c.pieces_apart-first.ensures.first

pub multiplied-requires-clause-others : goal.multiplied-requires-clause-others
multiplied-requires-clause-others g t c =
    c.in_ok-others.ensures ∙ ap (table g.F.PrimeField.P) c.pieces_apart-first.ensures.others
