use Rattle.std.proofs.Common.{◌∙◌, sym}
use Rattle.tangle_scan.proofs.Columns.{trimmed-read}
use Rattle.tangle_scan.proofs.clearing.ways.trim.Goals as goal

pub returns-then-is_zero : goal.returns-then-is_zero
returns-then-is_zero c p =
    trimmed-read p c.args.column.now.items c.remove.new.self.items c.args.at c.index.result.now c.as_slice.result.now c.requires.at
    c.requires.once c.index.ensures c.as_slice.ensures (sym c.is_zero.ensures ∙ c.if-is_zero.true) c.remove.ensures.items
