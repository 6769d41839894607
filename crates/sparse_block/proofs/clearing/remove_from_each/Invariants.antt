use Rattle.std.proofs.Common.{take}
use Rattle.sparse_block.proofs.ClearingLemmas.{AreRemoved}
use Rattle.sparse_block.proofs.clearing.remove_from_each.Given as goal

abbrev pub invariant-entries : goal.invariant-entries
invariant-entries l = AreRemoved l.place (take l.entry-index l.entries) l.initial.lines l.lines
