use Rattle.std.proofs.Common.{◌≡◌, take}
use Rattle.std.specs.Prelude.{All}
use Rattle.shared_block.specs.BlockHistories.{HasLegalHistory}
use Rattle.cancel_log.proofs.WrittenLogs.{text_to}
use Rattle.cancel_log.proofs.writing.log_of_blocks.Given as goal

abbrev pub invariant-each : goal.invariant-each
invariant-each g l =
    let p = g.F.PrimeField.P in
    (l.text.items ≡ text_to p l.diagram (take l.k l.blocks)) × All (HasLegalHistory p) (take l.k l.blocks)
