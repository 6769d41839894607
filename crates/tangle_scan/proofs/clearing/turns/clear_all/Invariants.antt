use Rattle.std.proofs.Common.{take}
use Rattle.tangle_scan.specs.Clearings.{HasCleared}
use Rattle.tangle_scan.proofs.clearing.turns.clear_all.Given as goal

abbrev pub invariant-columns : goal.invariant-columns
invariant-columns g l =
    HasCleared g.F.PrimeField.P l.turn (take l.place-index l.named) l.initial.columns.items l.columns.items l.rows.items
