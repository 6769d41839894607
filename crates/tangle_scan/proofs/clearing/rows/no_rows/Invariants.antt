use Rattle.std.proofs.Common.{◌≡◌, length}
use Rattle.tangle_scan.proofs.clearing.rows.no_rows.Given as goal

abbrev pub invariant-rows : goal.invariant-rows
invariant-rows l = length l.rows.items ≡ l.counter
