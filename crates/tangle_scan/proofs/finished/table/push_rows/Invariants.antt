use Rattle.std.proofs.Common.{◌≡◌, ◌++◌}
use Rattle.tangle_scan.proofs.RowLemmas.{rows_to}
use Rattle.tangle_scan.proofs.finished.table.push_rows.Given as goal

abbrev pub invariant-degrees : goal.invariant-degrees
invariant-degrees g l = l.rows.items ≡ l.initial.rows.items ++ rows_to (g.D.Dimensions.dims l.dims) l.crossings l.j l.k
