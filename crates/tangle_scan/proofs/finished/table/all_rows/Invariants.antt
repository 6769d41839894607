use Rattle.std.proofs.Common.{◌≡◌}
use Rattle.tangle_scan.proofs.RowLemmas.{all_rows_to}
use Rattle.tangle_scan.proofs.finished.table.all_rows.Given as goal

abbrev pub invariant-places : goal.invariant-places
invariant-places g l = l.rows.items ≡ all_rows_to (g.D.Dimensions.dims l.dims) l.crossings l.place
