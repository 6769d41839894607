use Rattle.std.proofs.Common.{◌≡◌, ◌++◌, length}
use Rattle.column_reduction.specs.StoredColumns.{from_greatest, pivots_in}
use Rattle.column_reduction.proofs.reducing.all_pivots.Given as goal

abbrev pub invariant-degrees : goal.invariant-degrees
invariant-degrees l = l.made.items ++ from_greatest (pivots_in l.rest.items) ≡ from_greatest (pivots_in l.fn.pivots.items)

abbrev pub decreases-degrees : goal.decreases-degrees
decreases-degrees l = length l.rest.items
