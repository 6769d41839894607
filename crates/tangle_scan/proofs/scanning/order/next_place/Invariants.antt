use Rattle.std.proofs.Common.{◌<◌, length}
use Rattle.tangle_scan.proofs.scanning.order.next_place.Given as goal

abbrev pub invariant-places : goal.invariant-places
invariant-places l = l.best < length l.crossings
