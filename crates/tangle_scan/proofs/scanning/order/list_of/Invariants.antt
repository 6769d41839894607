use Rattle.std.proofs.Common.{◌≡◌, length, take}
use Rattle.tangle_scan.proofs.scanning.order.list_of.Given as goal

abbrev pub invariant-loop-crossing : goal.invariant-loop-crossing
invariant-loop-crossing l = (l.list.items ≡ take l.crossing-index l.crossings) × (length l.list.items ≡ l.crossing-index)
