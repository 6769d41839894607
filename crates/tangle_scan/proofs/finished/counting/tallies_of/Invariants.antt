use Rattle.std.proofs.Common.{take}
use Rattle.tangle_scan.specs.Tallies.{AreTallies}
use Rattle.tangle_scan.proofs.finished.counting.tallies_of.Given as goal

abbrev pub invariant-objects : goal.invariant-objects
invariant-objects l = AreTallies (take l.object-index l.objects) l.tallies.items
