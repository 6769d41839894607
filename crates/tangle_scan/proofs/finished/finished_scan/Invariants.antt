use Rattle.tangle_scan.specs.Held.{HasNoPivot}
use Rattle.tangle_scan.specs.Scanned.{IsBehind}
use Rattle.tangle_scan.proofs.finished.finished_scan.Given as goal

abbrev pub invariant-crossings : goal.invariant-crossings
invariant-crossings g l = record {
  behind : IsBehind l.diagram l.counter l.scan;
  none : HasNoPivot l.scan.complex;
}
