use Rattle.tangle_scan.specs.Additions.{IsLayerTo}
use Rattle.tangle_scan.proofs.adding.layer_of.Given as goal

abbrev pub invariant-places : goal.invariant-places
invariant-places l = IsLayerTo l.adding l.place l.layer
