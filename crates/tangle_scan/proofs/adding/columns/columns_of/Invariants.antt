use Rattle.tangle_scan.specs.AddedBridges.{AreAllBridges}
use Rattle.tangle_scan.specs.Additions.{AreColumnsFrom, origins_to}
use Rattle.tangle_scan.proofs.adding.columns.columns_of.Given as goal

abbrev pub invariant-places : goal.invariant-places
invariant-places g l = record {
  columns : AreColumnsFrom g.F.PrimeField.P l.links.adding.now (origins_to l.links.adding.now l.place) l.made.items;
  all : AreAllBridges l.links.adding.now l.all.items;
}
