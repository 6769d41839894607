use Rattle.std.proofs.Common.{map, take}
use Rattle.std.specs.List.{flat_map}
use Rattle.tangle_scan.specs.AddedBridges.{AreBridgesFrom}
use Rattle.tangle_scan.specs.Additions.{HasEntriesTo, head_of, origin_in, targets_along}
use Rattle.tangle_scan.proofs.adding.columns.push_all.Given as goal

abbrev pub invariant-entries : goal.invariant-entries
invariant-entries g l = record {
  all : HasEntriesTo g.F.PrimeField.P l.links.adding.now (origin_in l.child)
      (flat_map (targets_along l.links.adding.now l.child.side.smoothing) (map head_of (take l.entry-index l.entries))) l.column.items;
  bridges : AreBridgesFrom l.links.adding.now l.child.side.smoothing l.child.parent l.bridges.items;
}
