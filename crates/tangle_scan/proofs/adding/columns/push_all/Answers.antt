use Rattle.std.proofs.Common.{map, take}
use Rattle.std.specs.List.{flat_map}
use Rattle.tangle_scan.specs.Additions.{head_of, origin_in, targets_along}
use Rattle.tangle_scan.proofs.MoreColumns.{item-at}
use Rattle.tangle_scan.proofs.NewEntries.{entries-next}
use Rattle.tangle_scan.proofs.adding.columns.push_all.Goals as goal

pub push_along-requires-clause-head : goal.push_along-requires-clause-head
push_along-requires-clause-head g c =
    (item-at g.F.PrimeField.P c.args.links.now.adding.now c.args.child.now.parent c.args.entries.now c.entries.entry-index
    c.entry-item.result c.requires.links.complex c.requires.within c.requires.entries c.entries-test.true c.entry-item.is).head

pub push_along-requires-clause-terms : goal.push_along-requires-clause-terms
push_along-requires-clause-terms g c =
    (item-at g.F.PrimeField.P c.args.links.now.adding.now c.args.child.now.parent c.args.entries.now c.entries.entry-index
    c.entry-item.result c.requires.links.complex c.requires.within c.requires.entries c.entries-test.true c.entry-item.is).terms

pub push_along-requires-clause-reduced : goal.push_along-requires-clause-reduced
push_along-requires-clause-reduced g c =
    (item-at g.F.PrimeField.P c.args.links.now.adding.now c.args.child.now.parent c.args.entries.now c.entries.entry-index
    c.entry-item.result c.requires.links.complex c.requires.within c.requires.entries c.entries-test.true c.entry-item.is).reduced

pub entries-preserved : goal.entries-preserved
entries-preserved g c =
    let adding = c.args.links.now.adding.now in
    let child = c.args.child.now in
    let f = targets_along adding child.side.smoothing in
    record {
      all = entries-next g.F.PrimeField.P adding (origin_in child) f c.args.entries.now c.entries.entry-index c.entry-item.result
          c.push_along.new.column.items c.entries-test.true c.entry-item.is
          (c.in_ok-push_along.ensures.entries (flat_map f (map head_of (take c.entries.entry-index c.args.entries.now)))
          c.entries.invariant.all);
      bridges = c.in_ok-push_along.ensures.bridges;
    }
