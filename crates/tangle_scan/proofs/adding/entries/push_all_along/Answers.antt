use Rattle.std.proofs.Common.{ℕ, ◌∙◌, ◌++◌, map, arith, subst, subst₂, sym}
use Rattle.std.specs.List.{range_with_len}
use Rattle.crossing_maps.specs.declared.bridges.Bridge.{Bridge}
use Rattle.crossing_maps.specs.declared.splitting.Split.{Split}
use Rattle.scan_laws.specs.Adding.{origin_of}
use Rattle.tangle_scan.specs.AddedBridges.{IsBridgeOver}
use Rattle.tangle_scan.specs.Additions.{IsSplitAt, origin_in}
use Rattle.tangle_scan.proofs.ChildPlaces.{chosen-split}
use Rattle.tangle_scan.proofs.NewEntries.{entries-all, entries-more}
use Rattle.tangle_scan.proofs.adding.entries.push_all_along.Goals as goal

pub child_of-to-requires-clause-smoothing : goal.child_of-to-requires-clause-smoothing
child_of-to-requires-clause-smoothing g c = c.requires.from.side.smoothing

pub push_added-requires-clause-bridge : goal.push_added-requires-clause-bridge
push_added-requires-clause-bridge g c =
    let from = c.args.arrow.now.from.now in
    subst₂ (λ (x : ℕ) (bridge : Bridge). IsBridgeOver c.args.links.now.adding.now from.side.smoothing from.parent x bridge)
    (sym c.child_of-to.ensures.parent) (sym c.labels.invariant.same) c.requires.bridge

pub labels-preserved : goal.labels-preserved
labels-preserved g c = record {
  same = c.push_added.ensures.same ∙ c.labels.invariant.same;
  entries = λ targets has.
      let from = c.args.arrow.now.from.now in
      let head = c.args.head.now.place in
      let smoothing = from.side.smoothing in
      entries-more g.F.PrimeField.P c.args.links.now.adding.now (origin_in from) targets head smoothing c.labels.label c.child_of-to.result
      c.push_added.new.column.items c.child_of-to.ensures.parent c.child_of-to.ensures.smoothing c.child_of-to.ensures.label
      (c.in_ok-push_added.ensures.entries (targets ++ map (origin_of head smoothing) (range_with_len 0 c.labels.label))
      (c.labels.invariant.entries targets has));
}

pub returns-clause-entries : goal.returns-clause-entries
returns-clause-entries g c = λ targets has.
    let adding = c.args.links.now.adding.now in
    let from = c.args.arrow.now.from.now in
    let head = c.args.head.now in
    let smoothing = from.side.smoothing in
    entries-all g.F.PrimeField.P adding (origin_in from) targets head.place smoothing c.labels.label c.split.result.now
    c.labels.column.items
    (subst (λ (s : Split). IsSplitAt adding head.place smoothing s) (sym c.split.ensures)
    (chosen-split adding head.place smoothing head.successors.now c.requires.from.side.smoothing c.requires.head.successors))
    (omega (arith, c.labels-test.false, c.labels.auto.label-end, c.label_count-label-end.ensures)) (c.labels.invariant.entries targets has)
