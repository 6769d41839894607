use Rattle.std.proofs.Common.{ℕ, ◌∙◌, ◌++◌, map, arith, subst, subst₂, sym}
use Rattle.std.specs.List.{range_with_len}
use Rattle.crossing_maps.specs.declared.bridges.Bridge.{Bridge}
use Rattle.crossing_maps.specs.declared.splitting.Split.{Split}
use Rattle.scan_laws.specs.Adding.{origin_of}
use Rattle.tangle_scan.specs.AddedBridges.{IsSaddleOf}
use Rattle.tangle_scan.specs.Additions.{IsSplitAt, origin_in}
use Rattle.tangle_scan.proofs.NewEntries.{entries-all, entries-more}
use Rattle.tangle_scan.proofs.adding.entries.push_all_saddles.Goals as goal

pub push_saddle-requires-clause-bridge : goal.push_saddle-requires-clause-bridge
push_saddle-requires-clause-bridge g c =
    subst₂ (λ (x : ℕ) (bridge : Bridge). IsSaddleOf c.args.links.now.adding.now x bridge) (sym c.requires.same)
    (sym c.labels.invariant.same) c.requires.bridge

pub labels-preserved : goal.labels-preserved
labels-preserved g c = record {
  same = c.push_saddle.ensures.same ∙ c.labels.invariant.same;
  entries = λ targets has.
      let parent = c.args.parent.now.place in
      entries-more g.F.PrimeField.P c.args.links.now.adding.now (origin_in c.args.from.now) targets parent 1 c.labels.label
      c.child_of-to.result c.push_saddle.new.column.items c.child_of-to.ensures.parent c.child_of-to.ensures.smoothing
      c.child_of-to.ensures.label
      (c.in_ok-push_saddle.ensures.entries (targets ++ map (origin_of parent 1) (range_with_len 0 c.labels.label)) (c.labels.invariant.entries targets has));
}

pub returns-clause-entries : goal.returns-clause-entries
returns-clause-entries g c = λ targets has.
    let adding = c.args.links.now.adding.now in
    let parent = c.args.parent.now in
    entries-all g.F.PrimeField.P adding (origin_in c.args.from.now) targets parent.place 1 c.labels.label c.split.result.now
    c.labels.column.items
    (subst (λ (s : Split). IsSplitAt adding parent.place 1 s) (sym c.split.ensures) c.requires.parent.successors.one)
    (omega (arith, c.labels-test.false, c.labels.auto.label-end, c.label_count-label-end.ensures)) (c.labels.invariant.entries targets has)
