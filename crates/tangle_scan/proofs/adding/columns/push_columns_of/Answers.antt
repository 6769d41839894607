use Rattle.std.proofs.Common.{◌∙◌, arith, subst, subst₂, sym}
use Rattle.crossing_maps.specs.declared.bridges.Bridge.{Bridge}
use Rattle.crossing_maps.specs.declared.splitting.Split.{Split}
use Rattle.tangle_scan.specs.AddedBridges.{AreBridgesFrom, IsSaddleOf}
use Rattle.tangle_scan.specs.Additions.{IsSplitAt}
use Rattle.tangle_scan.proofs.ChildPlaces.{chosen-split}
use Rattle.tangle_scan.proofs.MoreColumns.{columns-all, columns-more}
use Rattle.tangle_scan.proofs.adding.columns.push_columns_of.Goals as goal

pub column_from-requires-clause-bridges : goal.column_from-requires-clause-bridges
column_from-requires-clause-bridges g c =
    subst₂ (λ e x. AreBridgesFrom c.args.links.now.adding.now e x c.labels.bridges.items) (sym c.child_of-child.ensures.smoothing)
    (sym c.child_of-child.ensures.parent) c.labels.invariant.bridges

pub column_from-requires-clause-saddle : goal.column_from-requires-clause-saddle
column_from-requires-clause-saddle g c =
    subst (λ (saddle : Bridge). IsSaddleOf c.args.links.now.adding.now c.args.parent.now.place saddle) (sym c.labels.invariant.saddle)
    c.requires.saddle

pub labels-preserved : goal.labels-preserved
labels-preserved g c = record {
  columns = λ from all.
      columns-more g.F.PrimeField.P c.args.links.now.adding.now from c.args.parent.now.place c.args.smoothing c.labels.label
      c.child_of-child.result c.labels.made.items c.push.new.self.items c.in_ok-column_from.field-0 c.child_of-child.ensures.parent
      c.child_of-child.ensures.smoothing c.child_of-child.ensures.label (c.labels.invariant.columns from all)
      c.in_ok-column_from.ensures.column c.in_ok-push.ensures.items;
  saddle = c.column_from.ensures.saddle ∙ c.labels.invariant.saddle;
  bridges = subst₂ (λ e x. AreBridgesFrom c.args.links.now.adding.now e x c.column_from.new.bridges.items) c.child_of-child.ensures.smoothing
      c.child_of-child.ensures.parent c.in_ok-column_from.ensures.bridges;
}

pub returns-clause-columns : goal.returns-clause-columns
returns-clause-columns g c = λ from all.
    let adding = c.args.links.now.adding.now in
    let parent = c.args.parent.now in
    columns-all g.F.PrimeField.P adding from parent.place c.args.smoothing c.labels.label c.split.result.now c.labels.made.items
    (subst (λ (s : Split). IsSplitAt adding parent.place c.args.smoothing s) (sym c.split.ensures)
    (chosen-split adding parent.place c.args.smoothing parent.successors.now c.requires.smoothing c.requires.parent.successors))
    (omega (arith, c.labels-test.false, c.labels.auto.label-end, c.label_count-label-end.ensures)) (c.labels.invariant.columns from all)
