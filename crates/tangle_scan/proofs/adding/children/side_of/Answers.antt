use Rattle.std.proofs.Common.{subst, sym}
use Rattle.crossing_maps.specs.declared.splitting.Split.{Split}
use Rattle.tangle_scan.specs.Additions.{IsSplitAt}
use Rattle.tangle_scan.proofs.ChildPlaces.{chosen-split}
use Rattle.tangle_scan.proofs.adding.children.side_of.Goals as goal

pub returns-clause-side : goal.returns-clause-side
returns-clause-side c =
    let adding = c.args.links.now.adding.now in
    let place = c.args.parent.now.place in
    record {
      pairs = c.pairing_of.ensures.pairs;
      split = subst (λ (s : Split). IsSplitAt adding place c.args.smoothing s) (sym c.split.ensures)
          (chosen-split adding place c.args.smoothing c.args.parent.now.successors.now c.requires.smoothing c.requires.parent.successors);
      smoothing = c.requires.smoothing;
    }
