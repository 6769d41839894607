use Rattle.tangle_maps.specs.Pairings.{joins_of}
use Rattle.crossing_maps.proofs.AllArcs.{split-closed, split-pairs}
use Rattle.crossing_maps.proofs.SplitArcs.{split-arcs}
use Rattle.crossing_maps.proofs.splitting.split_at.Goals as goal

pub returns-clause-pairs : goal.returns-clause-pairs
returns-clause-pairs c = λ code k place site paired.
    split-pairs code k c.args.smoothing (joins_of c.args.pairing.now.partners c.args.site.now.opened.now)
    (joins_of c.paired_by.result.partners c.args.site.now.next.now) c.classes_behind-classes.result c.args.site.now.opened.now
    c.args.site.now.near.now c.args.site.now.next.now c.args.site.now.crossing.now place site paired c.classes_behind-classes.ensures
    c.paired_by.ensures.pairs

pub returns-clause-closed : goal.returns-clause-closed
returns-clause-closed c = λ code k place site paired.
    split-closed code k c.args.smoothing (joins_of c.args.pairing.now.partners c.args.site.now.opened.now) c.closed_by.result.items
    c.classes_behind-classes.result c.args.site.now.opened.now c.args.site.now.near.now c.args.site.now.next.now
    c.args.site.now.crossing.now place site paired c.classes_behind-classes.ensures c.closed_by.ensures

pub returns-clause-arcs : goal.returns-clause-arcs
returns-clause-arcs c = λ code k place site paired.
    split-arcs code k c.args.smoothing (joins_of c.args.pairing.now.partners c.args.site.now.opened.now) c.paired_by.result.partners
    c.classes_behind-classes.result c.args.site.now.opened.now c.args.site.now.near.now c.args.site.now.next.now
    c.args.site.now.crossing.now place site paired c.classes_behind-classes.ensures c.paired_by.ensures.made c.requires.next
