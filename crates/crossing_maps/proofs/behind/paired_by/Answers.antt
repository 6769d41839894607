use Rattle.std.proofs.Common.{arith}
use Rattle.crossing_maps.proofs.PairedUp.{all-made, pairs-of-made}
use Rattle.crossing_maps.proofs.behind.paired_by.Goals as goal

pub returns-clause-pairs : goal.returns-clause-pairs
returns-clause-pairs c = λ paired.
    pairs-of-made c.arcs.made.partners c.args.opened.now c.args.classes.now
    (all-made c.arcs.made.partners c.args.opened.now c.args.classes.now c.arcs.arc-index c.arcs.invariant
    (omega (arith, c.arcs-test.false, c.arcs.auto.arc-index-end)))
    c.requires.opened paired
