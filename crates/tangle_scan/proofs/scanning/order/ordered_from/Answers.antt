use Rattle.std.proofs.Common.{length, sym}
use Rattle.std.proofs.lemmas.Bool.{eqb-true}
use Rattle.tangle_scan.proofs.OrderLemmas.{taken-all}
use Rattle.tangle_scan.proofs.scanning.order.ordered_from.Goals as goal

pub returns : goal.returns
returns c =
    taken-all c.args.diagram.now.crossings c.crossings.made.items c.crossings.left.items c.crossings.invariant.taken
    (eqb-true (length c.crossings.left.items) 0 (sym c.crossings-test.ensures))
