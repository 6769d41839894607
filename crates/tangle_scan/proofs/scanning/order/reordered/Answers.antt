use Rattle.std.proofs.Common.{arith}
use Rattle.order_laws.proofs.Reordered.{reordered-length}
use Rattle.tangle_scan.proofs.scanning.order.reordered.Goals as goal

pub list_of-requires : goal.list_of-requires
list_of-requires c =
    omega (arith, reordered-length c.args.diagram.now.crossings c.args.crossings.now c.requires, c.diagram_laws.ensures.few)
