use Rattle.order_laws.specs.Orders.{IsReordered}
use Rattle.tangle_scan.proofs.scanning.order.ordered.Given as goal

abbrev pub invariant-starts : goal.invariant-starts
invariant-starts l = IsReordered l.diagram.crossings l.best.crossings.items
