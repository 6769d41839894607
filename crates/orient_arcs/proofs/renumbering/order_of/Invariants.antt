use Rattle.std.proofs.Common.{◌≡◌}
use Rattle.orient_arcs.specs.Steps.{order_below}
use Rattle.orient_arcs.proofs.renumbering.order_of.Given as goal

abbrev pub invariant-names : goal.invariant-names
invariant-names l = l.order.items ≡ order_below l.passes l.name
