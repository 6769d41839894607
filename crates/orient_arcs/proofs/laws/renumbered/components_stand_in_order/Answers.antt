use Rattle.orient_arcs.proofs.Ordered.{AreOrdered-components}
use Rattle.orient_arcs.proofs.laws.renumbered.components_stand_in_order.Goals as goal

pub returns : goal.returns
returns c = AreOrdered-components
