use Rattle.orient_arcs.proofs.Bridge.{IsDirected-renumbered, over-direction, sign-kept}
use Rattle.orient_arcs.proofs.laws.renumbered.renumbered_codes_are_directed.Goals as goal

pub returns-clause-directed : goal.returns-clause-directed
returns-clause-directed c = IsDirected-renumbered

pub returns-clause-over : goal.returns-clause-over
returns-clause-over c = over-direction

pub returns-clause-signs : goal.returns-clause-signs
returns-clause-signs c = sign-kept
