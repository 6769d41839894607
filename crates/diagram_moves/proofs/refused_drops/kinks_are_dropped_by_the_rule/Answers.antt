use Rattle.diagram_moves.proofs.DropRefusals.{kink-dropped, kink-left, no_crossing-refused, no_kink-refused}
use Rattle.diagram_moves.proofs.refused_drops.kinks_are_dropped_by_the_rule.Goals as goal

pub returns : goal.returns
returns c = record { no_crossing = no_crossing-refused; no_kink = no_kink-refused; made = kink-dropped; left = kink-left }
