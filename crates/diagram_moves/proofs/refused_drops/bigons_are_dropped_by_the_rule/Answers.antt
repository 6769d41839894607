use Rattle.diagram_moves.proofs.BigonPasses.{bigon-passes}
use Rattle.diagram_moves.proofs.DropRefusals.{bigon-dropped, finger-left, first-refused, no_bigon-refused, second-refused}
use Rattle.diagram_moves.proofs.refused_drops.bigons_are_dropped_by_the_rule.Goals as goal

pub returns : goal.returns
returns c = record { first = first-refused; second = second-refused; no_bigon = no_bigon-refused; made = bigon-dropped; passes = bigon-passes; left = finger-left }
