use Rattle.std.proofs.Common.{length}
use Rattle.cancel_log.proofs.ReplayedLines.{IsReplayed}
use Rattle.cancel_log.proofs.replay.replayed_rows.Given as goal

abbrev pub invariant-lines : goal.invariant-lines
invariant-lines g l = IsReplayed g.F.PrimeField.P l.diagram l.initial.lines.rest l.lines l.walk

abbrev pub decreases-lines : goal.decreases-lines
decreases-lines g l = length l.lines.rest
