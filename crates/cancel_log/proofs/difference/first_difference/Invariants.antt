use Rattle.std.proofs.Common.{◌≡◌, length}
use Rattle.cancel_log.proofs.Differences.{BeginAlike}
use Rattle.cancel_log.proofs.difference.first_difference.Given as goal

abbrev pub invariant-lines : goal.invariant-lines
invariant-lines l = BeginAlike l.initial.lines l.initial.wanted l.lines l.wanted × (l.number ≡ l.lines.number)

abbrev pub decreases-lines : goal.decreases-lines
decreases-lines l = length l.lines.rest
