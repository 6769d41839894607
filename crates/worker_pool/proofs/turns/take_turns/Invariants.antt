use Rattle.std.proofs.Common.{◌≡◌, ◌-◌, ◌≤◌}
use Rattle.worker_pool.proofs.Working.{HasWorked}
use Rattle.worker_pool.specs.declared.turns.TheConstants.{LONGEST_PAUSE, MOST_TURNS}
use Rattle.worker_pool.proofs.turns.take_turns.Given as goal

abbrev pub invariant-turns : goal.invariant-turns
invariant-turns g l = HasWorked l.lock l.initial.seat l.seat l.turns × (l.pause ≤ LONGEST_PAUSE) × (l.turns ≡ l.counter)

abbrev pub decreases-turns : goal.decreases-turns
decreases-turns g l = MOST_TURNS - l.counter
