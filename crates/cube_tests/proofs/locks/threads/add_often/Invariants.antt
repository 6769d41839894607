use Rattle.std.proofs.Common.{◌≡◌, ◌≤◌, length}
use Rattle.version_lock.specs.Calls.{IsSeatOf}
use Rattle.cube_tests.proofs.locks.threads.add_often.Given as goal

abbrev pub invariant-turns : goal.invariant-turns
invariant-turns g l = IsSeatOf l.lock l.seat × (l.seat.share ≡ l.initial.seat.share) × (length l.seat.mine ≡ l.count) × (l.count ≤ l.counter)
