use Rattle.std.proofs.Common.{◌≡◌, replicate, None}
use Rattle.commit_core.proofs.building.nothing_held.Given as goal

abbrev pub invariant-workers : goal.invariant-workers
invariant-workers g l = l.held.items ≡ replicate l.counter None
