use Rattle.std.proofs.Common.{◌≡◌, length}
use Rattle.worker_pool.proofs.sizes.no_sizes.Given as goal

abbrev pub invariant-places : goal.invariant-places
invariant-places l = length l.sizes.items ≡ l.counter
