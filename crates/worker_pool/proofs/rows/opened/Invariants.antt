use Rattle.std.proofs.Common.{◌≡◌, ◌++◌, length, map, reverse}
use Rattle.worker_pool.specs.Rows.{AreSeated}
use Rattle.worker_pool.proofs.rows.opened.Given as goal

abbrev pub invariant-values : goal.invariant-values
invariant-values g l = AreSeated l.pool.locks.items l.pool.kept.items l.pool.rows.items × (length l.pool.rows.items ≡ l.fn.workers)
    × (map (λ lock. lock.origin) l.pool.locks.items ++ reverse (map g.B.Held.origin l.values.items) ≡ reverse (map g.B.Held.origin l.initial.values.items))

abbrev pub decreases-values : goal.decreases-values
decreases-values g l = length l.values.items
