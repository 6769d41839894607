use Rattle.std.proofs.Common.{◌≡◌, [], length, All}
use Rattle.worker_pool.proofs.rows.empty_rows.Given as goal

abbrev pub invariant-rows : goal.invariant-rows
invariant-rows g l = (length l.rows.items ≡ l.counter) × All (λ row. row.items ≡ []) l.rows.items
