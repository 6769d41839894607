use Rattle.std.proofs.Common.{All}
use Rattle.worker_pool.specs.Slots.{AreEmpty}
use Rattle.worker_pool.proofs.building.empty_rows.Given as goal

abbrev pub invariant-rows : goal.invariant-rows
invariant-rows g l = All (λ row. AreEmpty l.slots row.items) l.rows.items
