use Rattle.std.proofs.Common.{All}
use Rattle.std.specs.Arc.{arc_value}
use Rattle.worker_pool.specs.Slots.{AreSlotsOf}
use Rattle.worker_pool.proofs.building.block_at.Given as goal

abbrev pub invariant-rows : goal.invariant-rows
invariant-rows g l = All (λ row. AreSlotsOf (arc_value l.cube) l.degrees row.items) l.rows
