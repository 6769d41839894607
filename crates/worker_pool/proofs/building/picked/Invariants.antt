use Rattle.std.proofs.Common.{◌≡◌, All, take}
use Rattle.std.specs.Arc.{arc_value}
use Rattle.worker_pool.specs.Slots.{AreSlotsOf}
use Rattle.shared_block.proofs.AllBlocks.{opened}
use Rattle.worker_pool.proofs.building.picked.Given as goal

abbrev pub invariant-places : goal.invariant-places
invariant-places g l = All (λ row. AreSlotsOf (arc_value l.cube) l.degrees row.items) l.rows × (l.blocks.items ≡ opened (arc_value l.cube) (take l.place l.degrees))
