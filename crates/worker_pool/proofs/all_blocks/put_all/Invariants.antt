use Rattle.std.proofs.Common.{map}
use Rattle.std.specs.Arc.{arc_value}
use Rattle.worker_pool.specs.Rows.{AreSeated}
use Rattle.worker_pool.specs.Slots.{AreDoneSlots, AreFrom}
use Rattle.worker_pool.proofs.all_blocks.put_all.Given as goal

abbrev pub invariant-places : goal.invariant-places
invariant-places g l = AreSeated l.pool.locks.items l.pool.kept.items l.pool.rows.items
    × AreFrom (arc_value l.cube) (map (λ lock. lock.origin) l.pool.locks.items)
    × AreDoneSlots g.F.PrimeField.P (arc_value l.cube) l.degrees l.slots.items
