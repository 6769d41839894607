use Rattle.std.proofs.Common.{take}
use Rattle.worker_pool.specs.Outcomes.{AreBlocksAt, AreDone}
use Rattle.worker_pool.specs.Slots.{AreDoneSlots}
use Rattle.worker_pool.proofs.KeptSlots.{StandTo}
use Rattle.worker_pool.proofs.done_slots.in_order.Given as goal

abbrev pub invariant-places : goal.invariant-places
invariant-places g l =
    AreBlocksAt l.cube (take l.place l.degrees) l.done.blocks.items × AreDone g.F.PrimeField.P l.done
    × AreDoneSlots g.F.PrimeField.P l.cube l.degrees l.slots.items × StandTo l.place l.fn.slots.items l.slots.items l.done
