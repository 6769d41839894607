use Rattle.worker_pool.specs.Slots.{AreEmpty}
use Rattle.worker_pool.proofs.slots.empty_slots.Given as goal

abbrev pub invariant-slots : goal.invariant-slots
invariant-slots g l = AreEmpty l.counter l.slots.items
