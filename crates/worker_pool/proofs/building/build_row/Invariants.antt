use Rattle.std.specs.Arc.{arc_value}
use Rattle.worker_pool.specs.Slots.{AreSlotsOf}
use Rattle.worker_pool.proofs.building.build_row.Given as goal

abbrev pub invariant-begun : goal.invariant-begun
invariant-begun g l = AreSlotsOf (arc_value l.cube) l.degrees l.slots
