use Rattle.std.proofs.Common.{rules, pos}
use Rattle.std.specs.Arc.{arc_value}
use Rattle.worker_pool.specs.Slots.{IsSlotOf}
use Rattle.worker_pool.proofs.Zips.{zip_set}
use Rattle.worker_pool.proofs.building.build_at.Goals as goal

pub returns-then-place-slots : goal.returns-then-place-slots
returns-then-place-slots g c = zip_set (IsSlotOf (arc_value c.args.cube.now)) c.args.degrees.now c.args.slots.now c.args.place (pos 0) c.ok.result c.requires.slots (search rules)
