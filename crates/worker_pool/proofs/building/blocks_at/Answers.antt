use Rattle.std.proofs.Common.{sym, subst, refl, All}
use Rattle.std.specs.Arc.{arc_value}
use Rattle.worker_pool.specs.Slots.{AreSlotsOf}
use Rattle.worker_pool.proofs.SlotLemmas.{slots_empty}
use Rattle.worker_pool.proofs.building.blocks_at.Goals as goal

pub build_rows-requires-clause-rows : goal.build_rows-requires-clause-rows
build_rows-requires-clause-rows g c κs within =
    subst (All (λ row. AreSlotsOf (arc_value c.args.cube.now) c.args.degrees.now row.items)) (sym c.as_mut_slice-rows.ensures.value)
    (slots_empty (arc_value c.args.cube.now) c.args.degrees.now c.in_ok-made.made.items _ c.in_ok-made.ensures refl)
