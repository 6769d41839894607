use Rattle.std.proofs.Common.{refl, sym, subst}
use Rattle.std.specs.Arc.{arc_value}
use Rattle.kh_types.specs.Code.{Code}
use Rattle.worker_pool.specs.Outcomes.{AreDegreesOf}
use Rattle.worker_pool.proofs.SlotLemmas.{done_slots_empty}
use Rattle.worker_pool.proofs.all_blocks.finished_by_workers.Goals as goal

pub put_all-requires-clause-slots : goal.put_all-requires-clause-slots
put_all-requires-clause-slots g c κs within =
    done_slots_empty g.F.PrimeField.P (arc_value c.args.cube.now) c.args.degrees.now c.in_ok-slots.slots.items _ c.in_ok-slots.ensures refl

pub in_order-requires-clause-degrees : goal.in_order-requires-clause-degrees
in_order-requires-clause-degrees g c =
    subst (λ (code : Code). AreDegreesOf code c.args.degrees.now) (sym c.deref-3.ensures) c.requires.degrees
