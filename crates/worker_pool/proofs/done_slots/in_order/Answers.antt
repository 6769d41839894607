use Rattle.std.proofs.Common.{arith}
use Rattle.worker_pool.specs.Slots.{IsDoneSlot}
use Rattle.worker_pool.proofs.DoneLemmas.{blocks_more}
use Rattle.worker_pool.proofs.KeptSlots.{stand_all, stand_more}
use Rattle.worker_pool.proofs.Zips.{zip_size}
use Rattle.worker_pool.proofs.done_slots.in_order.Goals as goal

pub places-preserved : goal.places-preserved
places-preserved g c = (
  blocks_more c.args.cube.now c.args.degrees.now c.places.place c.places.done.blocks.items c.push.new.self.blocks.items c.in_ok-done_at.field-0.block
      c.places.invariant.0 c.places-test.true c.in_ok-done_at.ensures.origin c.in_ok-push.ensures.blocks,
  c.in_ok-push.ensures.done,
  c.done_at.ensures.slots,
  stand_more c.places.place c.args.slots.items c.places.slots.items c.done_at.new.slots.items c.places.done c.push.new.self c.in_ok-done_at.field-0
      c.places.invariant.3 c.in_ok-done_at.ensures.kept c.done_at.ensures.emptied c.in_ok-push.ensures.blocks c.in_ok-push.ensures.counts,
)

pub returns-clause-kept : goal.returns-clause-kept
returns-clause-kept g c =
    stand_all c.places.place c.args.slots.items c.places.slots.items c.places.done c.places.invariant.3
    (omega (arith, zip_size (IsDoneSlot g.F.PrimeField.P c.args.cube.now) c.args.degrees.now c.args.slots.items c.requires.slots, c.places-test.false))
