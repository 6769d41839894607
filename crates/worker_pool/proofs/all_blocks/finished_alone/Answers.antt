use Rattle.worker_pool.proofs.DoneLemmas.{blocks_more, none_more}
use Rattle.worker_pool.proofs.all_blocks.finished_alone.Goals as goal

pub places-preserved : goal.places-preserved
places-preserved g c = (
  blocks_more c.args.cube.now c.args.degrees.now c.places.k c.places.done.blocks.items c.push.new.self.blocks.items c.in_ok-done_alone.field-0.block
      c.places.invariant.0 c.places-test.true c.in_ok-done_alone.ensures.origin c.in_ok-push.ensures.blocks,
  c.in_ok-push.ensures.done,
  none_more c.places.done.committed.items c.push.new.self.committed.items c.in_ok-done_alone.field-0.committed c.places.invariant.2
      c.in_ok-done_alone.ensures.count c.in_ok-push.ensures.counts,
)
