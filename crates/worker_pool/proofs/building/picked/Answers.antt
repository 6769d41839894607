use Rattle.std.proofs.Common.{refl, pos, get_or}
use Rattle.std.proofs.lemmas.List.{get_or_default}
use Rattle.std.specs.Arc.{arc_value}
use Rattle.shared_block.proofs.AllBlocks.{opened-more}
use Rattle.worker_pool.proofs.building.picked.Goals as goal

pub places-preserved : goal.places-preserved
places-preserved g c =
    let code = arc_value c.args.cube.now in
    let degrees = c.args.degrees.now in
    let place = c.places.place in
    let j = get_or degrees place (pos 0) in (
      c.block_at.ensures.rows,
      opened-more code code degrees place j j c.places.blocks.items c.push.new.self.items c.in_ok-block_at.field-0 c.places.invariant.1
          c.places-test.true (get_or_default degrees place (pos 0) j c.places-test.true) refl refl c.in_ok-block_at.ensures.block
          c.in_ok-push.ensures.items,
    )
