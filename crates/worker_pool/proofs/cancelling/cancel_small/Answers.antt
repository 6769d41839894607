use Rattle.std.proofs.Common.{◌∙◌, ap, sym}
use Rattle.std.specs.Arc.{arc_value}
use Rattle.cube_signs.specs.Blocks.{block_degrees}
use Rattle.worker_pool.proofs.DoneLemmas.{degrees_all}
use Rattle.worker_pool.proofs.cancelling.cancel_small.Goals as goal

pub finished_by_workers-requires-clause-degrees : goal.finished_by_workers-requires-clause-degrees
finished_by_workers-requires-clause-degrees g c κs within =
    degrees_all (arc_value c.in_ok-cube.cube) c.deref.result.now
    (c.deref.ensures.value ∙ c.in_ok-degrees.ensures
    ∙ ap block_degrees (sym (c.in_ok-cube.ensures.ok ∙ c.in_ok-made.ensures ∙ c.diagram.ensures)))
