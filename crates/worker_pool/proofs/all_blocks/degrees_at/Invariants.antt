use Rattle.worker_pool.specs.Outcomes.{AreDegreesOf}
use Rattle.worker_pool.proofs.all_blocks.degrees_at.Given as goal

abbrev pub invariant-places : goal.invariant-places
invariant-places l = AreDegreesOf l.cube l.chosen.items
