use Rattle.std.proofs.Common.{rules}
use Rattle.worker_pool.proofs.SlotLemmas.{contains_at}
use Rattle.worker_pool.proofs.finished.done_alone.Goals as goal

pub finished-requires : goal.finished-requires
finished-requires g c = contains_at c.args.cube.now c.args.degrees.now c.args.place _ c.requires.degrees c.requires.place (search rules)
