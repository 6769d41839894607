use Rattle.std.proofs.Common.{rules}
use Rattle.worker_pool.proofs.SlotLemmas.{degree_more}
use Rattle.worker_pool.proofs.all_blocks.push_degree.Goals as goal

pub returns-in_ok-push : goal.returns-in_ok-push
returns-in_ok-push c =
    degree_more c.args.cube.now c.args.degrees.now c.args.chosen.now.items c.push.new.self.items c.args.place _ c.requires.degrees c.requires.chosen
    c.if-place-degrees.true c.in_ok-push.ensures.items (search rules)
