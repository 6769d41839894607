use Rattle.std.proofs.Common.{arith}
use Rattle.worker_pool.proofs.Working.{looked, committed}
use Rattle.worker_pool.proofs.turns.take_turns.Goals as goal

pub turns-preserved : goal.turns-preserved
turns-preserved g c =
    let look = c.look_with.ensures in
    let taken = c.commit_with.ensures in (
      committed _ _ _ _ _ _ _ (looked _ _ _ _ _ c.turns.invariant.0 look.belongs look.share look.mine look.seen) taken.belongs taken.share taken.commit,
      c.paused-pause.ensures,
      omega (arith, c.turns.invariant.2),
    )
