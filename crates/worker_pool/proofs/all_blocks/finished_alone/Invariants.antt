use Rattle.std.proofs.Common.{◌≡◌, All, take}
use Rattle.worker_pool.specs.Outcomes.{AreBlocksAt, AreDone}
use Rattle.worker_pool.proofs.all_blocks.finished_alone.Given as goal

abbrev pub invariant-places : goal.invariant-places
invariant-places g l =
    AreBlocksAt l.cube (take l.k l.degrees) l.done.blocks.items × AreDone g.F.PrimeField.P l.done
    × All (λ count. count ≡ 0) l.done.committed.items
