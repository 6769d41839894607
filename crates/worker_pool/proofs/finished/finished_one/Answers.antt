use Rattle.worker_pool.proofs.DoneLemmas.{done_one}
use Rattle.worker_pool.proofs.finished.finished_one.Goals as goal

pub returns-clause-done : goal.returns-clause-done
returns-clause-done g c =
    done_one g.F.PrimeField.P c.args.block _ c.version-committed.ensures c.in_ok-block.ensures.history c.in_ok-block.ensures.zero
