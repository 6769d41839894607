use Rattle.worker_pool.proofs.DoneLemmas.{done_more}
use Rattle.worker_pool.proofs.finished.Finished.push.Goals as goal

pub returns-clause-done : goal.returns-clause-done
returns-clause-done g c =
    done_more g.F.PrimeField.P c.args.self.now _ c.args.one c.requires.done c.requires.one c.in_ok-push-2.ensures.items c.in_ok-push.ensures.items
