use Rattle.std.proofs.Common.{arith}
use Rattle.worker_pool.proofs.RowLemmas.{origins_push, seated_after_deal}
use Rattle.worker_pool.proofs.rows.add.Goals as goal

pub returns-clause-seated : goal.returns-clause-seated
returns-clause-seated g c =
    let slice = c.as_mut_slice.ensures in
    seated_after_deal _ _ _ _ _ _ _ _ _ _ c.requires.seated slice.value slice.len c.in_ok-rest.ensures.rows c.in_ok-rest.ensures.rest (omega (arith, c.in_ok-lock.ensures.seats))
    c.in_ok-push-2.ensures.items c.in_ok-push.ensures.items

pub returns-clause-origins : goal.returns-clause-origins
returns-clause-origins g c = origins_push _ _ _ _ _ c.in_ok-push-2.ensures.items c.in_ok-lock.ensures.origin
