use Rattle.std.proofs.Common.{sym, ap, subst, length, All, arith}
use Rattle.worker_pool.specs.Rows.{EndsAt}
use Rattle.worker_pool.proofs.RowLemmas.{last_of, origins_push, seated_after_gather}
use Rattle.worker_pool.proofs.rows.take_last.Goals as goal

pub gathered-seat-requires-clause-belongs : goal.gathered-seat-requires-clause-belongs
gathered-seat-requires-clause-belongs g c κs within = (last_of _ _ _ _ _ _ _ c.requires c.in_ok-lock.ensures.items c.in-Some.ensures.items).one.belongs

pub gathered-seat-requires-clause-rows : goal.gathered-seat-requires-clause-rows
gathered-seat-requires-clause-rows g c κs within =
    let last = last_of _ _ _ _ _ _ _ c.requires c.in_ok-lock.ensures.items c.in-Some.ensures.items in
    subst (All (EndsAt c.in_ok-lock.lock)) (sym c.as_mut_slice.ensures.value) last.ends

pub close-requires-clause-all : goal.close-requires-clause-all
close-requires-clause-all g c κs within =
    let last = last_of _ _ _ _ _ _ _ c.requires c.in_ok-lock.ensures.items c.in-Some.ensures.items in
    omega (arith, c.gathered-seat.ensures.share, last.one.share, last.seats, ap length c.as_mut_slice.ensures.value)

pub returns-clause-seated : goal.returns-clause-seated
returns-clause-seated g c =
    let last = last_of _ _ _ _ _ _ _ c.requires c.in_ok-lock.ensures.items c.in-Some.ensures.items in
    let slice = c.as_mut_slice.ensures in
    seated_after_gather _ _ _ _ _ _ _ _ last slice.value slice.len c.gathered-seat.ensures.rows

pub returns-clause-some : goal.returns-clause-some
returns-clause-some g c = origins_push _ _ _ _ _ c.in_ok-lock.ensures.items (sym c.close.ensures.origin)
