use Rattle.std.proofs.Common.{ap, arith, length, ◌∙◌, ◌-◌}
use Rattle.std.proofs.lemmas.List.FromFn.{length-range_with_len}
use Rattle.worker_pool.proofs.one_seat.cancel_by_one_seat.Goals as goal

pub returns-clause-turns : goal.returns-clause-turns
returns-clause-turns g c =
    let lock = c.in_ok-lock.lock in
    let size = ap length c.close.ensures.mine ∙ length-range_with_len lock.first (length c.work.new.seat.seen - lock.first) in
    omega (
      arith,
      size,
      ap length c.close.ensures.history,
      ap length c.requires,
      c.in_ok-lock.ensures.first,
      ap length c.in_ok-lock.ensures.seen,
      ap length c.in_ok-lock.ensures.mine,
      c.in_ok-turns.ensures.turns,
      c.in_ok-turns.ensures.own,
    )
