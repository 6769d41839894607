use Rattle.std.proofs.Common.{arith}
use Rattle.worker_pool.proofs.RowLemmas.{seat_there, row_set}
use Rattle.worker_pool.proofs.sharing.work_at.Goals as goal

pub take_turns-requires-clause-belongs : goal.take_turns-requires-clause-belongs
take_turns-requires-clause-belongs g c κs within =
    (seat_there c.args.locks.now c.args.seats.now c.args.place c.index-locks-place.result c.index-seats-place.result c.requires (omega arith) c.index-locks-place.is).belongs

pub returns : goal.returns
returns g c =
    row_set c.args.locks.now c.args.seats.now c.args.place c.index-locks-place.result c.index-seats-place.result c.take_turns.new.seat c.requires (omega arith)
    c.index-locks-place.is c.take_turns.ensures.belongs c.take_turns.ensures.share
