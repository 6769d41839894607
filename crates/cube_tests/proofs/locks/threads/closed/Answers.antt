use Rattle.std.proofs.Common.{arith, ap, length, ◌≡◌, ◌+◌, ◌-◌}
use Rattle.version_lock.proofs.Places.{length-all_places}
use Rattle.cube_tests.proofs.locks.threads.closed.Goals as goal

pub returns : goal.returns
returns c =
    let size = length c.join-seat.result.seen in
    let both : length c.args.one.mine + length c.args.two.mine ≡ size - c.args.lock.first =
    length-all_places c.args.lock.first size c.args.one.mine c.args.two.mine c.join-seat.result.mine c.join-seat.ensures.mine c.close.ensures.mine in
    omega (arith, c.requires.empty, ap length c.close.ensures.history, both)
