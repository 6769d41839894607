use Rattle.std.proofs.Common.{ap}
use Rattle.version_lock.proofs.Merging.{longer_seen, apart}
use Rattle.version_lock.proofs.versioned.Versioned.join.Goals as goal

pub returns-clause-seen : goal.returns-clause-seen
returns-clause-seen g c = let t = c.join_shares.ensures.seen in rw (← c.seat.view_is, ← c.other.view_is) (longer_seen _ _ t.0 _ (ap (λ m. m.0.seen) c.join_shares.ensures.kept.1) t.1 t.2)

pub returns-clause-apart : goal.returns-clause-apart
returns-clause-apart g c place = rw (← c.seat.view_is, ← c.other.view_is) (apart place _ _ _ (ap (λ m. m.0.mine) c.join_shares.ensures.kept.1) c.join_shares.ensures.places.0)
