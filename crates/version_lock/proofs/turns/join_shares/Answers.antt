use Rattle.std.proofs.Common.{rules}
use Rattle.version_lock.proofs.RuleKept.{joins, affirms}
use Rattle.version_lock.proofs.turns.join_shares.Goals as goal

pub join_seat-requires : goal.join_seat-requires
join_seat-requires g c = (search rules, search rules, search rules, search rules, joins _ _ _ _ _ _ _ _ _ c.requires.idle.1 c.requires.idle.0 c.requires.other.2 c.requires.other.1)

pub load-requires : goal.load-requires
load-requires g c = (search rules, search rules, affirms _ _ _ _ _ _ _ _ _ (search rules))
