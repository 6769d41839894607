use Rattle.std.proofs.Common.{rules}
use Rattle.version_lock.proofs.RuleKept.{takes_turn_at}
use Rattle.version_lock.proofs.turns.take_turn.Goals as goal

pub compare_exchange-requires : goal.compare_exchange-requires
compare_exchange-requires g c = (search rules, search rules, takes_turn_at _ _ _ _ _ _ _ _ (search rules) (search rules) (search rules))
