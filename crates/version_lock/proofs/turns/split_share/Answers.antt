use Rattle.std.proofs.Common.{rules}
use Rattle.version_lock.proofs.RuleKept.{splits}
use Rattle.version_lock.proofs.turns.split_share.Goals as goal

pub split_seat-requires : goal.split_seat-requires
split_seat-requires g c = (search rules, search rules, splits _ _ _ _ _ _ _ c.requires.idle.1 c.requires.idle.0)
