use Rattle.std.proofs.Common.{rules, refl}
use Rattle.version_lock.proofs.RuleKept.{withdraws_at}
use Rattle.version_lock.proofs.turns.withdraw.Goals as goal

pub store-requires : goal.store-requires
store-requires g c = let t = c.requires.out in (search rules, search rules, withdraws_at _ _ _ _ _ _ _ _ _ t.0.0 (search rules) t.0.1 t.1 t.0.2.0 t.0.2.1 refl c.requires.below)
