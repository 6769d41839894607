use Rattle.std.proofs.Common.{rules, refl}
use Rattle.version_lock.proofs.RuleKept.{releases_at}
use Rattle.version_lock.proofs.turns.release.Goals as goal

pub store-requires : goal.store-requires
store-requires g c = let t = c.requires.out in (search rules, search rules, releases_at _ _ _ _ _ _ _ _ _ t.0.0 (search rules) t.0.1 t.1 t.0.2.0 t.0.2.1 refl)

pub returns-clause-freed : goal.returns-clause-freed
returns-clause-freed g c = let t = c.requires.out.0 in (t.0, t.1, c.store.ensures.2 _ t.2.0)
