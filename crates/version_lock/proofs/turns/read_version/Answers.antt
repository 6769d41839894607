use Rattle.std.proofs.Common.{rules}
use Rattle.version_lock.proofs.RuleKept.{measures, if_some}
use Rattle.version_lock.proofs.turns.read_version.Goals as goal

pub load-requires : goal.load-requires
load-requires g c = (search rules, search rules, measures _ _ _ _ _ _ _ _ _ (search rules))

pub returns-clause-length : goal.returns-clause-length
returns-clause-length g c = if_some _ _ c.load.ensures.2.1
