use Rattle.commit_core.proofs.LockedTurns.{commit-locked, look-locked, stale-locked, zero-locked}
use Rattle.commit_core.proofs.laws.turns_under_a_lock_are_those_of_the_core.Goals as goal

pub returns-clause-look : goal.returns-clause-look
returns-clause-look c = look-locked

pub returns-clause-zero : goal.returns-clause-zero
returns-clause-zero c = zero-locked

pub returns-clause-commit : goal.returns-clause-commit
returns-clause-commit c = commit-locked

pub returns-clause-stale : goal.returns-clause-stale
returns-clause-stale c = stale-locked
