use Rattle.kh_types.proofs.AcceptedLemmas.{direction_fault-none, IsAccepted-is}
use Rattle.kh_types.proofs.laws.accepted.rules_say_what_is_accepted.Goals as goal

pub returns-clause-directed : goal.returns-clause-directed
returns-clause-directed c = direction_fault-none

pub returns-clause-accepted : goal.returns-clause-accepted
returns-clause-accepted c = IsAccepted-is
