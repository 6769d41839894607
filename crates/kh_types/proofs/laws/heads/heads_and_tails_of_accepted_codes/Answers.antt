use Rattle.kh_types.proofs.Heads.{HasNoSingleArcs-accepted, HasEnds-directed, IsPass-under, IsPass-over}
use Rattle.kh_types.proofs.laws.heads.heads_and_tails_of_accepted_codes.Goals as goal

pub returns-clause-directed : goal.returns-clause-directed
returns-clause-directed c = HasNoSingleArcs-accepted

pub returns-clause-ends : goal.returns-clause-ends
returns-clause-ends c = HasEnds-directed

pub returns-clause-under : goal.returns-clause-under
returns-clause-under c = IsPass-under

pub returns-clause-over : goal.returns-clause-over
returns-clause-over c = IsPass-over
