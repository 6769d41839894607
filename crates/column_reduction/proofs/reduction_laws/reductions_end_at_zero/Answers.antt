use Rattle.column_reduction.proofs.Ends.{comes-up, legal-up, replay-up, zero-up}
use Rattle.column_reduction.proofs.reduction_laws.reductions_end_at_zero.Goals as goal

pub returns-clause-legal : goal.returns-clause-legal
returns-clause-legal c = legal-up

pub returns-clause-replayed : goal.returns-clause-replayed
returns-clause-replayed c = replay-up

pub returns-clause-comes : goal.returns-clause-comes
returns-clause-comes c = comes-up

pub returns-clause-zero : goal.returns-clause-zero
returns-clause-zero c = zero-up
