use Rattle.kh_work.proofs.LogAnswers.{IsAnswer-log, IsAnswer-only_logs}
use Rattle.kh_work.proofs.laws.accepted_diagrams_are_answered_by_their_logs.Goals as goal

pub returns : goal.returns
returns c = record { answer = IsAnswer-log; only = IsAnswer-only_logs }
