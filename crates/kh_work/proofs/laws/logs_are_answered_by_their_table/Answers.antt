use Rattle.kh_work.proofs.LogAnswers.{IsAnswer-certified, IsAnswer-only_verified, IsAnswer-verified}
use Rattle.kh_work.proofs.laws.logs_are_answered_by_their_table.Goals as goal

pub returns : goal.returns
returns c = record { answer = IsAnswer-verified; only = IsAnswer-only_verified; certified = IsAnswer-certified }
