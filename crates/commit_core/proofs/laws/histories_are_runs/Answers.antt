use Rattle.commit_core.proofs.HistoryRuns.{history-run}
use Rattle.commit_core.proofs.laws.histories_are_runs.Goals as goal

pub returns : goal.returns
returns c = λ p code workers j history field is some has legal. history-run p code workers j field is some has history legal
