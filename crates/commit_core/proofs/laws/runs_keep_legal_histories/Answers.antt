use Rattle.commit_core.proofs.Kept.{dimensions-reached}
use Rattle.commit_core.proofs.Runs.{sound-reached}
use Rattle.commit_core.proofs.laws.runs_keep_legal_histories.Goals as goal

pub returns-clause-legal : goal.returns-clause-legal
returns-clause-legal c = λ p workers code events made after run. (sound-reached p code workers events made after run).0.legal

pub returns-clause-dimensions : goal.returns-clause-dimensions
returns-clause-dimensions c =
    λ p workers code events made after field is run.
    dimensions-reached p code after field is (sound-reached p code workers events made after run)

pub returns-clause-held : goal.returns-clause-held
returns-clause-held c = λ p workers code events made after run. (sound-reached p code workers events made after run).0.holdings
