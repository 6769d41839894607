use Rattle.answer_laws.proofs.TurnedAnswers.{ShowsDiagram-reversal, ShowsDiagram-same}
use Rattle.answer_laws.proofs.laws.reversals_keep_tables.Goals as goal

pub returns : goal.returns
returns c = record { reversed = ShowsDiagram-reversal; converted = ShowsDiagram-same }
