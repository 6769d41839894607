use Rattle.answer_laws.proofs.TurnedAnswers.{ShowsDiagram-mirror}
use Rattle.answer_laws.proofs.laws.mirrors_turn_tables.Goals as goal

pub returns : goal.returns
returns c = ShowsDiagram-mirror
