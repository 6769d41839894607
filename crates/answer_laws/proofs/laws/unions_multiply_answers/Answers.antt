use Rattle.answer_laws.proofs.TurnedAnswers.{ShowsDiagram-union}
use Rattle.answer_laws.proofs.laws.unions_multiply_answers.Goals as goal

pub returns : goal.returns
returns c = ShowsDiagram-union
