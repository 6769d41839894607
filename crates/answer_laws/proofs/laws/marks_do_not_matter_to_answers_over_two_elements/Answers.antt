use Rattle.answer_laws.proofs.AlikeAnswers.{one-reduced}
use Rattle.answer_laws.proofs.laws.marks_do_not_matter_to_answers_over_two_elements.Goals as goal

pub returns : goal.returns
returns c = one-reduced
