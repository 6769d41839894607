use Rattle.commit_core.proofs.Runs.{answers-opening}
use Rattle.commit_core.proofs.AnswerCounts.{length-answers}
use Rattle.commit_core.proofs.laws.answers_are_a_function_of_the_events.Goals as goal

pub returns-clause-answers : goal.returns-clause-answers
returns-clause-answers c = λ p workers code events made after run. answers-opening p code workers events made after run

pub returns-clause-count : goal.returns-clause-count
returns-clause-count c = length-answers
