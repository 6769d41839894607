use Rattle.kh_work.proofs.CaseAnswers.{IsAnswer-usage}
use Rattle.kh_work.proofs.laws.cases.other_words_are_answered_by_the_usage_line.Goals as goal

pub returns : goal.returns
returns c = IsAnswer-usage
