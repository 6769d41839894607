use Rattle.word_line.proofs.Readings.{IsCommand-decided}
use Rattle.word_line.proofs.laws.words_are_decided.Goals as goal

pub returns : goal.returns
returns c = record { decided = IsCommand-decided }
