use Rattle.word_line.proofs.ScanReadings.{IsScanCommand-decided}
use Rattle.word_line.proofs.laws.scan_words_are_decided.Goals as goal

pub returns : goal.returns
returns c = record { decided = IsScanCommand-decided }
