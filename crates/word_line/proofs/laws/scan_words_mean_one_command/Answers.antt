use Rattle.word_line.proofs.ScanReadings.{IsScanCommand-one}
use Rattle.word_line.proofs.laws.scan_words_mean_one_command.Goals as goal

pub returns : goal.returns
returns c = record { one = IsScanCommand-one }
