use Rattle.scan_main.proofs.ScanCases.{IsScanAnswer-usage}
use Rattle.scan_main.proofs.laws.other_words_are_answered_by_the_usage_line.Goals as goal

pub returns : goal.returns
returns c = IsScanAnswer-usage
