use Rattle.scan_main.proofs.ScanRuns.{IsScanAnswer-command}
use Rattle.scan_main.proofs.laws.lines_are_answered_as_alone.Goals as goal

pub returns : goal.returns
returns c = λ words asked reply. IsScanAnswer-command words asked.line.bytes asked.field reply
