use Rattle.scan_main.proofs.ScanCases.{IsScanAnswer-table}
use Rattle.scan_main.proofs.laws.accepted_diagrams_are_answered_by_their_table.Goals as goal

pub returns : goal.returns
returns c = IsScanAnswer-table
