use Rattle.scan_main.proofs.ScanCases.{IsScanAnswer-many_bytes}
use Rattle.scan_main.proofs.laws.too_many_bytes_are_answered_by_their_limit.Goals as goal

pub returns : goal.returns
returns c = IsScanAnswer-many_bytes
