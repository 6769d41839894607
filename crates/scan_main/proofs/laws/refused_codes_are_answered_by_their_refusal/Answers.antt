use Rattle.scan_main.proofs.ScanCases.{IsScanAnswer-faulty, IsScanAnswer-unread}
use Rattle.scan_main.proofs.laws.refused_codes_are_answered_by_their_refusal.Goals as goal

pub returns : goal.returns
returns c = record {
  text = IsScanAnswer-unread;
  code = IsScanAnswer-faulty;
}
