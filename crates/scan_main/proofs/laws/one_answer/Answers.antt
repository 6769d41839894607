use Rattle.scan_main.proofs.ScanAnswers.{IsScanAnswer-one, IsScanAnswer-some}
use Rattle.scan_main.proofs.laws.one_answer.Goals as goal

pub returns : goal.returns
returns c = record {
  some = IsScanAnswer-some;
  one = IsScanAnswer-one;
}
