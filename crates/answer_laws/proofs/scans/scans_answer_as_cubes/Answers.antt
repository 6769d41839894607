use Rattle.answer_laws.proofs.ScanAnswers.{IsScanAnswer-cube}
use Rattle.answer_laws.proofs.scans.scans_answer_as_cubes.Goals as goal

pub returns : goal.returns
returns c = IsScanAnswer-cube
