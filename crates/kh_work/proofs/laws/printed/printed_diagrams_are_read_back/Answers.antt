use Rattle.kh_work.proofs.PrintedReadings.{IsCodeRead-printed}
use Rattle.kh_work.proofs.laws.printed.printed_diagrams_are_read_back.Goals as goal

pub returns : goal.returns
returns c = IsCodeRead-printed
