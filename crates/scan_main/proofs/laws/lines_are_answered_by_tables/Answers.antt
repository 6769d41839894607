use Rattle.scan_main.proofs.ListRuns.{IsTableTo-answer}
use Rattle.scan_main.proofs.laws.lines_are_answered_by_tables.Goals as goal

pub returns : goal.returns
returns c = IsTableTo-answer
