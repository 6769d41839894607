use Rattle.cancel_log.proofs.WrittenLogs.{IsWritten}
use Rattle.cancel_log.proofs.writing.write_log.Given as goal

abbrev pub invariant-degrees : goal.invariant-degrees
invariant-degrees g l = IsWritten g.F.PrimeField.P l.diagram l.degrees.items l.k l.text.items l.rows.items
