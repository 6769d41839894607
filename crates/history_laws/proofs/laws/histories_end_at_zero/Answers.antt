use Rattle.std.proofs.lemmas.Bool.Decides.{nat_tests}
use Rattle.std.proofs.Common.{arith}
use Rattle.history_laws.proofs.HistoryEnds.{length-longest, length-zero, zero-length, ending}
use Rattle.history_laws.proofs.laws.histories_end_at_zero.Goals as goal

pub returns-clause-longest : goal.returns-clause-longest
returns-clause-longest c = length-longest

pub returns-clause-zero : goal.returns-clause-zero
returns-clause-zero = grind (arith, nat_tests, length-zero, zero-length)

pub returns-clause-one : goal.returns-clause-one
returns-clause-one c = ending
