use Rattle.std.proofs.lemmas.Bool.Decides.{nat_tests}
use Rattle.std.proofs.Common.{arith}
use Rattle.std.proofs.lemmas.Int.{ints}
use Rattle.cancel_step.proofs.ReadingLemmas.{last-entry}
use Rattle.cancel_step.proofs.reading.last_row.Goals as goal

pub returns-clause-some : goal.returns-clause-some
returns-clause-some = grind (arith, nat_tests, ints, last-entry)
