use Rattle.std.proofs.lemmas.Bool.Decides.{nat_tests}
use Rattle.std.proofs.Common.{arith}
use Rattle.cancel_step.proofs.ReadingLemmas.{zero-from_degrees}
use Rattle.cancel_step.proofs.search.search_from.Goals as goal

pub degrees-preserved : goal.degrees-preserved
degrees-preserved = grind (arith, nat_tests)

pub returns-clause-none : goal.returns-clause-none
returns-clause-none = grind (arith, nat_tests, zero-from_degrees)
