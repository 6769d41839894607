use Rattle.std.proofs.lemmas.Bool.Decides.{nat_tests}
use Rattle.std.proofs.Common.{arith}
use Rattle.std.proofs.lemmas.Int.{ints}
use Rattle.cancel_step.proofs.FinishLemmas.{comes-try, empty-try}
use Rattle.cancel_step.proofs.finishing.clear_column.Goals as goal

pub returns-in-Some-clause-empty : goal.returns-in-Some-clause-empty
returns-in-Some-clause-empty = grind (arith, nat_tests, ints, empty-try)

pub returns-in-Some-clause-history : goal.returns-in-Some-clause-history
returns-in-Some-clause-history = grind (arith, nat_tests, comes-try)
