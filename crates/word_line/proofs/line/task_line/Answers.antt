use Rattle.std.proofs.lemmas.Bool.Decides.{nat_tests}
use Rattle.std.proofs.Common.{arith}
use Rattle.word_line.proofs.line.task_line.Goals as goal

pub returns : goal.returns
returns = grind (arith, nat_tests)
