use Rattle.std.proofs.lemmas.Bool.Decides.{nat_tests}
use Rattle.std.proofs.Common.{arith}
use Rattle.std.proofs.lemmas.List.{take_all}
use Rattle.cancel_step.proofs.copying.copy_lines.Goals as goal

pub returns : goal.returns
returns = grind (arith, nat_tests, take_all)
