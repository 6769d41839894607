use Rattle.std.proofs.lemmas.Bool.Decides.{nat_tests}
use Rattle.std.proofs.Common.{arith}
use Rattle.cancel_step.proofs.SpanLemmas.{spans-behind}
use Rattle.cancel_step.proofs.copied_lines.CopiedLines.behind.Goals as goal

pub returns : goal.returns
returns = grind (arith, nat_tests, spans-behind)
