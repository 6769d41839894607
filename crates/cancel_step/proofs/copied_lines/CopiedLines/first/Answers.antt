use Rattle.std.proofs.lemmas.Bool.Decides.{nat_tests}
use Rattle.std.proofs.Common.{arith}
use Rattle.cancel_step.proofs.SpanLemmas.{first-spans}
use Rattle.cancel_step.proofs.copied_lines.CopiedLines.first.Goals as goal

pub returns : goal.returns
returns = grind (arith, nat_tests, first-spans)
