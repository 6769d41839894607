use Rattle.std.proofs.lemmas.Bool.Decides.{nat_tests}
use Rattle.std.proofs.Common.{arith}
use Rattle.cancel_step.proofs.SpanLemmas.{lines_pushed}
use Rattle.cancel_step.proofs.copied_lines.CopiedLines.push.Goals as goal

pub returns : goal.returns
returns = grind (arith, nat_tests, lines_pushed)
