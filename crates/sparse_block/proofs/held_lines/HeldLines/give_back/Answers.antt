use Rattle.std.proofs.lemmas.Bool.Decides.{nat_tests}
use Rattle.std.proofs.Common.{arith}
use Rattle.sparse_block.proofs.FilledLines.{padded-let_go}
use Rattle.sparse_block.proofs.held_lines.HeldLines.give_back.Goals as goal

pub returns-then-self-eq0 : goal.returns-then-self-eq0
returns-then-self-eq0 = grind (arith, nat_tests, padded-let_go)
