use Rattle.std.proofs.lemmas.Bool.Decides.{nat_tests}
use Rattle.std.proofs.Common.{arith}
use Rattle.std.proofs.lemmas.List.{length-set}
use Rattle.sparse_block.proofs.ClearingLemmas.{lists_in-dead}
use Rattle.sparse_block.proofs.clearing.kill.Goals as goal

pub returns : goal.returns
returns = grind (arith, nat_tests, length-set, lists_in-dead)
