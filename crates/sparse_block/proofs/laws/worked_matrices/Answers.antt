use Rattle.std.proofs.lemmas.Bool.Decides.{nat_tests}
use Rattle.std.proofs.Common.{arith}
use Rattle.sparse_block.proofs.WorkedLemmas.{worked-three, worked-five}
use Rattle.sparse_block.proofs.laws.worked_matrices.Goals as goal

pub returns : goal.returns
returns = grind (arith, nat_tests, worked-three, worked-five)
