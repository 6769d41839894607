use Rattle.std.proofs.lemmas.Bool.Decides.{nat_tests}
use Rattle.std.proofs.Common.{arith}
use Rattle.sparse_block.proofs.KeptLemmas.{zero-from_rows}
use Rattle.sparse_block.proofs.complex.Complex.is_zero.Goals as goal

pub returns : goal.returns
returns = grind (arith, nat_tests, zero-from_rows)
