use Rattle.std.proofs.lemmas.Bool.Decides.{nat_tests}
use Rattle.std.proofs.Common.{arith}
use Rattle.std.proofs.lemmas.Int.{ints}
use Rattle.sparse_block.proofs.PastLemmas.{column-past}
use Rattle.sparse_block.proofs.reading.column_at.Goals as goal

pub returns-then-places-place : goal.returns-then-places-place
returns-then-places-place = grind (arith, nat_tests, ints, column-past)
