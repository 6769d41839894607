use Rattle.std.proofs.Common.{arith}
use Rattle.sparse_block.proofs.WorkedLemmas.{worked-entries, worked-three}
use Rattle.cube_tests.proofs.sparse_complexes.over_three.Goals as goal

pub worked-requires-clause-entries : goal.worked-requires-clause-entries
worked-requires-clause-entries c =
    worked-entries 3 2 1 1 (omega arith) (omega arith) (omega arith) (omega arith) (omega arith) (omega arith) (omega arith)

pub worked-requires-clause-squares : goal.worked-requires-clause-squares
worked-requires-clause-squares c = worked-three.product
