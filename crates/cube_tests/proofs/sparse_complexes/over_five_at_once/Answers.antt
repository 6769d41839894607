use Rattle.std.proofs.Common.{arith}
use Rattle.sparse_block.proofs.WorkedLemmas.{worked-entries, worked-five}
use Rattle.cube_tests.proofs.sparse_complexes.over_five_at_once.Goals as goal

pub worked_at_once-requires-clause-entries : goal.worked_at_once-requires-clause-entries
worked_at_once-requires-clause-entries c =
    worked-entries 5 2 3 1 (omega arith) (omega arith) (omega arith) (omega arith) (omega arith) (omega arith) (omega arith)

pub worked_at_once-requires-clause-squares : goal.worked_at_once-requires-clause-squares
worked_at_once-requires-clause-squares c = worked-five.product
