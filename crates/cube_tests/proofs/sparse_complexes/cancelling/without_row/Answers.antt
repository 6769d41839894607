use Rattle.sparse_block.proofs.WorkedLemmas.{middle-row_alone}
use Rattle.cube_tests.proofs.sparse_complexes.cancelling.without_row.Goals as goal

pub drop_pair-requires-clause-pivot : goal.drop_pair-requires-clause-pivot
drop_pair-requires-clause-pivot c = (middle-row_alone c.in_ok-complex.complex c.in_ok-complex.ensures).is_pivot

pub drop_pair-requires-clause-alone : goal.drop_pair-requires-clause-alone
drop_pair-requires-clause-alone c = (middle-row_alone c.in_ok-complex.complex c.in_ok-complex.ensures).is_alone
