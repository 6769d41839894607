use Rattle.sparse_block.proofs.WorkedLemmas.{worked-column_alone}
use Rattle.cube_tests.proofs.sparse_complexes.cancelling.without_column.Goals as goal

pub drop_pair-requires-clause-pivot : goal.drop_pair-requires-clause-pivot
drop_pair-requires-clause-pivot c = (worked-column_alone c.in_ok-complex.complex c.in_ok-complex.ensures).is_pivot

pub drop_pair-requires-clause-alone : goal.drop_pair-requires-clause-alone
drop_pair-requires-clause-alone c = (worked-column_alone c.in_ok-complex.complex c.in_ok-complex.ensures).is_alone
