use Rattle.sparse_block.proofs.WorkedLemmas.{worked-can_exchange}
use Rattle.cube_tests.proofs.sparse_complexes.cancelling.without_two.Goals as goal

pub exchange-requires-clause-pivot : goal.exchange-requires-clause-pivot
exchange-requires-clause-pivot c =
    let can = worked-can_exchange c.in_ok-complex.complex c.in_ok-change.change c.in_ok-complex.ensures c.in_ok-change.ensures in
    can.pivot

pub exchange-requires-clause-columns : goal.exchange-requires-clause-columns
exchange-requires-clause-columns c =
    let can = worked-can_exchange c.in_ok-complex.complex c.in_ok-change.change c.in_ok-complex.ensures c.in_ok-change.ensures in
    can.columns

pub exchange-requires-clause-rows : goal.exchange-requires-clause-rows
exchange-requires-clause-rows c =
    let can = worked-can_exchange c.in_ok-complex.complex c.in_ok-change.change c.in_ok-complex.ensures c.in_ok-change.ensures in
    can.rows
