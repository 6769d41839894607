use Rattle.std.proofs.Common.{◌∙◌}
use Rattle.kh_work.proofs.CircleRows.{rows_of-within}
use Rattle.kh_work.proofs.circles.push_degree.Goals as goal

pub push_sums-requires-clause-lower : goal.push_sums-requires-clause-lower
push_sums-requires-clause-lower c =
    rows_of-within c.rows.result.now c.deref.result.now _ (rw c.rows.ensures c.table_laws.ensures.table.rows)
    (c.deref.ensures.value ∙ c.in_ok-lower.ensures)

pub push_sums-requires-clause-upper : goal.push_sums-requires-clause-upper
push_sums-requires-clause-upper c =
    rows_of-within c.rows-2.result.now c.deref-2.result.now _ (rw c.rows-2.ensures c.table_laws.ensures.table.rows)
    (c.deref-2.ensures.value ∙ c.in_ok-upper.ensures)
