use Rattle.std.proofs.Common.{◌∙◌}
use Rattle.worker_pool.proofs.RowLemmas.{origins_more}
use Rattle.worker_pool.proofs.rows.opened.Goals as goal

pub values-preserved : goal.values-preserved
values-preserved g c =
    let known = c.values.invariant in
    let added = c.in_ok-add.ensures in (
      added.seated,
      added.rows ∙ known.1,
      origins_more g.B.Held.origin _ _ _ _ _ _ known.2 c.in-Some.ensures.items added.origins,
    )
