use Rattle.std.proofs.Common.{◌≡◌, [], arith}
use Rattle.std.proofs.lemmas.List.Elements.{All-push}
use Rattle.worker_pool.proofs.rows.empty_rows.Goals as goal

pub rows-preserved : goal.rows-preserved
rows-preserved g c = (
  omega (arith, c.rows.invariant.0, c.in_ok-push.ensures.len),
  rw c.in_ok-push.ensures.items (All-push (λ row. row.items ≡ []) c.rows.rows.items c.new.result c.rows.invariant.1 c.new.ensures.items),
)
