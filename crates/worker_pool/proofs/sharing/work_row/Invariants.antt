use Rattle.worker_pool.specs.Rows.{IsRowOf}
use Rattle.worker_pool.proofs.sharing.work_row.Given as goal

abbrev pub invariant-begun : goal.invariant-begun
invariant-begun g l = IsRowOf l.locks l.seats

abbrev pub invariant-helped : goal.invariant-helped
invariant-helped g l = IsRowOf l.locks l.seats
