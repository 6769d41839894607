use Rattle.std.proofs.Common.{◌≡◌, ◌+◌}
use Rattle.version_lock.specs.Calls.{IsSeatOf}
use Rattle.worker_pool.specs.Rows.{Loses}
use Rattle.worker_pool.proofs.Zips.{ZipTo}
use Rattle.worker_pool.proofs.rows.gathered.Given as goal

abbrev pub invariant-rows : goal.invariant-rows
invariant-rows g l = IsSeatOf l.lock l.all × (l.all.share ≡ l.initial.all.share + l.row-index) × ZipTo (Loses l.lock) l.row-index l.initial.rows l.rows
