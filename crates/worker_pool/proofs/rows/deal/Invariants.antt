use Rattle.std.proofs.Common.{◌≡◌, ◌+◌, length}
use Rattle.version_lock.specs.Calls.{IsSeatOf}
use Rattle.worker_pool.specs.Rows.{Gains}
use Rattle.worker_pool.proofs.Zips.{ZipTo}
use Rattle.worker_pool.proofs.rows.deal.Given as goal

abbrev pub invariant-rows : goal.invariant-rows
invariant-rows g l = IsSeatOf l.lock l.rest × (l.rest.share + l.row-index ≡ length l.initial.rows + 1) × ZipTo (Gains l.lock) l.row-index l.initial.rows l.rows
