use Rattle.std.proofs.Common.{arith}
use Rattle.worker_pool.specs.Rows.{Gains}
use Rattle.worker_pool.proofs.Zips.{zip_more, zip_whole}
use Rattle.worker_pool.proofs.rows.deal.Goals as goal

pub rows-preserved : goal.rows-preserved
rows-preserved g c = (
  c.in_ok-rest.ensures.belongs,
  omega (arith, c.in_ok-rest.ensures.share, c.rows.invariant.1),
  zip_more (Gains c.args.lock.now) c.rows.row-index c.args.rows.now c.rows.rows c.deal_one.new.row c.row-item.result c.rows.invariant.2 c.rows-test.true
      c.in_ok-rest.ensures.row,
)

pub returns-clause-rows : goal.returns-clause-rows
returns-clause-rows g c = zip_whole (Gains c.args.lock.now) c.rows.row-index c.args.rows.now c.rows.rows c.rows.invariant.2 c.rows-test.false
