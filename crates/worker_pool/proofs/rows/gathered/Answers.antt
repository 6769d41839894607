use Rattle.std.proofs.Common.{sym, subst, arith}
use Rattle.worker_pool.specs.Rows.{EndsAt, Loses}
use Rattle.worker_pool.proofs.Zips.{zip_more, zip_rest, zip_whole}
use Rattle.worker_pool.proofs.rows.gathered.Goals as goal

pub gather_one-all-requires-clause-row : goal.gather_one-all-requires-clause-row
gather_one-all-requires-clause-row g c κs within =
    subst (EndsAt c.args.lock.now) (sym (zip_rest (Loses c.args.lock.now) c.rows.row-index c.args.rows.now c.rows.rows c.row-item.result c.rows.invariant.2))
    (c.requires.rows c.rows.row-index c.row-item.result c.rows-test.true)

pub rows-preserved : goal.rows-preserved
rows-preserved g c = (
  c.gather_one-all.ensures.belongs,
  omega (arith, c.gather_one-all.ensures.share, c.rows.invariant.1),
  zip_more (Loses c.args.lock.now) c.rows.row-index c.args.rows.now c.rows.rows c.gather_one-all.new.row c.row-item.result c.rows.invariant.2 c.rows-test.true
      c.gather_one-all.ensures.row,
)

pub returns-clause-rows : goal.returns-clause-rows
returns-clause-rows g c = zip_whole (Loses c.args.lock.now) c.rows.row-index c.args.rows.now c.rows.rows c.rows.invariant.2 c.rows-test.false
