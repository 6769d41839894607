use Rattle.std.proofs.Common.{◌∙◌, ℤ, All, ap, subst, sym, rules}
use Rattle.std.specs.Arc.{arc_value}
use Rattle.kh_types.specs.Code.{Code}
use Rattle.worker_pool.specs.Outcomes.{AreDegreesOf}
use Rattle.worker_pool.specs.Rows.{IsRowOf}
use Rattle.worker_pool.specs.Slots.{AreDoneSlots}
use Rattle.worker_pool.proofs.DoneLemmas.{locked_from, taken_from}
use Rattle.worker_pool.proofs.RowLemmas.{seated_after_work}
use Rattle.worker_pool.proofs.all_blocks.put_all.Goals as goal

pub degrees_at-requires : goal.degrees_at-requires
degrees_at-requires g c = subst (λ (code : Code). AreDegreesOf code c.args.degrees.now) (sym c.deref.ensures) c.requires.degrees

pub blocks_at-requires-after_bounds : goal.blocks_at-requires-after_bounds
blocks_at-requires-after_bounds g c κs within =
    subst (λ (code : Code). AreDegreesOf code c.deref-2.result.now) c.deref.ensures
    (subst (AreDegreesOf c.deref.result.now) (sym c.deref-2.ensures.value) c.in_ok-chosen.ensures)

pub places-init : goal.places-init
places-init g c = (
  seated_after_work _ _ _ _ _ _ c.in_ok-locks.ensures.seated c.as_mut_slice.ensures.value c.as_mut_slice.ensures.len (search rules)
      (subst (λ locks. All (λ row. IsRowOf locks row.items) c.work_rows.new.rows) c.deref-3.ensures.value c.work_rows.ensures.rows),
  locked_from (arc_value c.args.cube.now) c.deref-2.result.now c.in_ok-blocks.blocks.items _ c.in_ok-blocks.ensures c.in_ok-locks.ensures.origins,
  c.requires.slots,
)

pub put-requires-clause-slots : goal.put-requires-clause-slots
put-requires-clause-slots g c =
    let same = ap (λ (origin : Code × ℤ). origin.0) c.in_ok-finished_one.ensures.origin
    ∙ (taken_from (arc_value c.args.cube.now) _ _ _ c.places.invariant.1 c.in-Some.ensures.some).1 in
    subst (λ code. AreDoneSlots g.F.PrimeField.P code c.args.degrees.now c.places.slots.items) (sym same) c.places.invariant.2

pub places-preserved : goal.places-preserved
places-preserved g c =
    let left = taken_from (arc_value c.args.cube.now) _ _ _ c.places.invariant.1 c.in-Some.ensures.some in
    let same = ap (λ (origin : Code × ℤ). origin.0) c.in_ok-finished_one.ensures.origin ∙ left.1 in (
      c.take_last.ensures.seated,
      left.0,
      subst (λ code. AreDoneSlots g.F.PrimeField.P code c.args.degrees.now c.put.new.slots.items) same c.put.ensures.slots,
    )
