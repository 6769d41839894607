use Rattle.std.proofs.Common.{◌≡◌, [], arith}
use Rattle.std.specs.Arc.{arc_value}
use Rattle.shared_block.specs.BlockHistories.{block_with}
use Rattle.worker_pool.specs.Slots.{IsSlotOf}
use Rattle.worker_pool.proofs.Zips.{zip_size}
use Rattle.worker_pool.proofs.SlotLemmas.{in_slot, slots_emptied}
use Rattle.worker_pool.proofs.building.block_at.Goals as goal

pub take_slot-requires : goal.take_slot-requires
take_slot-requires g c =
    let h = c.rows.invariant c.rows.row-index c.row-item.result (omega arith) in
    omega (arith, zip_size (IsSlotOf (arc_value c.args.cube.now)) c.args.degrees.now _ h, c.requires.place)

pub returns-in-Some-clause-rows : goal.returns-in-Some-clause-rows
returns-in-Some-clause-rows g c =
    slots_emptied (arc_value c.args.cube.now) c.args.degrees.now c.rows.rows c.rows.row-index c.row-item.result c.take_slot.new.slots c.args.place c.rows.invariant
    (omega arith) c.take_slot.ensures.empty

pub returns-in-Some-clause-block : goal.returns-in-Some-clause-block
returns-in-Some-clause-block g c =
    let h = c.rows.invariant c.rows.row-index c.row-item.result (omega arith) in
    in_slot (λ j held. held ≡ block_with (arc_value c.args.cube.now) j []) c.args.degrees.now _ c.args.place c.in-Some.held h c.requires.place c.in-Some.ensures.taken
