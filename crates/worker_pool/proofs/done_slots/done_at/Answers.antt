use Rattle.std.proofs.Common.{arith}
use Rattle.worker_pool.specs.Slots.{IsDoneBlock, IsDoneSlot}
use Rattle.worker_pool.proofs.KeptSlots.{taken_is_kept}
use Rattle.worker_pool.proofs.Zips.{zip_size}
use Rattle.worker_pool.proofs.SlotLemmas.{in_slot, slot_emptied}
use Rattle.worker_pool.proofs.done_slots.done_at.Goals as goal

pub take_slot-requires : goal.take_slot-requires
take_slot-requires g c =
    omega (arith, zip_size (IsDoneSlot g.F.PrimeField.P c.args.cube.now) c.args.degrees.now c.args.slots.now.items c.requires.slots, c.requires.place)

pub returns-in-Some-clause-slots : goal.returns-in-Some-clause-slots
returns-in-Some-clause-slots g c =
    slot_emptied (IsDoneBlock g.F.PrimeField.P c.args.cube.now) c.args.degrees.now c.args.slots.now.items _ c.args.place c.requires.slots
    c.take_slot.ensures.empty

pub returns-in-Some-clause-kept : goal.returns-in-Some-clause-kept
returns-in-Some-clause-kept g c =
    taken_is_kept c.args.slots.now.items c.args.place c.in-Some.one
    (omega (arith, zip_size (IsDoneSlot g.F.PrimeField.P c.args.cube.now) c.args.degrees.now c.args.slots.now.items c.requires.slots, c.requires.place))
    c.in-Some.ensures.taken

pub returns-in-Some-clause-origin : goal.returns-in-Some-clause-origin
returns-in-Some-clause-origin g c =
    (in_slot (IsDoneBlock g.F.PrimeField.P c.args.cube.now) c.args.degrees.now c.args.slots.now.items c.args.place c.in-Some.one c.requires.slots
    c.requires.place c.in-Some.ensures.taken).origin

pub returns-in-Some-clause-done : goal.returns-in-Some-clause-done
returns-in-Some-clause-done g c =
    (in_slot (IsDoneBlock g.F.PrimeField.P c.args.cube.now) c.args.degrees.now c.args.slots.now.items c.args.place c.in-Some.one c.requires.slots
    c.requires.place c.in-Some.ensures.taken).done
