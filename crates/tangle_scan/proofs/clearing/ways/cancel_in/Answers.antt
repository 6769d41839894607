use Rattle.std.proofs.Common.{refl}
use Rattle.std.specs.Prelude.{slice_set}
use Rattle.tangle_maps.specs.Ways.{IsCancelledAlong}
use Rattle.tangle_scan.specs.declared.complex.Entry.{Entry}
use Rattle.tangle_scan.proofs.Cancels.{changed-in, written-heads, written-once}
use Rattle.tangle_scan.proofs.Ways.{read-reduced}
use Rattle.tangle_scan.proofs.clearing.ways.cancel_in.Goals as goal

pub take_off-requires-clause-entry : goal.take_off-requires-clause-entry
take_off-requires-clause-entry g c =
    read-reduced g.F.PrimeField.P c.requires.column.0 c.args.column.now.items c.args.at c.index_mut.result.now c.requires.at
    c.requires.column.1 c.index_mut.ensures.value

pub trim-requires-clause-once : goal.trim-requires-clause-once
trim-requires-clause-once g c =
    let column = c.args.column.now.items in
    let entry = c.index_mut.result.now in
    let written : Entry = record { head = entry.head; terms = c.take_off.new.terms } in
    written-once column c.args.at entry written (slice_set column c.args.at written)
    (record {
      within = c.requires.at;
      once = c.requires.column.1.once;
      read = c.index_mut.ensures.value;
      head = refl;
      made = refl;
    })

pub returns-clause-changed : goal.returns-clause-changed
returns-clause-changed g c =
    let p = g.F.PrimeField.P in
    let column = c.args.column.now.items in
    let entry = c.index_mut.result.now in
    let written : Entry = record { head = entry.head; terms = c.take_off.new.terms } in
    changed-in (IsCancelledAlong p (g.F.PrimeField.value_of c.args.number) c.args.way.now) p column c.args.at entry written
    (slice_set column c.args.at written) c.trim.new.column.items
    (record {
      within = c.requires.at;
      once = c.requires.column.1.once;
      read = c.index_mut.ensures.value;
      head = refl;
      made = refl;
    })
    c.take_off.ensures.reduced c.in_ok-take_off.ensures.entry (c.trim.ensures p)

pub returns-clause-same_heads : goal.returns-clause-same_heads
returns-clause-same_heads g c =
    let p = g.F.PrimeField.P in
    let column = c.args.column.now.items in
    let entry = c.index_mut.result.now in
    let written : Entry = record { head = entry.head; terms = c.take_off.new.terms } in
    written-heads p column c.args.at entry written (slice_set column c.args.at written) c.trim.new.column.items
    (record {
      within = c.requires.at;
      once = c.requires.column.1.once;
      read = c.index_mut.ensures.value;
      head = refl;
      made = refl;
    })
    (c.trim.ensures p)
