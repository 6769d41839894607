use Rattle.std.proofs.Common.{refl}
use Rattle.cancel_log.proofs.WholeLogs.{behind-ok, behind-table, table-behind}
use Rattle.cancel_log.proofs.reading.table_over.Goals as goal

pub returns-in-Some : goal.returns-in-Some
returns-in-Some g c = λ told.
    let homology = c.whole_table-homology.result in
    behind-table g.F.PrimeField.P c.args.diagram.now c.args.lines.now.rest c.replayed_rows.new.lines c.next.new.self homology
    c.in-Some.number c.in-Some.number (c.in_ok-check_size.ensures.within.0 refl) c.in_ok-rows.ensures.proved
    c.whole_table-homology.ensures
    (table-behind homology c.in_ok-text.text.items c.deref.result.now c.of-wanted.result c.next.new.self c.next.result
    c.in_ok-text.ensures c.deref.ensures.value c.of-wanted.ensures c.next.ensures.some c.next.ensures.none)
    c.in-Some.ensures.some refl

pub returns-in-None : goal.returns-in-None
returns-in-None g c = λ told.
    let homology = c.whole_table-homology.result in
    behind-ok g.F.PrimeField.P c.args.diagram.now c.args.lines.now.rest c.replayed_rows.new.lines c.next.new.self homology
    (c.in_ok-check_size.ensures.within.0 refl) c.in_ok-rows.ensures.proved c.whole_table-homology.ensures
    (table-behind homology c.in_ok-text.text.items c.deref.result.now c.of-wanted.result c.next.new.self c.next.result
    c.in_ok-text.ensures c.deref.ensures.value c.of-wanted.ensures c.next.ensures.some c.next.ensures.none)
    (c.first_difference.ensures.none c.in-None.is)
