use Rattle.std.proofs.Common.{◌∙◌, List, map, arith, subst, sym}
use Rattle.std.specs.List.{flat_map}
use Rattle.tangle_scan.specs.declared.complex.Entry.{Entry}
use Rattle.tangle_scan.specs.Additions.{HasEntriesTo, IsColumnFrom, head_of, origin_in, targets_along}
use Rattle.tangle_scan.specs.Held.{column_at}
use Rattle.tangle_scan.proofs.MoreColumns.{column-read}
use Rattle.tangle_scan.proofs.adding.columns.column_from.Goals as goal

pub push_all-requires-clause-entries : goal.push_all-requires-clause-entries
push_all-requires-clause-entries g c =
    c.deref.ensures.value
    ∙ column-read g.F.PrimeField.P c.args.links.now.adding.now c.args.child.now.parent c.index-entries.result.now c.requires.links.complex
    (omega (arith, c.requires.parent.within, c.requires.same)) c.index-entries.ensures

pub returns-clause-column : goal.returns-clause-column
returns-clause-column g c =
    let p = g.F.PrimeField.P in
    let adding = c.args.links.now.adding.now in
    let child = c.args.child.now in
    let f = targets_along adding child.side.smoothing in
    subst (IsColumnFrom p adding (origin_in child)) (sym c.trim.ensures)
    (c.in_ok-push_saddles.ensures.entries (flat_map f (map head_of (column_at adding.complex.now child.parent)))
    (subst (λ (xs : List Entry). HasEntriesTo p adding (origin_in child) (flat_map f (map head_of xs)) c.push_all.new.column.items)
    (c.deref.ensures.value
    ∙ column-read p adding child.parent c.index-entries.result.now c.requires.links.complex
    (omega (arith, c.requires.parent.within, c.requires.same)) c.index-entries.ensures)
    c.in_ok-push_all.ensures.entries))
