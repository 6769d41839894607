use Rattle.std.proofs.Common.{refl, subst}
use Rattle.crossing_maps.specs.NewTerms.{AreAddedTerms}
use Rattle.crossing_maps.specs.declared.seams.Labels.{Labels}
use Rattle.scan_laws.specs.Scans.{pairs_of}
use Rattle.tangle_scan.specs.declared.complex.Entry.{Entry}
use Rattle.tangle_scan.specs.Additions.{code_in, done_in, origin_in, scan_in}
use Rattle.tangle_scan.proofs.NewEntries.{entry-added, entry-on-ok}
use Rattle.tangle_scan.proofs.adding.entries.push_added.Goals as goal

pub returns-clause-entries : goal.returns-clause-entries
returns-clause-entries g c = λ targets has.
    let p = g.F.PrimeField.P in
    let adding = c.args.links.now.adding.now in
    let from = c.args.arrow.now.from.now in
    let to = c.args.to.now in
    let bridge = c.requires.bridge in
    let entry : Entry = record { head = to.place; terms = c.in_ok-terms.terms } in
    let m = pairs_of (scan_in adding) from.parent in
    let n = pairs_of (scan_in adding) to.parent in
    entry-on-ok c.push_entry.result p adding (origin_in from) (origin_in to) targets c.args.column.now.items c.push_entry.new.column.items
    entry has
    (entry-added p adding (origin_in from) (origin_in to) m n c.args.arrow.now.terms.now entry refl refl c.requires.terms
    c.requires.smoothing c.requires.to.stands c.in_ok-terms.ensures.reduced
    (subst
    (λ (l : Labels).
    AreAddedTerms p (code_in adding) (done_in adding) from.side.smoothing m n l.before l.behind c.args.arrow.now.terms.now
    entry.terms.items)
    c.labels_between-labels.ensures
    (c.in_ok-terms.ensures.terms (code_in adding) (done_in adding) from.side.smoothing m n bridge.pairs bridge.added)))
    c.push_entry.ensures
