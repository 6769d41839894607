use Rattle.std.proofs.Common.{refl, sym, ap, subst}
use Rattle.crossing_maps.specs.NewTerms.{AreSaddleTerms}
use Rattle.crossing_maps.specs.declared.seams.Labels.{Labels}
use Rattle.scan_laws.specs.Scans as scans
use Rattle.scan_laws.specs.Scans.{pairs_of}
use Rattle.tangle_scan.specs.declared.complex.Entry.{Entry}
use Rattle.tangle_scan.specs.Additions.{code_in, done_in, origin_in, scan_in}
use Rattle.tangle_scan.proofs.NewEntries.{entry-on-ok, entry-saddled}
use Rattle.tangle_scan.proofs.NewObjects.{scan-object}
use Rattle.tangle_scan.proofs.adding.entries.push_saddle.Goals as goal

pub returns-clause-entries : goal.returns-clause-entries
returns-clause-entries g c = λ targets has.
    let p = g.F.PrimeField.P in
    let adding = c.args.links.now.adding.now in
    let from = c.args.from.now in
    let to = c.args.to.now in
    let bridge = c.requires.bridge in
    let old = c.index.result.now in
    let entry : Entry = record { head = to.place; terms = c.in_ok-terms.terms } in
    let m = pairs_of (scan_in adding) from.parent in
    let sign = g.F.PrimeField.value_of c.sign_of-sign.result in
    entry-on-ok c.push_entry.result p adding (origin_in from) (origin_in to) targets c.args.column.now.items c.push_entry.new.column.items
    entry has
    (entry-saddled p adding (origin_in from) (origin_in to) m sign old.degree entry refl c.requires.parent c.requires.before
    c.requires.behind c.sign_of-sign.ensures
    (sym (ap (λ (o : scans.Object). o.degree) (scan-object adding from.parent old c.requires.within (sym c.index.ensures))))
    c.requires.to.stands c.in_ok-terms.ensures.reduced
    (subst (λ (l : Labels). AreSaddleTerms p sign (code_in adding) (done_in adding) m l.before l.behind entry.terms.items)
    c.labels_between-labels.ensures
    (c.in_ok-terms.ensures.terms (code_in adding) (done_in adding) m bridge.pairs bridge.saddle)))
    c.push_entry.ensures
