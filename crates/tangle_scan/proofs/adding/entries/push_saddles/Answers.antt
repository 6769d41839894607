use Rattle.tangle_scan.specs.Additions.{origin_in}
use Rattle.tangle_scan.proofs.NewEntries.{saddles-one, saddles-zero}
use Rattle.tangle_scan.proofs.adding.entries.push_saddles.Goals as goal

pub returns-then-from-eq0-clause-entries : goal.returns-then-from-eq0-clause-entries
returns-then-from-eq0-clause-entries g c = λ targets has.
    saddles-zero c.push_all_saddles.result g.F.PrimeField.P c.args.links.now.adding.now (origin_in c.args.from.now) targets
    c.push_all_saddles.new.column.items c.args.parent.now.place c.if-from-eq0.true c.requires.same
    (c.push_all_saddles.ensures.entries targets has)

pub returns-else-from-eq0-clause-entries : goal.returns-else-from-eq0-clause-entries
returns-else-from-eq0-clause-entries g c = λ targets has.
    saddles-one g.F.PrimeField.P c.args.links.now.adding.now (origin_in c.args.from.now) targets c.args.column.now.items
    c.if-from-eq0.false has
