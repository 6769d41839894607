use Rattle.tangle_scan.specs.Additions.{origin_in}
use Rattle.tangle_scan.proofs.NewEntries.{along-alive, along-dead}
use Rattle.tangle_scan.proofs.adding.columns.push_along.Goals as goal

pub returns-in-None-clause-entries : goal.returns-in-None-clause-entries
returns-in-None-clause-entries g c = λ targets has.
    let from = c.args.from.now in
    along-dead g.F.PrimeField.P c.args.links.now.adding.now (origin_in from) targets c.args.column.now.items from.side.smoothing
    c.args.old.now.head c.in-None.ensures.none has

pub returns-in-Some-clause-entries : goal.returns-in-Some-clause-entries
returns-in-Some-clause-entries g c = λ targets has.
    let from = c.args.from.now in
    along-alive c.push_over.result g.F.PrimeField.P c.args.links.now.adding.now (origin_in from) targets
    c.push_over.new.column.items from.side.smoothing c.args.old.now.head c.in-Some.head.place
    c.in-Some.ensures.some.successors.alive c.in-Some.ensures.place (c.push_over.ensures.entries targets has)
