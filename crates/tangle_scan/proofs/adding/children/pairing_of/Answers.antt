use Rattle.std.proofs.Common.{sym}
use Rattle.tangle_scan.proofs.NewObjects.{child-pairs}
use Rattle.tangle_scan.proofs.adding.children.pairing_of.Goals as goal

pub returns-clause-pairs : goal.returns-clause-pairs
returns-clause-pairs c =
    child-pairs c.args.links.now.adding.now c.args.parent.now.place c.index.result.now c.requires.links.1.ready c.requires.parent.within
    (sym c.index.ensures)
