-- The list of least arcs is that of the code.
use Rattle.orient_arcs.proofs.FirstArcs.{first_is_arc}
use Rattle.orient_arcs.proofs.numbered.Components.first.Goals as goal

pub returns-clause-within : goal.returns-clause-within
returns-clause-within c =
    rw (c.deref.ensures.0, c.first_arcs.ensures.firsts, c.from.ensures)
    (first_is_arc c.args.self.now.crossings c.args.component c.requires)
