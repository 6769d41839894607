-- The place is the component's number, which is below the count in an accepted code.
use Rattle.orient_arcs.proofs.FirstArcs.{number_within}
use Rattle.orient_arcs.proofs.numbered.Components.of_arc.Goals as goal

pub returns-clause-within : goal.returns-clause-within
returns-clause-within c =
    rw (c.place_of.ensures.place, c.least_of.ensures, c.deref.ensures.0, c.first_arcs.ensures.firsts)
    (number_within c.args.self.now c.args.arc c.first_arcs.ensures.accepted c.requires)
