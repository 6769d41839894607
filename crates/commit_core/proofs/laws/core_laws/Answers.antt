use Rattle.commit_core.specs.States.{state_of}
use Rattle.commit_core.proofs.Kept.{dimensions-kept}
use Rattle.commit_core.proofs.laws.core_laws.Goals as goal

pub returns-clause-dimensions : goal.returns-clause-dimensions
returns-clause-dimensions g c =
    let inside = c.core.inside in
    dimensions-kept g.F.PrimeField.P (state_of inside.diagram inside.blocks.items inside.workers.items) c.args.core.now
    c.element_laws.ensures.field c.core.view_is c.diagram_laws.ensures.accepted c.core.invariant.0
