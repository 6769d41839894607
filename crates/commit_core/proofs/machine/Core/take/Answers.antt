use Rattle.kh_types.specs.declared.limits.TheConstants.{WORKERS}
use Rattle.commit_core.specs.States.{state_of}
use Rattle.commit_core.proofs.Steps.{sound-put, sound-taken}
use Rattle.commit_core.proofs.machine.Core.take.Goals as goal

pub invariant_of-self : goal.invariant_of-self
invariant_of-self g c =
    let inside = c.self.inside in
    sound-put g.F.PrimeField.P WORKERS (state_of inside.diagram inside.blocks.items inside.workers.items) c.args.self.now c.args.worker
    c.take.new.self c.self.invariant c.self.view_is (sound-taken g.F.PrimeField.P c.args.self.now c.take.new.self c.take.ensures.after)
