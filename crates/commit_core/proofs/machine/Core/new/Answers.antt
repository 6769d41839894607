use Rattle.kh_types.specs.declared.limits.TheConstants.{WORKERS}
use Rattle.commit_core.proofs.Steps.{sound-made}
use Rattle.commit_core.proofs.machine.Core.new.Goals as goal

pub invariant_of-result : goal.invariant_of-result
invariant_of-result g c =
    sound-made g.F.PrimeField.P WORKERS c.args.diagram.now c.in_ok-blocks.blocks.items c.in_ok-workers.workers.items c.args.workers
    c.in_ok-blocks.ensures c.in_ok-workers.ensures c.requires.workers.1
