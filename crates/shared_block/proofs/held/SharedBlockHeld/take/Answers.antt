use Rattle.std.proofs.Common.{ap}
use Rattle.shared_block.specs.BlockHistories.{BlockHistory}
use Rattle.shared_block.proofs.held.SharedBlockHeld.take.Goals as goal

pub returns-clause-history : goal.returns-clause-history
returns-clause-history g c =
    ap (λ (held : BlockHistory). held.history) c.take_fitting.ensures
