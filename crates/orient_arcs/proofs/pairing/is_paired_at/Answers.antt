use Rattle.std.proofs.Common.{ap₂}
use Rattle.std.specs.Prelude.{◌&&◌}
use Rattle.orient_arcs.proofs.pairing.is_paired_at.Goals as goal

pub returns : goal.returns
returns c =
    rw (← c.pass.view_is)
    (ap₂ (λ a b. a && b) c.is_paired_in.ensures c.is_paired_in-2.ensures)
