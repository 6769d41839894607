use Rattle.std.proofs.Common.{ap, length}
use Rattle.cancel_log.proofs.NamedPivots.{zero-unnamed}
use Rattle.cancel_log.proofs.logged_block.LoggedBlock.is_zero.Goals as goal

pub returns-else-self-history : goal.returns-else-self-history
returns-else-self-history g c =
    let inside = c.self.inside in
    zero-unnamed g.F.PrimeField.P inside.cube.now inside.held c.args.self.now inside.named (length c.history.result.now)
    c.element_laws.ensures.field c.block_laws.ensures.code c.block_laws.ensures.legal c.self.invariant (ap length c.history.ensures)
    c.if-self-history.false c.self.view_is
