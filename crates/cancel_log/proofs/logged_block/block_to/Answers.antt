use Rattle.std.proofs.Common.{◌∙◌, ap, arith, get_or}
use Rattle.cancel_log.proofs.NamedPivots.{made-more}
use Rattle.cancel_log.proofs.logged_block.block_to.Goals as goal

pub pivots-preserved : goal.pivots-preserved
pivots-preserved g c =
    made-more g.F.PrimeField.P c.args.held.now c.pivots.made c.cancel_at.new.self c.pivots.k c.index-history-k.result c.in_ok-cancel_at.field-0
    c.block_laws.ensures.legal c.pivots.invariant (omega (arith, c.pivots-test.true, c.requires.few))
    (c.index-history-k.is ∙ ap (λ pivots. get_or pivots c.pivots.k c.index-history-k.result) c.history-history.ensures)
    c.in_ok-cancel_at.ensures.taken c.in_ok-cancel_at.ensures.cancelled
