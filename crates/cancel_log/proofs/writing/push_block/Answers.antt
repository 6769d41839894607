use Rattle.std.proofs.Common.{◌++◌, ◌∙◌, List, ℕ, ap, arith, length}
use Rattle.cancel_log.proofs.WrittenLogs.{block_to-all}
use Rattle.cancel_log.proofs.writing.push_block.Goals as goal

pub returns : goal.returns
returns g c =
    c.pivots.invariant
    ∙ ap (λ (xs : List ℕ). c.args.text.now.items ++ xs)
    (block_to-all c.args.held.now c.pivots.k (omega (arith, c.pivots-test.false, ap length c.history-history.ensures)))
