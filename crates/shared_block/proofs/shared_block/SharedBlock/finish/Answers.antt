use Rattle.shared_block.proofs.CommitLemmas.{turn-later, turn-smaller}
use Rattle.shared_block.proofs.shared_block.SharedBlock.finish.Goals as goal

pub turns-smaller : goal.turns-smaller
turns-smaller g c =
    turn-smaller g.F.PrimeField.P c.turns.self c.cancel.new.self c.in-Some.found.pivot c.element_laws.ensures.field
    c.block_laws-in-Some.ensures.code c.block_laws-in-Some.ensures.legal c.in-Some.ensures.pivot c.in_ok-cancel.ensures.ok

pub turns-preserved : goal.turns-preserved
turns-preserved g c =
    turn-later c.args.self.now c.turns.self c.cancel.new.self c.in-Some.found.pivot c.turns.invariant c.in_ok-cancel.ensures.ok
