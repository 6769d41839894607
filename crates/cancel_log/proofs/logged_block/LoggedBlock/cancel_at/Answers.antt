use Rattle.std.proofs.Common.{ap, length}
use Rattle.cancel_log.proofs.NamedPivots.{found-legal, found-named, made-kept}
use Rattle.cancel_log.proofs.logged_block.LoggedBlock.cancel_at.Goals as goal

pub returns-then-is_named_next-clause-taken : goal.returns-then-is_named_next-clause-taken
returns-then-is_named_next-clause-taken g c =
    found-legal g.F.PrimeField.P c.self.inside.held c.args.self.now c.self.inside.named c.args.pivot c.block_laws.ensures.legal
    c.self.view_is (c.is_named_next.ensures c.if-is_named_next.true)

pub returns-then-is_named_next-clause-cancelled : goal.returns-then-is_named_next-clause-cancelled
returns-then-is_named_next-clause-cancelled g c = λ taken.
    found-named c.self.inside.held c.args.self.now c.self.inside.named c.args.pivot c.self.view_is
    (c.is_named_next.ensures c.if-is_named_next.true)

pub invariant_of-self-2 : goal.invariant_of-self-2
invariant_of-self-2 g c =
    let inside = c.self.inside in
    made-kept g.F.PrimeField.P inside.cube.now inside.held c.in_ok-made.made c.cancel_at-2.new.self inside.named (length c.history-2.result.now)
    c.args.pivot c.in_ok-taken-2.taken c.self.invariant c.in_ok-made.ensures c.in_ok-taken-2.ensures.cancelled
    c.in_ok-taken-2.ensures.same (ap length c.history-2.ensures)
