use Rattle.std.proofs.Common.{arith, sym, ◌∙◌}
use Rattle.pd_code.proofs.MachineReads.{symbols_of-done, LeavesAt-end, LeavesAt-refusal, LeadsTo-more}
use Rattle.pd_code.proofs.machine.items_of.Goals as goal

-- the symbol of a token is refused
pub returns-in_default-clause-fault : goal.returns-in_default-clause-fault
returns-in_default-clause-fault c = λ some.
    LeavesAt-refusal c.loop-token.state c.loop-token.items.items c.args.text.now c.args.tokens.now c.loop-token.token-index _ c.symbol_of.result (omega arith)
    c.loop-token.invariant.ran c.symbol_of.ensures (sym c.next_state.ensures ∙ c.in_default.is)

-- or taken
pub loop-token-preserved : goal.loop-token-preserved
loop-token-preserved c = record {
  ran = rw c.in_ok-push_ended.ensures.ok
      (LeadsTo-more c.loop-token.state c.in-Some.next c.loop-token.items.items c.args.text.now c.args.tokens.now c.loop-token.token-index _ c.symbol_of.result (omega arith)
      c.loop-token.invariant.ran c.symbol_of.ensures (sym c.next_state.ensures ∙ c.in-Some.is));
  few = omega (arith, c.in_ok-push_ended.ensures.more);
}

-- all are taken
pub returns-in_default-state : goal.returns-in_default-state
returns-in_default-state c = record {
  pd_spelled = tt;
  fault = λ some. LeavesAt-end c.loop-token.state c.loop-token.items.items c.args.text.now c.args.tokens.now c.loop-token.token-index (omega arith) c.loop-token.invariant.ran c.in_default-state.not-Done;
  few = tt;
}

pub returns-in-Done-clause-pd_spelled : goal.returns-in-Done-clause-pd_spelled
returns-in-Done-clause-pd_spelled c =
    symbols_of-done c.loop-token.items.items c.args.text.now c.args.tokens.now c.loop-token.token-index (omega arith)
    (rw c.in-Done.is at c.loop-token.invariant.ran)
