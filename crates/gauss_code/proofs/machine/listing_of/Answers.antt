use Rattle.std.proofs.Common.{ap, arith, refl, sym, ◌∙◌}
use Rattle.gauss_code.specs.declared.machine.State.TheVariants.{BodyEnd, Done}
use Rattle.gauss_code.specs.Machine.{GaussProgress, gauss_progress}
use Rattle.gauss_code.proofs.MachineReads.{LeavesAt-end, LeavesAt-refusal, LeadsTo-more, symbols_of-end}
use Rattle.gauss_code.proofs.machine.listing_of.Goals as goal

-- the symbol of a token is refused
pub returns-in_default-clause-fault : goal.returns-in_default-clause-fault
returns-in_default-clause-fault c = λ some.
    LeavesAt-refusal c.loop-token.progress _ c.args.text.now c.args.tokens.now c.loop-token.token-index _ c.symbol_of-symbol.result (omega arith)
    c.loop-token.invariant (ap (λ (p : GaussProgress). p.state) (sym c.progress.view_is)) c.symbol_of-symbol.ensures (sym c.next_state.ensures ∙ c.in_default.is)

-- or taken
pub loop-token-preserved : goal.loop-token-preserved
loop-token-preserved c =
    rw c.in_ok-enter.ensures
    (LeadsTo-more c.loop-token.progress _ c.in-Some.next c.args.text.now c.args.tokens.now c.loop-token.token-index _ c.symbol_of-symbol.result (omega arith)
    c.loop-token.invariant (ap (λ (p : GaussProgress). p.state) (sym c.progress.view_is)) c.symbol_of-symbol.ensures (sym c.next_state.ensures ∙ c.in-Some.is))

-- all are taken, and the body has ended
pub returns-in-BodyEnd-clause-gauss_spelled : goal.returns-in-BodyEnd-clause-gauss_spelled
returns-in-BodyEnd-clause-gauss_spelled c =
    let inside = c.progress-2.inside in
    symbols_of-end c.loop-token.progress (gauss_progress BodyEnd inside.body inside.numbers.items) c.args.text.now c.args.tokens.now c.loop-token.token-index (omega arith)
    c.loop-token.invariant (ap (λ state. gauss_progress state inside.body inside.numbers.items) (sym c.in-BodyEnd.is) ∙ c.progress-2.view_is) refl

-- or the signs
pub returns-in-Done-clause-gauss_spelled : goal.returns-in-Done-clause-gauss_spelled
returns-in-Done-clause-gauss_spelled c =
    let inside = c.progress-2.inside in
    symbols_of-end c.loop-token.progress (gauss_progress Done inside.body inside.numbers.items) c.args.text.now c.args.tokens.now c.loop-token.token-index (omega arith)
    c.loop-token.invariant (ap (λ state. gauss_progress state inside.body inside.numbers.items) (sym c.in-Done.is) ∙ c.progress-2.view_is) refl

-- or neither
pub returns-in_default-state-clause-fault : goal.returns-in_default-state-clause-fault
returns-in_default-state-clause-fault c = λ some.
    LeavesAt-end c.loop-token.progress _ c.args.text.now c.args.tokens.now c.loop-token.token-index (omega arith)
    c.loop-token.invariant (ap (λ (p : GaussProgress). p.state) (sym c.progress-2.view_is)) c.in_default-state.not-BodyEnd c.in_default-state.not-Done
