use Rattle.std.proofs.lemmas.Result.{err_from_is_err_and}
use Rattle.undo_stack.proofs.Loops.{IsRead-line, commands_from-wrong}
use Rattle.undo_stack.proofs.reader.commands_of.Goals as goal

-- one more line
pub loop-place-preserved : goal.loop-place-preserved
loop-place-preserved g c =
    rw c.in_ok-push_command.ensures
    (IsRead-line g.T.Command.meaning c.args.text.now c.line_at-line.result.now c.loop-place.place c.loop-place.number
    c.loop-place.commands.items c.in_ok-command.command c.loop-place-test.true c.line_at-line.ensures.line c.in_ok-command.ensures.ok c.loop-place.invariant)

-- a wrong line
pub returns-in_err-command-clause-wrong : goal.returns-in_err-command-clause-wrong
returns-in_err-command-clause-wrong g c =
    let p = err_from_is_err_and c.from_residual.result c.from_residual.ensures.1 in
    rw (p.1, p.2)
    (λ some. commands_from-wrong g.T.Command.meaning c.args.text.now c.line_at-line.result.now c.loop-place.place c.loop-place.number
    c.loop-place.commands.items c.in_err-command.field-0.0 c.loop-place-test.true c.line_at-line.ensures.line
    (c.in_err-command.ensures.wrong some) c.loop-place.invariant)
