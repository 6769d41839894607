use Rattle.std.proofs.Common.{◌∙◌, ap, Ok, refl, arith}
use Rattle.kh_work.proofs.EditLemmas.{IsEditSoFar-line, edit_reply-done, edit_reply-refused}
use Rattle.kh_work.proofs.commands.edit.reply_to_lines.Goals as goal

-- a line is refused
pub returns-then-not-done : goal.returns-then-not-done
returns-then-not-done c =
    let refused = c.in_ok-done.ensures.refused (ap Ok c.if-not-done.true) in
    c.reply_made.ensures
    ∙ edit_reply-refused c.args.diagram.now c.args.script.now c.lines.at c.lines.editor c.lines.text.items c.push_outcome.new.text.items
    _ _ refused.0 c.lines-test.true refl refused.1 refused.2 c.lines.invariant

-- one more line
pub lines-preserved : goal.lines-preserved
lines-preserved c =
    let done = c.in_ok-done.ensures.done (ap Ok c.if-not-done.false) in
    IsEditSoFar-line c.args.diagram.now c.args.script.now c.lines.at c.lines.editor c.push_outcome.new.editor c.lines.text.items
    c.push_outcome.new.text.items _ _ c.lines-test.true refl done.0 done.1 c.lines.invariant

-- all lines are done
pub returns : goal.returns
returns c =
    c.reply_made-2.ensures
    ∙ edit_reply-done c.args.diagram.now c.args.script.now c.lines.at c.lines.editor c.lines.text.items (omega (arith, c.lines-test.false, c.lines.auto.at-end)) c.lines.invariant
