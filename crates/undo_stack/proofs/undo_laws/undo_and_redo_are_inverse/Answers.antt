use Rattle.undo_stack.proofs.HistorySteps.{redone-undone, undone-changed, undone-redone}
use Rattle.undo_stack.proofs.undo_laws.undo_and_redo_are_inverse.Goals as goal

pub returns-clause-again : goal.returns-clause-again
returns-clause-again c = redone-undone

pub returns-clause-back : goal.returns-clause-back
returns-clause-back c = undone-redone

pub returns-clause-before : goal.returns-clause-before
returns-clause-before c = undone-changed
