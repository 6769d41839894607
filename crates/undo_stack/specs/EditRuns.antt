-- What lines of an edit do to the undo machine.
use Rattle.std.specs.Prelude.{ℕ, ◌+◌, List, [], ◌∷◌, take, Option, None, Some, ok_or, Result, Ok, Err}
use Rattle.kh_types.specs.Code.{Code}
use Rattle.diagram_moves.specs.Moved.{moved}
use Rattle.diagram_moves.specs.declared.fault.MoveFault.{MoveFault}
use Rattle.undo_stack.specs.Histories.{History, changed, opening_history, redone, undone}
use Rattle.undo_stack.specs.declared.edit_line.EditLine.{EditLine}
use Rattle.undo_stack.specs.declared.edit_line.EditLine.TheVariants.{Change, Undo, Redo}
use Rattle.undo_stack.specs.declared.edit_run.EditFault.{EditFault}

-- the history after some lines, the number of those that were done, and why the next was refused, if one was
pub record EditOutcome : Type 0 where
  pub history : History
  pub count : ℕ
  pub fault : Option EditFault

-- the outcome of these three
abbrev pub edit_outcome : History → ℕ → Option EditFault → EditOutcome
edit_outcome history count fault = record { history = history; count = count; fault = fault }

-- the history after a change, or why it is refused
abbrev pub history_after : Result Code MoveFault → History → Result History EditFault
history_after (Ok diagram) history = Ok (changed diagram history)
history_after (Err fault) history = Err (EditFault.Change fault)

-- the history after a line, or why it is refused
abbrev pub after_line : EditLine → History → Result History EditFault
after_line (Change change) history = history_after (moved history.diagram change) history
after_line Undo history = ok_or (undone history) EditFault.NothingToUndo
after_line Redo history = ok_or (redone history) EditFault.NothingToRedo

-- what comes of a line and of those behind it: where it is refused, the history stays, and the lines end
abbrev pub then_edits : (History → EditOutcome) → History → ℕ → Result History EditFault → EditOutcome
then_edits more history count (Ok next) = more next
then_edits more history count (Err fault) = edit_outcome history count (Some fault)

-- what comes of some lines, where a number of lines is done
abbrev pub edited_from : ℕ → List EditLine → History → EditOutcome
edited_from count [] history = edit_outcome history count None
edited_from count (line ∷ more) history = then_edits (edited_from (count + 1) more) history count (after_line line history)

-- what comes of some lines
abbrev pub edited : List EditLine → History → EditOutcome
edited = edited_from 0

-- the diagram after the first lines of an edit, so many of them
abbrev pub diagram_after : List EditLine → Code → ℕ → Code
diagram_after lines code count = (edited (take count lines) (opening_history code)).history.diagram
