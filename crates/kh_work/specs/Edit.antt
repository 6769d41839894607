-- The reply of the command `edit` to a diagram and a script: the diagram after each line that is done, and the reason where a line is
-- refused.
use Rattle.std.specs.Prelude.{◌≡◌, ℕ, ◌+◌, List, [], ◌++◌, codes, get_or, map, Option, None, Some, Result, Ok, Err}
use Rattle.std.specs.Fmt.{decimal}
use Rattle.std.specs.List.{flat_map, range_with_len}
use Rattle.kh_types.specs.Code.{Code}
use Rattle.kh_types.specs.declared.limits.TheConstants.{CROSSINGS}
use Rattle.pd_code.specs.Printing.{pd_text}
use Rattle.diagram_moves.specs.declared.fault.MoveFault.{MoveFault}
use Rattle.diagram_moves.specs.declared.fault.MoveFault.TheVariants as moves
use Rattle.undo_stack.specs.EditScript.{IsEdit}
use Rattle.undo_stack.specs.EditRuns.{EditOutcome, diagram_after, edited}
use Rattle.undo_stack.specs.Histories.{opening_history}
use Rattle.undo_stack.specs.declared.edit_line.EditLine.{EditLine}
use Rattle.undo_stack.specs.declared.edit_run.EditFault.{EditFault}
use Rattle.undo_stack.specs.declared.edit_run.EditFault.TheVariants.{Change, NothingToRedo, NothingToUndo}
use Rattle.undo_stack.specs.declared.limits.TheConstants.{SCRIPT_LINES}
use Rattle.undo_stack.specs.declared.stop.ScriptStop.{ScriptStop}
use Rattle.undo_stack.specs.declared.stop.ScriptStop.TheVariants as stops
use Rattle.kh_runs.specs.declared.status.Status.{Status}
use Rattle.kh_runs.specs.declared.status.Status.TheVariants.{Done, MoveRefused}
use Rattle.kh_runs.specs.Replies.{Reply, reply_of}
use Rattle.kh_runs.specs.Refusals.{refused_line, too_many_lines}

-- why a move is not made, in words
abbrev pub move_refusal : MoveFault → List ℕ
move_refusal (moves.NoArc arc) = codes "no arc " ++ decimal arc
move_refusal (moves.NoCrossing crossing) = codes "no crossing " ++ decimal crossing
move_refusal (moves.CrossingLimit count) = codes "crossings " ++ (decimal count ++ (codes " of " ++ decimal CROSSINGS))
move_refusal (moves.OnLoop arc) = codes "loop " ++ decimal arc
move_refusal (moves.SameArc arc) = codes "same arc " ++ decimal arc
move_refusal (moves.NoKink crossing) = codes "no kink at " ++ decimal crossing
move_refusal (moves.NoBigon first second) = codes "no bigon at " ++ (decimal first ++ (codes " " ++ decimal second))
move_refusal (moves.NoTriangle first second third) =
    codes "no triangle at " ++ (decimal first ++ (codes " " ++ (decimal second ++ (codes " " ++ decimal third))))
move_refusal moves.Heights = codes "heights"
move_refusal (moves.Genus faces wanted) = codes "genus faces " ++ (decimal faces ++ (codes " wanted " ++ decimal wanted))

-- why a line of an edit is refused, in words
abbrev pub edit_refusal : EditFault → List ℕ
edit_refusal (Change fault) = move_refusal fault
edit_refusal NothingToUndo = codes "nothing to undo"
edit_refusal NothingToRedo = codes "nothing to redo"

-- the lines of a script without their numbers
abbrev pub edits_in : List (ℕ × EditLine) → List EditLine
edits_in script = map (λ line. line.1) script

-- the number of the line of a script at a place
abbrev pub line_number_at : List (ℕ × EditLine) → ℕ → ℕ
line_number_at script place = get_or (map (λ line. line.0) script) place 0

-- a number, a space, words and a line feed
abbrev pub numbered_line : ℕ → List ℕ → List ℕ
numbered_line number words = decimal number ++ (codes " " ++ (words ++ codes "\n"))

-- the line of a diagram with a number: its planar diagram text
abbrev pub diagram_line : ℕ → Code → List ℕ
diagram_line number code = numbered_line number (pd_text code)

-- the line with a number that is refused
abbrev pub refusal_line : ℕ → EditFault → List ℕ
refusal_line number fault = numbered_line number (codes "refused " ++ edit_refusal fault)

-- for the lines of a script before a place: the number of each, and the diagram after it
abbrev pub diagram_lines : Code → List (ℕ × EditLine) → ℕ → List ℕ
diagram_lines code script count =
    flat_map (λ place. diagram_line (line_number_at script place) (diagram_after (edits_in script) code (place + 1)))
    (range_with_len 0 count)

-- the line that is refused, if one is, with a number
abbrev pub refusal_lines : ℕ → Option EditFault → List ℕ
refusal_lines number None = []
refusal_lines number (Some fault) = refusal_line number fault

-- the status where a line is refused, and where none is
abbrev pub edit_status : Option EditFault → Status
edit_status None = Done
edit_status (Some fault) = MoveRefused

-- the reply with an outcome of a script: the diagrams after the lines that are done, and the line behind them, where it is refused
abbrev pub outcome_reply : Code → List (ℕ × EditLine) → EditOutcome → Reply
outcome_reply code script outcome =
    reply_of (edit_status outcome.fault)
    (diagram_lines code script outcome.count ++ refusal_lines (line_number_at script outcome.count) outcome.fault)

-- the reply to a script: that with what comes of its lines
unfoldable pub edit_reply : Code → List (ℕ × EditLine) → Reply
edit_reply code script = outcome_reply code script (edited (edits_in script) (opening_history code))

-- the reply to what the script was read as
abbrev pub IsEditedReply : Code → Result (List (ℕ × EditLine)) ScriptStop → Reply → Type 0
IsEditedReply code (Ok script) reply = reply ≡ edit_reply code script
IsEditedReply code (Err (stops.LineLimit count)) reply = reply ≡ too_many_lines count SCRIPT_LINES
IsEditedReply code (Err (stops.Line line)) reply = reply ≡ refused_line line
IsEditedReply code (Err stops.NoMemory) reply = ⊥

-- the text of a script is read as an edit, and that is answered
pub record IsEditReply (code : Code) (text : List ℕ) (reply : Reply) : Type 0 where
  pub reading : Result (List (ℕ × EditLine)) ScriptStop
  pub read : IsEdit text reading
  pub answered : IsEditedReply code reading reply
