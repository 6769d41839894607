-- The reply of the command `schedule` to a diagram and a script: what the core answers to each line, and then the text of
-- `homology`.
use Rattle.std.specs.Prelude.{◌≡◌, ℕ, List, ◌++◌, codes, map, nat_lt, if◌then◌else◌, Result, Ok, Err}
use Rattle.std.specs.Fmt.{decimal}
use Rattle.std.specs.List.{flat_map, zip}
use Rattle.kh_types.specs.Code.{Code}
use Rattle.circle_smoothing.specs.GeneratorCounts.{generator_count}
use Rattle.circle_smoothing.specs.declared.limits.TheConstants.{GENERATORS}
use Rattle.kh_types.specs.declared.limits.TheConstants.{WORKERS}
use Rattle.undo_stack.specs.Schedule.{IsSchedule}
use Rattle.undo_stack.specs.declared.limits.TheConstants.{SCRIPT_LINES}
use Rattle.undo_stack.specs.declared.schedule.ScheduleLine.{ScheduleLine}
use Rattle.undo_stack.specs.declared.schedule.ScheduleLine.TheVariants as lines
use Rattle.undo_stack.specs.declared.stop.ScriptStop.{ScriptStop}
use Rattle.undo_stack.specs.declared.stop.ScriptStop.TheVariants as stops
use Rattle.commit_core.specs.Answering.{answers}
use Rattle.commit_core.specs.declared.event.Event.{Event}
use Rattle.commit_core.specs.declared.event.Event.TheVariants as events
use Rattle.commit_core.specs.declared.answer.Answer.{Answer}
use Rattle.commit_core.specs.declared.answer.Answer.TheVariants.{Looked, Zero, Committed, Stale, Idle, Forgot, NoBlock}
use Rattle.kh_runs.specs.declared.status.Status.TheVariants.{Done}
use Rattle.kh_runs.specs.Replies.{Reply, reply_of}
use Rattle.kh_runs.specs.Refusals.{refused_line, too_many_lines}
use Rattle.kh_replies.specs.Limits.{too_many_generators}
use Rattle.kh_runs.specs.Homology.{homology_text}

-- what a line lets its worker do; a look has the hint 0
abbrev pub event_of : ScheduleLine → Event
event_of (lines.Look worker block) = events.Look worker block 0
event_of (lines.Commit worker) = events.Commit worker
event_of (lines.Forget worker) = events.Forget worker

-- the same for the lines of a script, each with its number
abbrev pub events_of : List (ℕ × ScheduleLine) → List Event
events_of script = map (λ line. event_of line.1) script

-- the words of an answer
abbrev pub answer_text : Answer → List ℕ
answer_text (Looked version) = codes "looked " ++ decimal version
answer_text Zero = codes "zero"
answer_text (Committed version) = codes "committed " ++ decimal version
answer_text (Stale looked now) = codes "stale " ++ (decimal looked ++ (codes " " ++ decimal now))
answer_text Idle = codes "idle"
answer_text Forgot = codes "forgot"
answer_text NoBlock = codes "noblock"

-- the line of an answer with its number: the number, a space and the words
abbrev pub answer_line : ℕ × Answer → List ℕ
answer_line (number, answer) = decimal number ++ (codes " " ++ (answer_text answer ++ codes "\n"))

-- each answer with the number of the line of a script that it is to
abbrev pub numbered_answers : List (ℕ × ScheduleLine) → List Answer → List (ℕ × Answer)
numbered_answers script answers = map (λ pair. (pair.0.0, pair.1)) (zip script answers)

-- the lines of these
abbrev pub answer_lines : List (ℕ × ScheduleLine) → List Answer → List ℕ
answer_lines script answers = flat_map answer_line (numbered_answers script answers)

-- the lines of what the core answers over a field, whose workers are as many as there may be, and behind them the text of `homology`
unfoldable pub schedule_text : ℕ → Code → List (ℕ × ScheduleLine) → List ℕ
schedule_text field code script =
    answer_lines script (answers field code WORKERS (events_of script)) ++ homology_text field code

-- this text, where the cube has few enough generators
abbrev pub schedule_reply : ℕ → Code → List (ℕ × ScheduleLine) → Reply
schedule_reply field code script =
    if nat_lt GENERATORS (generator_count code) then too_many_generators (generator_count code)
    else reply_of Done (schedule_text field code script)

-- the reply to what the script was read as
abbrev pub IsScriptReply : ℕ → Code → Result (List (ℕ × ScheduleLine)) ScriptStop → Reply → Type 0
IsScriptReply field code (Ok script) reply = reply ≡ schedule_reply field code script
IsScriptReply field code (Err (stops.LineLimit count)) reply = reply ≡ too_many_lines count SCRIPT_LINES
IsScriptReply field code (Err (stops.Line line)) reply = reply ≡ refused_line line
IsScriptReply field code (Err stops.NoMemory) reply = ⊥

-- the text of a script is read as a schedule, and that is answered
pub record IsScheduleReply (field : ℕ) (code : Code) (text : List ℕ) (reply : Reply) : Type 0 where
  pub reading : Result (List (ℕ × ScheduleLine)) ScriptStop
  pub read : IsSchedule text reading
  pub answered : IsScriptReply field code reading reply
