-- What the text of a schedule reads as, and what is computed of it, are the same.
use Rattle.std.proofs.Common.{◌≡◌, ◌≢◌, ◌↔◌, ℕ, List, [], ◌∷◌, Result, Ok, Err, IfOk, sym, ◌∙◌, subst}
use Rattle.std.proofs.lemmas.List.Elements.{All-cons, All-nil}
use Rattle.std.specs.List.{All, AllZip}
use Rattle.undo_stack.specs.declared.schedule.ScheduleLine.{ScheduleLine}
use Rattle.undo_stack.specs.declared.schedule.ScheduleLine.TheVariants.{Look, Commit, Forget}
use Rattle.undo_stack.specs.declared.stop.ScriptStop.{ScriptStop}
use Rattle.undo_stack.specs.declared.stop.ScriptStop.TheVariants.{NoMemory}
use Rattle.undo_stack.specs.Reading.{IsNumbered, worded_lines}
use Rattle.undo_stack.specs.Schedule.{HasWorker, IsSchedule, SpellsLine}
use Rattle.undo_stack.specs.ScheduleSteps.{schedule_line_of, schedule_of}
use Rattle.undo_stack.proofs.Readings.{IsMeaning, IsScriptReading-script_reading, script_reading-IsScriptReading}
use Rattle.undo_stack.proofs.ScheduleLines.{schedule_line_of-means}

IsMeaning-schedule_line_of : IsMeaning SpellsLine schedule_line_of
IsMeaning-schedule_line_of = record { means = schedule_line_of-means }

-- a text reads as what is computed of it
pub IsSchedule-schedule_of : (text : List ℕ) → IsSchedule text (schedule_of text)
IsSchedule-schedule_of text = IsScriptReading-script_reading SpellsLine schedule_line_of IsMeaning-schedule_line_of text

-- and as nothing else
pub schedule_of-reads : (text : List ℕ) (r : Result (List (ℕ × ScheduleLine)) ScriptStop) → (schedule_of text ≡ r) ↔ IsSchedule text r
schedule_of-reads text r = (
  λ same. subst (IsSchedule text) same (IsSchedule-schedule_of text),
  script_reading-IsScriptReading SpellsLine schedule_line_of IsMeaning-schedule_line_of text r,
)

pub IsSchedule-one : (text : List ℕ) (a b : Result (List (ℕ × ScheduleLine)) ScriptStop) → IsSchedule text a → IsSchedule text b → a ≡ b
IsSchedule-one text a b first second = sym ((schedule_of-reads text a).1 first) ∙ (schedule_of-reads text b).1 second

-- the worker of a line that words spell
HasWorker-spelled : (number : ℕ) (line : ScheduleLine) (words : List (List ℕ)) → SpellsLine words line → HasWorker (number, line)
HasWorker-spelled number (Look worker block) words (first, second, are, named, block_named) = (named.from_one, named.within)
HasWorker-spelled number (Commit worker) words (first, are, named) = (named.from_one, named.within)
HasWorker-spelled number (Forget worker) words (first, are, named) = (named.from_one, named.within)

All-HasWorker : (lines : List (ℕ × List ℕ)) (commands : List (ℕ × ScheduleLine)) → AllZip (IsNumbered SpellsLine) lines commands
    → All HasWorker commands
All-HasWorker [] [] each = All-nil HasWorker
All-HasWorker [] (command ∷ commands) each = absurd each
All-HasWorker (line ∷ lines) [] each = absurd each
All-HasWorker (line ∷ lines) (command ∷ commands) each =
    All-cons HasWorker command commands (HasWorker-spelled command.0 command.1 each.0.1.words each.0.1.spelled)
    (All-HasWorker lines commands each.1)

-- the lines of a schedule that is read have workers
pub IfOk-workers : (text : List ℕ) (r : Result (List (ℕ × ScheduleLine)) ScriptStop) → (r ≢ Err NoMemory → IsSchedule text r)
    → IfOk r (λ lines. All HasWorker lines)
IfOk-workers text (Ok commands) reads = let read = reads (λ same. cc) in All-HasWorker (worded_lines read.lines) commands read.each
IfOk-workers text (Err stop) reads = tt
