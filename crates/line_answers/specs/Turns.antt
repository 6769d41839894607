-- One turn of a list: a line is taken, and then answered.
use Rattle.std.specs.Prelude.{◌≡◌, ◌≢◌, ◌⊎◌, ℕ, Bool, List, [], codes, Result, Ok, Err}
use Rattle.kh_io.specs.Faults.{Rose}
use Rattle.line_reader.specs.Advances.{IsLineTaken, IsSpent, IsStopped}
use Rattle.line_reader.specs.Lines.{Kept}
use Rattle.line_reader.specs.declared.reading.LineStop.{LineStop}
use Rattle.line_reader.specs.declared.reading.LineStop.TheVariants as lines
use Rattle.kh_runs.specs.Replies.{Reply}
use Rattle.kh_runs.specs.Told.{Seen}
use Rattle.line_answers.specs.declared.frame.FrameStop.{FrameStop}
use Rattle.line_answers.specs.declared.frame.FrameStop.TheVariants as frames
use Rattle.line_answers.specs.declared.list.Turn.{Turn}
use Rattle.line_answers.specs.declared.list.Turn.TheVariants.{Ended, Last}
use Rattle.line_answers.specs.declared.stop.ListStop.{ListStop}
use Rattle.line_answers.specs.Answered.{AreAllAnswered, ArePartlyAnswered}
use Rattle.line_answers.specs.ListRuns.{frame_stop, line_stop}
use Rattle.line_answers.specs.Questions.{asked_by, numbered_line}

-- the line of this number was taken through a buffer, with this behind it, and all that it asks over these fields was answered
pub record IsLineAnswered (Answers : ℕ → List ℕ → Reply → Type 0) (fields : List ℕ) (number : ℕ) (before after : List ℕ)
    (source_before source_after sink_before sink_after : Seen) (behind : List ℕ) (whole : Bool) : Type 0 where
  pub found : Kept
  pub taken : IsLineTaken before after source_before.bytes source_after.bytes behind found
  pub answered : AreAllAnswered Answers (asked_by fields (numbered_line number taken.line)) sink_before.bytes sink_after.bytes whole
  pub source_stayed : source_after.faults ≡ source_before.faults
  pub sink_stayed : sink_after.faults ≡ sink_before.faults

-- the line of this number was taken, and what it asks was answered in part
pub record IsLineHalfAnswered (Answers : ℕ → List ℕ → Reply → Type 0) (fields : List ℕ) (number : ℕ) (before after : List ℕ)
    (source_before source_after sink_before sink_after : Seen) (behind : List ℕ) (stop : FrameStop) : Type 0 where
  pub found : Kept
  pub taken : IsLineTaken before after source_before.bytes source_after.bytes behind found
  pub answered : ArePartlyAnswered Answers (asked_by fields (numbered_line number taken.line)) sink_before.bytes sink_after.bytes stop
  pub source_stayed : source_after.faults ≡ source_before.faults
  pub rose : stop ≡ frames.Fault → Rose sink_before.faults sink_after.faults
  pub stayed : stop ≢ frames.Fault → sink_after.faults ≡ sink_before.faults

-- there was no next line, and nothing is written
pub record IsNoLineTaken (before after : List ℕ) (source_before source_after sink_before sink_after : Seen) (stop : LineStop) : Type 0 where
  pub stopped : IsStopped before after source_before.bytes source_after.bytes stop
  pub rose : stop ≡ lines.Fault → Rose source_before.faults source_after.faults
  pub stayed : stop ≢ lines.Fault → source_after.faults ≡ source_before.faults
  pub unwritten : sink_after ≡ sink_before

-- the next line was taken and answered, or what follows the last line feed, at the end of the source; or it was answered in part, or there
-- was none
abbrev pub IsTurn : (ℕ → List ℕ → Reply → Type 0) → List ℕ → ℕ → List ℕ → List ℕ → Seen → Seen → Seen → Seen → Result Turn ListStop → Type 0
IsTurn Answers fields number before after source_before source_after sink_before sink_after (Ok (Ended whole)) =
    IsLineAnswered Answers fields number before after source_before source_after sink_before sink_after (codes "\n") whole
IsTurn Answers fields number before after source_before source_after sink_before sink_after (Ok (Last whole)) =
    IsLineAnswered Answers fields number before after source_before source_after sink_before sink_after [] whole
    × IsSpent after source_after.bytes
IsTurn Answers fields number before after source_before source_after sink_before sink_after (Err stop) =
    ((line : LineStop) × (stop ≡ line_stop line) × IsNoLineTaken before after source_before source_after sink_before sink_after line)
    ⊎ ((frame : FrameStop) × (stop ≡ frame_stop frame)
    × IsLineHalfAnswered Answers fields number before after source_before source_after sink_before sink_after (codes "\n") frame)
    ⊎ ((frame : FrameStop) × (stop ≡ frame_stop frame)
    × IsLineHalfAnswered Answers fields number before after source_before source_after sink_before sink_after [] frame
    × IsSpent after source_after.bytes)
