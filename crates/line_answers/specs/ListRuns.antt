-- What a run over a list of codes reads and writes.
use Rattle.std.specs.Prelude.{◌≡◌, ◌≢◌, ◌⊎◌, ℕ, ◌-◌, ◌^◌, ◌≤◌, Bool, true, false, List, [], ◌++◌, length, take, Option, Result, Ok, Err}
use Rattle.std.specs.List.{AllByRecursion, flat_map}
use Rattle.std.specs.Io.KnownBytes.{Appends, Consumes, IsAtEnd}
use Rattle.kh_io.specs.Faults.{Rose}
use Rattle.kh_lex.specs.Lines.{CutsLines, HasNoLineFeed, with_feed}
use Rattle.line_reader.specs.declared.reading.LineStop.{LineStop}
use Rattle.line_reader.specs.declared.reading.LineStop.TheVariants as lines
use Rattle.kh_runs.specs.Replies.{Reply}
use Rattle.kh_runs.specs.Told.{Seen}
use Rattle.kh_runs.specs.declared.status.Status.{Status}
use Rattle.kh_runs.specs.declared.status.Status.TheVariants.{Done, Limit, ReadFault, WriteFault, NoMemory}
use Rattle.line_answers.specs.declared.frame.FrameStop.{FrameStop}
use Rattle.line_answers.specs.declared.frame.FrameStop.TheVariants as frames
use Rattle.line_answers.specs.declared.stop.ListStop.{ListStop}
use Rattle.line_answers.specs.declared.stop.ListStop.TheVariants as stops
use Rattle.line_answers.specs.Frames.{AreFrames, IsAnswerOrNone, IsAnswerTo, first_line}
use Rattle.line_answers.specs.Questions.{Question, questions}

-- the status with which a list ends
abbrev pub stop_status : ListStop → Status
stop_status stops.ReadFault = ReadFault
stop_status stops.WriteFault = WriteFault
stop_status stops.Limit = Limit
stop_status stops.NoMemory = NoMemory

-- the status of an outcome
abbrev pub status_of : Result (Unit {0}) ListStop → Status
status_of (Ok _) = Done
status_of (Err stop) = stop_status stop

-- the status with which a list ends that was read to its end, by whether there was memory for each reply
abbrev pub end_status : Bool → Status
end_status true = Done
end_status false = NoMemory

-- the stop of a list where there is no next line
abbrev pub line_stop : LineStop → ListStop
line_stop lines.Fault = stops.ReadFault
line_stop lines.Limit = stops.Limit
line_stop lines.NoMemory = stops.NoMemory

-- the stop of a list where a frame is not written
abbrev pub frame_stop : FrameStop → ListStop
frame_stop frames.Fault = stops.WriteFault
frame_stop frames.NoMemory = stops.NoMemory

-- lines are those of a text that a line feed ends
pub record EndsLines (text : List ℕ) (lines : List (List ℕ)) : Type 0 where
  pub rest : List ℕ
  pub parts : text ≡ flat_map with_feed lines ++ rest
  pub whole : AllByRecursion HasNoLineFeed lines
  pub no_more : HasNoLineFeed rest

-- lines were read whole: a line feed ends each of them, or the source is at its end, and they are all lines
abbrev pub AreRead : Option (List ℕ) → List ℕ → List (List ℕ) → Type 0
AreRead left taken lines = EndsLines taken lines ⊎ (IsAtEnd left × CutsLines taken lines)

-- a sink has gained the first line, and the frames of answers to these questions
pub record WritesAnswers (Answers : Question → Reply → Type 0) (asked : List Question) (before after : Option (List ℕ)) : Type 0 where
  pub text : List ℕ
  pub frames : AreFrames Answers asked text
  pub written : Appends before after (first_line ++ text)

-- a sink has gained a prefix of this
pub record WritesPrefix (Answers : Question → Reply → Type 0) (asked : List Question) (before after : Option (List ℕ)) : Type 0 where
  pub text : List ℕ
  pub frames : AreFrames Answers asked text
  pub count : ℕ
  pub written : Appends before after (take count (first_line ++ text))

-- a run over a list, whose lines are answered over these fields, ended with this status; the source and the sink were as seen before and
-- after it
pub record IsListRun (Answers : ℕ → List ℕ → Reply → Type 0) (fields : List ℕ) (source_before source_after sink_before sink_after : Seen)
    (status : Status) : Type 0 where
  -- these bytes were taken of the source, and with them these lines were read whole
  pub taken : List ℕ
  pub consumed : Consumes source_before.bytes source_after.bytes taken
  pub lines : List (List ℕ)
  pub read : AreRead source_after.bytes taken lines
  -- it ended as done at the end of the source, and all its lines are answered
  pub done : status ≡ Done → IsAtEnd source_after.bytes × CutsLines taken lines
      × WritesAnswers (IsAnswerTo Answers) (questions fields lines) sink_before.bytes sink_after.bytes
  -- on a fault of reading all lines that a line feed ended in what was taken have a frame, of an answer or for want of memory
  pub read_fault : status ≡ ReadFault → Rose source_before.faults source_after.faults × EndsLines taken lines
      × WritesAnswers (IsAnswerOrNone Answers) (questions fields lines) sink_before.bytes sink_after.bytes
  pub write_fault : status ≡ WriteFault → Rose sink_before.faults sink_after.faults
  -- whatever the status is, a prefix of such frames is written
  pub begun : WritesPrefix (IsAnswerOrNone Answers) (questions fields lines) sink_before.bytes sink_after.bytes
  -- out of memory nothing is written, or whole frames of the first questions, or of all, where it was wanting for some of them
  pub memory : status ≡ NoMemory → Appends sink_before.bytes sink_after.bytes [] ⊎ ((count : ℕ)
      × WritesAnswers (IsAnswerOrNone Answers) (take count (questions fields lines)) sink_before.bytes sink_after.bytes)
  -- a list of fewer bytes than stand here has no limit; beyond it whole frames of the first questions are written
  pub limit : status ≡ Limit → (2 ^ 64 - 2 ≤ length taken) × ((count : ℕ)
      × WritesAnswers (IsAnswerOrNone Answers) (take count (questions fields lines)) sink_before.bytes sink_after.bytes)
  -- there is no other end, and without a fault no count has risen
  pub ended : (status ≡ Done) ⊎ (status ≡ ReadFault) ⊎ (status ≡ WriteFault) ⊎ (status ≡ Limit) ⊎ (status ≡ NoMemory)
  pub quiet_source : status ≢ ReadFault → source_after.faults ≡ source_before.faults
  pub quiet_sink : status ≢ WriteFault → sink_after.faults ≡ sink_before.faults
