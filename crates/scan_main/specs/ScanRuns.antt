-- What a run of the program of scans promises.
use Rattle.std.specs.Prelude.{◌≡◌, ◌≢◌, ℕ, ℤ, ◌-◌, ◌^◌, ◌<◌, List, ◌++◌, length, Some, Result, Ok, Err, IfOk, OnOk}
use Rattle.kh_io.specs.Faults.{Rose}
use Rattle.kh_types.specs.Code.{Code}
use Rattle.kh_types.specs.declared.limits.TheConstants.{INPUT_BYTES}
use Rattle.kh_types.specs.StateSum.{euler, polynomial_text, state_sum}
use Rattle.kh_types.specs.Table.{table, table_text}
use Rattle.kh_lex.specs.Lines.{lines_of}
use Rattle.word_line.specs.declared.command.WordStop.{WordStop}
use Rattle.word_line.specs.declared.command.WordStop.TheVariants as word_stops
use Rattle.word_line.specs.declared.scan_command.Fields.{Fields}
use Rattle.word_line.specs.declared.scan_command.ScanCommand.{ScanCommand}
use Rattle.word_line.specs.declared.scan_command.ScanCommand.TheVariants.{Alone, Each}
use Rattle.word_line.specs.ScanCommands.{IsScanCommand}
use Rattle.kh_runs.specs.declared.status.Status.{Status}
use Rattle.kh_runs.specs.declared.status.Status.TheVariants.{Done}
use Rattle.kh_inputs.specs.Inputs.{IsDiagramText}
use Rattle.kh_runs.specs.Replies.{Reply}
use Rattle.kh_runs.specs.Runs.{AnswersSource, IsRun, IsWritten}
use Rattle.kh_runs.specs.Statuses.{IsReplyStatus}
use Rattle.kh_runs.specs.declared.stop.ReplyStop.{ReplyStop}
use Rattle.kh_runs.specs.declared.stop.ReplyStop.TheVariants as stops
use Rattle.kh_runs.specs.Told.{IsReadOut, IsTaken, IsUndisturbed, Seen}
use Rattle.kh_runs.specs.Homology.{HasWrittenHomology}
use Rattle.line_answers.specs.Frames.{IsAnswerTo}
use Rattle.line_answers.specs.ListRuns.{IsListRun, WritesAnswers}
use Rattle.line_answers.specs.Questions.{Question, questions}
use Rattle.line_answers.specs.Scans.{AskForNoList, IsScanReply, IsTextReply, request_of, scan_usage, sizes_of}

-- a run with these words ended with this status; the source and the sink were as seen before and after it, and each may be the same
pub record IsScanRun (words : List (List ℕ)) (source_before source_after sink_before sink_after : Seen) (same_source same_sink : Type 0)
    (status : Status) : Type 0 where
  -- words that ask for no list have one answer
  pub one : AskForNoList words → IsRun (request_of words) source_before source_after sink_before sink_after same_source same_sink status
  -- the lines of a list are answered one by one
  pub list : (fields : Fields) → IsScanCommand words (Each fields)
      → IsListRun IsTextReply (sizes_of fields) source_before source_after sink_before sink_after status

-- a run that nothing disturbed, whose words ask for one diagram, over an input that is the text of the code of an accepted diagram, writes
-- its homology over the field that the words name
abbrev pub KeepsScanHeadline : List (List ℕ) → Seen → Seen → Seen → Seen → Status → Type 0
KeepsScanHeadline words source_before source_after sink_before sink_after status =
    (bytes : List ℕ) (field : ℕ) (code : Code) → source_before.bytes ≡ Some bytes
    → IsScanCommand words (Alone field) → IsDiagramText bytes code
    → IsUndisturbed source_before source_after sink_before sink_after status
    → HasWrittenHomology field code status sink_before.bytes sink_after.bytes

-- a reply is the homology table of a code over the field of p elements, and the Jones line of its state sum, which is the graded Euler
-- characteristic of that table, and nothing else
pub record HasHomology (p : ℕ) (code : Code) (reply : Reply) : Type 0 where
  pub status : reply.status ≡ Done
  pub text : reply.text ≡ table_text (table p code) ++ polynomial_text (state_sum code)
  pub sum : (exponent : ℤ) → state_sum code exponent ≡ euler (table p code) exponent

-- the reply to a line over a field: where the line is the text of the code of an accepted diagram, it is its homology
pub record IsTableTo (question : Question) (reply : Reply) : Type 0 where
  pub answer : IsAnswerTo IsTextReply question reply
  pub homology : (code : Code) → IsDiagramText question.line.bytes code → HasHomology question.field code reply

-- a run that nothing disturbed, whose words ask for a list over some fields, of fewer than 2^64 - 2 bytes, answers each of its lines that is
-- not blank over each of the fields, in their order, those that are texts of accepted diagrams by their homology
abbrev pub KeepsListHeadline : List (List ℕ) → Seen → Seen → Seen → Seen → Status → Type 0
KeepsListHeadline words source_before source_after sink_before sink_after status =
    (bytes : List ℕ) (fields : Fields) → source_before.bytes ≡ Some bytes → length bytes < 2 ^ 64 - 2
    → IsScanCommand words (Each fields) → IsUndisturbed source_before source_after sink_before sink_after status
    → (status ≡ Done) × WritesAnswers IsTableTo (questions (sizes_of fields) (lines_of bytes)) sink_before.bytes sink_after.bytes

-- what there is for words that give no command: the usage line where they mean none, unless memory ran out
abbrev pub IsReplyToNone : WordStop → Result Reply ReplyStop → Type 0
IsReplyToNone word_stops.Usage (Ok reply) = reply ≡ scan_usage
IsReplyToNone word_stops.Usage (Err stop) = stop ≡ stops.NoMemory
IsReplyToNone word_stops.NoMemory (Ok reply) = ⊥
IsReplyToNone word_stops.NoMemory (Err stop) = stop ≡ stops.NoMemory

-- what the reading of one input over a field has come to: a reply to all bytes of the source, or a stop
pub record IsReadOver (field : ℕ) (source_before source_after : Seen) (made : Result Reply ReplyStop) : Type 0 where
  pub answered : IfOk made (AnswersSource (IsScanReply field) source_before.bytes)
  pub status : IfOk made (λ reply. IsReplyStatus reply.status)
  pub taken : IsTaken source_before.bytes source_after.bytes
  pub read_out : OnOk made (IsReadOut INPUT_BYTES source_before.bytes source_after.bytes)
  pub fault : made ≡ Err stops.ReadFault → Rose source_before.faults source_after.faults
  pub stayed : made ≢ Err stops.ReadFault → source_after.faults ≡ source_before.faults

-- one input was read, and what this has come to is written
pub record IsAnsweredOver (field : ℕ) (source_before source_after sink_before sink_after : Seen) (same_sink : Type 0) (status : Status) : Type 0 where
  pub made : Result Reply ReplyStop
  pub read : IsReadOver field source_before source_after made
  pub written : IsWritten made sink_before sink_after same_sink status

-- what a command asks for is done: one input is answered, or a list
abbrev pub IsDoneFor : ScanCommand → Seen → Seen → Seen → Seen → Type 0 → Status → Type 0
IsDoneFor (Alone field) source_before source_after sink_before sink_after same_sink status =
    IsAnsweredOver field source_before source_after sink_before sink_after same_sink status
IsDoneFor (Each fields) source_before source_after sink_before sink_after same_sink status =
    IsListRun IsTextReply (sizes_of fields) source_before source_after sink_before sink_after status
