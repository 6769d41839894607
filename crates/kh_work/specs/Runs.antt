-- The promises of a run of `kh`.
use Rattle.std.specs.Prelude.{◌≡◌, ℕ, ℤ, pos, ◌+ℤ◌, ◌-ℤ◌, ◌≤◌, List, ◌++◌, Some, true}
use Rattle.std.specs.declared.option.Option.{Option}
use Rattle.std.specs.Io.KnownBytes.{Appends}
use Rattle.kh_types.specs.Code.{Code}
use Rattle.kh_types.specs.StateSum.{euler, polynomial_text, state_sum}
use Rattle.kh_types.specs.Table.{table, table_text}
use Rattle.circle_smoothing.specs.GeneratorCounts.{generator_count}
use Rattle.circle_smoothing.specs.declared.limits.TheConstants.{GENERATORS}
use Rattle.reduced_cube.specs.Reduced.{is_mark, reduced_table}
use Rattle.word_line.specs.declared.command.Command.{Command}
use Rattle.word_line.specs.declared.command.Task.TheVariants.{Homology, Reduced}
use Rattle.word_line.specs.Commands.{IsCommand, IsUsage}
use Rattle.kh_runs.specs.declared.status.Status.{Status}
use Rattle.kh_runs.specs.declared.status.Status.TheVariants.{Done}
use Rattle.kh_inputs.specs.Inputs.{IsDiagramText}
use Rattle.kh_runs.specs.Homology.{HasWrittenHomology}
use Rattle.kh_runs.specs.Replies.{Reply}
use Rattle.kh_runs.specs.Runs.{IsBlind, IsRun, Request}
use Rattle.kh_runs.specs.Told.{IsUndisturbed, Seen}
use Rattle.kh_work.specs.Answer.{IsAnswer, ReadsNothing, ReadsUpTo}
use Rattle.kh_work.specs.Reduced.{mark_line}

-- a reply is the answer to words, whatever the bytes of the input are
abbrev pub IsBlindAnswer : List (List ℕ) → Reply → Type 0
IsBlindAnswer words reply = IsBlind (IsAnswer words) reply

-- what words ask of a run: the answers to them, and what is read for them
abbrev pub request_of : List (List ℕ) → Request
request_of words = record {
  Answers = IsAnswer words;
  ReadsNothing = ReadsNothing words;
  ReadsUpTo = ReadsUpTo words;
  IsUsage = IsUsage words;
}

-- a run with these words ended with this status; the source and the sink were as seen before and after it, and each may be the same
abbrev pub IsProgramRun : List (List ℕ) → Seen → Seen → Seen → Seen → Type 0 → Type 0 → Status → Type 0
IsProgramRun words source_before source_after sink_before sink_after same_source same_sink status =
    IsRun (request_of words) source_before source_after sink_before sink_after same_source same_sink status

-- the bytes of an input are the text of the code of an accepted diagram within the limits
pub record IsAcceptedText (bytes : List ℕ) (code : Code) : Type 0 where
  pub diagram : IsDiagramText bytes code
  pub few_generators : generator_count code ≤ GENERATORS

-- a run that nothing disturbed, whose words mean `homology`, over an input that is the text of the code of an accepted diagram within
-- the limits, writes its homology over the field that the command has
abbrev pub KeepsHeadline : List (List ℕ) → Seen → Seen → Seen → Seen → Status → Type 0
KeepsHeadline words source_before source_after sink_before sink_after status =
    (bytes : List ℕ) (command : Command) (code : Code) → source_before.bytes ≡ Some bytes → IsCommand words command
    → command.task ≡ Homology → IsAcceptedText bytes code → IsUndisturbed source_before source_after sink_before sink_after status
    → HasWrittenHomology command.field code status sink_before.bytes sink_after.bytes

-- a run has ended as done, and a sink has gained the line of a mark, the reduced homology table of a code at it over the field of p
-- elements and the Jones line of the code's state sum, and nothing else; (q + q^-1) times the graded Euler characteristic of that table
-- is that state sum
pub record HasWrittenReduced (p mark : ℕ) (code : Code) (ended : Status) (before after : Option (List ℕ)) : Type 0 where
  pub status : ended ≡ Done
  pub written : Appends before after
      (mark_line mark ++ (table_text (reduced_table p code mark) ++ polynomial_text (state_sum code)))
  pub sum : (exponent : ℤ)
      → euler (reduced_table p code mark) (exponent -ℤ pos 1) +ℤ euler (reduced_table p code mark) (exponent +ℤ pos 1)
      ≡ state_sum code exponent

-- a run that nothing disturbed, whose words mean `reduced` at an arc or a loop of the accepted diagram within the limits whose text the
-- input is, writes its reduced homology there, over the field that the command has
abbrev pub KeepsReduced : List (List ℕ) → Seen → Seen → Seen → Seen → Status → Type 0
KeepsReduced words source_before source_after sink_before sink_after status =
    (bytes : List ℕ) (command : Command) (mark : ℕ) (code : Code) → source_before.bytes ≡ Some bytes → IsCommand words command
    → command.task ≡ Reduced → command.mark ≡ Some mark → IsAcceptedText bytes code → is_mark code mark ≡ true
    → IsUndisturbed source_before source_after sink_before sink_after status
    → HasWrittenReduced command.field mark code status sink_before.bytes sink_after.bytes
