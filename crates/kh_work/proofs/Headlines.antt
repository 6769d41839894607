-- A run keeps the headline, since there is one answer to its words and bytes.
use Rattle.std.proofs.Common.{◌≡◌, inl, inr, ℕ, ℤ, ◌≤◌, List, length, ◌++◌, IsTrue, refl, ap, sym, subst, ◌∙◌}
use Rattle.std.specs.declared.option.Option.{Option}
use Rattle.std.specs.Io.KnownBytes.{Appends}
use Rattle.kh_types.specs.Acceptance.{accepted}
use Rattle.kh_types.specs.Code.{Code}
use Rattle.kh_types.specs.StateSum.{euler, polynomial_text, state_sum}
use Rattle.kh_types.specs.Table.{table, table_text}
use Rattle.kh_types.specs.declared.limits.TheConstants.{CROSSINGS}
use Rattle.jones_sum.proofs.CoefficientLemmas.{polynomial_text-agree}
use Rattle.euler_laws.proofs.TableSums.{sum-table}
use Rattle.word_line.specs.declared.command.Command.{Command}
use Rattle.word_line.specs.declared.command.Task.TheVariants.{Homology}
use Rattle.word_line.specs.Commands.{IsCommand}
use Rattle.word_line.specs.Values.{IsFieldSize}
use Rattle.word_line.proofs.Readings.{IsCommand-sizes}
use Rattle.kh_runs.specs.declared.status.Status.{Status}
use Rattle.kh_runs.specs.declared.status.Status.TheVariants.{Done}
use Rattle.kh_work.specs.Answer.{IsAnswer}
use Rattle.kh_runs.specs.Homology.{homology_text, jones_line}
use Rattle.kh_runs.specs.Replies.{Reply, reply_of}
use Rattle.kh_inputs.proofs.TextFaults.{few_crossings-read}
use Rattle.kh_runs.specs.Told.{Gives, Seen}
use Rattle.kh_runs.proofs.RunLemmas.{whole-undisturbed}
use Rattle.kh_runs.proofs.WrittenHomology.{written-headline}
use Rattle.kh_runs.proofs.SourceAnswers.{AnswersSource-known}
use Rattle.kh_work.specs.Runs.{IsProgramRun, IsAcceptedText, KeepsHeadline, request_of}
use Rattle.kh_work.proofs.AnswerLemmas.{IsAnswer-table}
use Rattle.kh_work.proofs.OneAnswer.{HaveOneReply-task, IsAnswer-one}

-- the Jones line of the state sum is that of the Euler characteristic
pub jones_line-euler : (field : ℕ) (code : Code) → IsFieldSize field → IsTrue (accepted code) → length code.crossings ≤ CROSSINGS
    → jones_line code ≡ polynomial_text (euler (table field code))
unfolding jones_line
jones_line-euler field code is_field is_accepted few =
    polynomial_text-agree (state_sum code) (euler (table field code)) (λ exponent within. sum-table field code is_field is_accepted few exponent)

-- the answer to such a text is the table and the Jones line
headline-answer : (words : List (List ℕ)) (bytes : List ℕ) (command : Command) (code : Code) (reply : Reply)
    → IsCommand words command → command.task ≡ Homology → IsAcceptedText bytes code → IsAnswer words bytes reply
    → reply ≡ reply_of Done (homology_text command.field code)
unfolding homology_text
headline-answer words bytes command code reply is_command is_homology text is_answer =
    IsAnswer-one words bytes reply (reply_of Done (table_text (table command.field code) ++ jones_line code))
    (HaveOneReply-task words command Homology is_command is_homology (λ same. cc)) is_answer
    (IsAnswer-table words bytes command code is_command is_homology text.diagram.few_bytes text.diagram.read text.diagram.is_accepted text.few_generators)

pub headline-run : (words : List (List ℕ)) (source_before source_after sink_before sink_after : Seen)
    (same_source same_sink : Type 0) (status : Status)
    → IsProgramRun words source_before source_after sink_before sink_after same_source same_sink status
    → KeepsHeadline words source_before source_after sink_before sink_after status
headline-run words source_before source_after sink_before sink_after same_source same_sink status is_run
    bytes command code is_bytes is_command is_homology text undisturbed =
    let whole = whole-undisturbed (request_of words) source_before source_after sink_before sink_after same_source same_sink status is_run undisturbed in
    let told = is_run.answered whole in
    let answer = AnswersSource-known (IsAnswer words) source_before.bytes bytes told.0 is_bytes told.1 in
    written-headline status sink_before.bytes sink_after.bytes command.field code told.0
    (sum-table command.field code (IsCommand-sizes words command is_command).0 text.diagram.is_accepted
    (few_crossings-read bytes code text.diagram.read))
    (headline-answer words bytes command code told.0 is_command is_homology text answer) told.2
