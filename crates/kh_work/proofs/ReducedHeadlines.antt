-- A run on `reduced` writes the reduced table, since there is one answer to its words and bytes.
use Rattle.std.proofs.Common.{◌≡◌, ℕ, ◌≤◌, List, length, ◌++◌, true, IsTrue, refl, ap, subst, ◌∙◌, Some}
use Rattle.std.specs.declared.option.Option.{Option}
use Rattle.std.specs.Io.KnownBytes.{Appends}
use Rattle.kh_types.specs.Acceptance.{accepted}
use Rattle.kh_types.specs.Code.{Code}
use Rattle.kh_types.specs.StateSum.{polynomial_text, state_sum}
use Rattle.kh_types.specs.Table.{table_text}
use Rattle.kh_types.specs.declared.limits.TheConstants.{CROSSINGS}
use Rattle.reduced_cube.specs.Reduced.{is_mark, reduced_table}
use Rattle.reduced_cube.proofs.MarkLemmas.{IsName-mark}
use Rattle.reduced_cube.proofs.ReducedSums.{euler-product}
use Rattle.word_line.specs.declared.command.Command.{Command}
use Rattle.word_line.specs.declared.command.Task.TheVariants.{Reduced}
use Rattle.word_line.specs.Commands.{IsCommand}
use Rattle.word_line.specs.Values.{IsFieldSize}
use Rattle.word_line.proofs.Readings.{IsCommand-sizes}
use Rattle.kh_runs.specs.declared.status.Status.{Status}
use Rattle.kh_runs.specs.declared.status.Status.TheVariants.{Done}
use Rattle.kh_runs.specs.Homology.{jones_line}
use Rattle.kh_runs.specs.Replies.{Reply, reply_of}
use Rattle.kh_inputs.proofs.TextFaults.{few_crossings-read}
use Rattle.kh_work.specs.Answer.{IsAnswer}
use Rattle.kh_work.specs.Reduced.{mark_line}
use Rattle.kh_runs.specs.Told.{Gives, Seen}
use Rattle.kh_runs.proofs.RunLemmas.{whole-undisturbed}
use Rattle.kh_runs.proofs.SourceAnswers.{AnswersSource-known}
use Rattle.kh_work.specs.Runs.{IsProgramRun, IsAcceptedText, HasWrittenReduced, KeepsReduced, request_of}
use Rattle.prime_field.specs.SmallFields.{field-small_prime}
use Rattle.kh_work.proofs.OneAnswer.{HaveOneReply-task, IsAnswer-one}
use Rattle.kh_work.proofs.ReducedAnswers.{IsAnswer-reduced}

-- the line of the mark, the text of the table and the Jones line
abbrev marked_text : ℕ → ℕ → Code → List ℕ
marked_text field mark code = mark_line mark ++ (table_text (reduced_table field code mark) ++ polynomial_text (state_sum code))

jones_line-marked : (field mark : ℕ) (code : Code)
    → reply_of Done (mark_line mark ++ (table_text (reduced_table field code mark) ++ jones_line code))
    ≡ reply_of Done (marked_text field mark code)
unfolding jones_line
jones_line-marked field mark code = refl

-- the answer to such a text is this text
reduced-answer : (words : List (List ℕ)) (bytes : List ℕ) (command : Command) (mark : ℕ) (code : Code) (reply : Reply)
    → IsCommand words command → command.task ≡ Reduced → command.mark ≡ Some mark → IsAcceptedText bytes code → is_mark code mark ≡ true
    → IsAnswer words bytes reply → reply ≡ reply_of Done (marked_text command.field mark code)
reduced-answer words bytes command mark code reply is_command is_reduced is_given text marked is_answer =
    IsAnswer-one words bytes reply
    (reply_of Done (mark_line mark ++ (table_text (reduced_table command.field code mark) ++ jones_line code)))
    (HaveOneReply-task words command Reduced is_command is_reduced (λ same. cc)) is_answer
    (IsAnswer-reduced words bytes command mark code is_command is_reduced is_given text.diagram.few_bytes text.diagram.read text.diagram.is_accepted marked
    text.few_generators)
    ∙ jones_line-marked command.field mark code

-- what a run has written is this text
written-reduced : (status : Status) (before after : Option (List ℕ)) (field mark : ℕ) (code : Code) (reply : Reply)
    → IsFieldSize field → IsTrue (accepted code) → length code.crossings ≤ CROSSINGS → is_mark code mark ≡ true
    → reply ≡ reply_of Done (marked_text field mark code)
    → Gives reply status before after → HasWrittenReduced field mark code status before after
written-reduced status before after field mark code reply is_field is_accepted few marked is_reply gives =
    record {
      status = gives.status ∙ ap (λ (r : Reply). r.status) is_reply;
      written = subst (λ (text : List ℕ). Appends before after text) (ap (λ (r : Reply). r.text) is_reply) gives.written;
      sum = λ exponent. euler-product field code mark exponent (field-small_prime field is_field) is_accepted few
          (IsName-mark code mark marked);
    }

pub reduced-run : (words : List (List ℕ)) (source_before source_after sink_before sink_after : Seen)
    (same_source same_sink : Type 0) (status : Status)
    → IsProgramRun words source_before source_after sink_before sink_after same_source same_sink status
    → KeepsReduced words source_before source_after sink_before sink_after status
reduced-run words source_before source_after sink_before sink_after same_source same_sink status is_run
    bytes command mark code is_bytes is_command is_reduced is_given text marked undisturbed =
    let whole = whole-undisturbed (request_of words) source_before source_after sink_before sink_after same_source same_sink status is_run undisturbed in
    let told = is_run.answered whole in
    let answer = AnswersSource-known (IsAnswer words) source_before.bytes bytes told.0 is_bytes told.1 in
    written-reduced status sink_before.bytes sink_after.bytes command.field mark code told.0 (IsCommand-sizes words command is_command).0
    text.diagram.is_accepted (few_crossings-read bytes code text.diagram.read) marked
    (reduced-answer words bytes command mark code told.0 is_command is_reduced is_given text marked answer) told.2
