-- Where the cube is small enough the answer of a scan is that of `kh homology`.
use Rattle.std.proofs.Common.{◌≡◌, ℕ, ◌≤◌, inl, inr, List, length, refl, sym, subst, ◌∙◌, Result, Ok, Err, Some, arith}
use Rattle.std.specs.Prelude.{Option, false, is_none, nat_lt, IsTrue}
use Rattle.std.proofs.lemmas.Grind.{common_steps}
use Rattle.kh_types.specs.Acceptance.{accepted}
use Rattle.kh_types.specs.declared.fault.CodeFault.{CodeFault}
use Rattle.kh_types.specs.Code.{Code}
use Rattle.kh_types.specs.declared.limits.TheConstants.{INPUT_BYTES}
use Rattle.circle_smoothing.specs.GeneratorCounts.{generator_count}
use Rattle.circle_smoothing.specs.declared.limits.TheConstants.{GENERATORS}
use Rattle.word_line.specs.declared.command.Command.{Command}
use Rattle.word_line.specs.declared.command.Task.{Task}
use Rattle.word_line.specs.declared.command.Task.TheVariants as tasks
use Rattle.word_line.specs.declared.scan_command.ScanCommand.TheVariants.{Alone}
use Rattle.word_line.specs.Commands.{IsCommand}
use Rattle.word_line.specs.ScanCommands.{IsScanCommand}
use Rattle.word_line.proofs.Readings.{IsCommand-one}
use Rattle.kh_runs.specs.declared.status.Status.TheVariants.{Done}
use Rattle.kh_runs.specs.Homology.{homology_text}
use Rattle.kh_runs.specs.LimitedReplies.{IsLimitedReply}
use Rattle.kh_runs.specs.Replies.{Reply, reply_of}
use Rattle.kh_inputs.specs.DiagramReplies.{IsDiagramReply, IsOutcomeReply}
use Rattle.kh_inputs.specs.Inputs.{IsDiagramRead, IsDiagramText}
use Rattle.line_answers.specs.Scans.{IsScanAnswer, IsScanReply, IsTableReply}
use Rattle.kh_work.specs.Answer.{IsAnswer, IsCodeReply, IsInputReply}
use Rattle.kh_work.specs.Homology.{homology_reply}
use Rattle.kh_work.specs.Orders.{order_for}
use Rattle.kh_work.specs.declared.order.CodeOrder.TheVariants.{Homology}
use Rattle.kh_work.proofs.CertifyReplies.{accepted-faultless}

reply-table : (field : ℕ) (code : Code) → generator_count code ≤ GENERATORS → homology_reply field code ≡ reply_of Done (homology_text field code)
reply-table field code few =
    let short : nat_lt GENERATORS (generator_count code) ≡ false = grind (arith, common_steps) in
    rw short refl

outcome-scan : (bytes : List ℕ) (command : Command) (reply : Reply)
    → ((code : Code) → IsDiagramText bytes code → generator_count code ≤ GENERATORS) → length bytes ≤ INPUT_BYTES
    → (outcome : Result Code Reply) → IsDiagramRead bytes outcome → IsOutcomeReply (IsCodeReply (Homology command.field command.workers)) outcome reply
    → IsOutcomeReply (IsTableReply command.field) outcome reply
outcome-scan bytes command reply small few (Ok code) read answered =
    answered ∙ reply-table command.field code
    (small code (record { few_bytes = few; read = read.0; is_accepted = accepted-faultless code read.1 }))
outcome-scan bytes command reply small few (Err refusal) read answered = answered

limited-scan : (bytes : List ℕ) (command : Command) (reply : Reply)
    → ((code : Code) → IsDiagramText bytes code → generator_count code ≤ GENERATORS)
    → IsLimitedReply (Some INPUT_BYTES) bytes (IsDiagramReply (IsCodeReply (Homology command.field command.workers)) bytes) reply
    → IsScanReply command.field bytes reply
limited-scan bytes command reply small (inl long) = inl long
limited-scan bytes command reply small (inr (few, replied)) =
    inr (
      few,
      record {
        outcome = replied.outcome;
        read = replied.read;
        answered = outcome-scan bytes command reply small few replied.outcome replied.read replied.answered;
      },
    )

pub IsScanAnswer-cube : (words others : List (List ℕ)) (command : Command) (bytes : List ℕ) (reply : Reply)
    → IsScanCommand words (Alone command.field) → IsCommand others command → command.task ≡ tasks.Homology
    → ((code : Code) → IsDiagramText bytes code → generator_count code ≤ GENERATORS)
    → IsAnswer others bytes reply → IsScanAnswer words bytes reply
unfolding IsAnswer IsScanAnswer
IsScanAnswer-cube words others command bytes reply asked meant task small (inl (found, is, replied)) =
    let same : found ≡ command = IsCommand-one others found command is meant in
    let Replied : Command → Type 0 = λ command. IsInputReply (order_for command.task command) bytes reply in
    let ByTask : Task → Type 0 = λ task. IsInputReply (order_for task command) bytes reply in
    inl (command.field, asked, limited-scan bytes command reply small (subst ByTask task (subst Replied same replied)))
IsScanAnswer-cube words others command bytes reply asked meant task small (inr (none, is)) = absurd (none command meant)
