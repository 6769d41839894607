-- The cases of an answer to one diagram, in their order: words without a command get the usage line, too many bytes the limit, a text that
-- is no code and a code with a fault their refusal, and the text of an accepted diagram its table.
use Rattle.std.proofs.Common.{◌≡◌, ◌<◌, ◌≤◌, inl, inr, ℕ, List, ◌++◌, length, refl, Result, Ok, Err, Some}
use Rattle.kh_types.specs.Acceptance.{first_fault}
use Rattle.kh_types.specs.Code.{Code}
use Rattle.kh_types.specs.Table.{table, table_text}
use Rattle.kh_types.specs.declared.fault.CodeFault.{CodeFault}
use Rattle.kh_types.specs.declared.limits.TheConstants.{INPUT_BYTES}
use Rattle.word_line.specs.declared.scan_command.ScanCommand.TheVariants.{Alone}
use Rattle.word_line.specs.ScanCommands.{IsScanCommand, IsScanUsage}
use Rattle.kh_runs.specs.declared.status.Status.TheVariants.{Done}
use Rattle.kh_inputs.specs.Inputs.{IsCodeRead, IsDiagramRead, IsDiagramText}
use Rattle.kh_runs.specs.Homology.{jones_line, homology_text}
use Rattle.kh_inputs.specs.CodeRefusals.{IsFaultRefusal}
use Rattle.kh_runs.specs.Refusals.{too_many_bytes}
use Rattle.kh_runs.specs.Replies.{Reply, reply_of}
use Rattle.line_answers.specs.Scans.{IsScanAnswer, scan_usage}
use Rattle.scan_main.proofs.ScanAnswers.{table-reply}
use Rattle.scan_main.proofs.ScanRuns.{IsScanAnswer-command}

pub IsScanAnswer-usage : (words : List (List ℕ)) (bytes : List ℕ) → IsScanUsage words → IsScanAnswer words bytes scan_usage
unfolding IsScanAnswer
IsScanAnswer-usage words bytes none = inr (none, refl)

pub IsScanAnswer-many_bytes : (words : List (List ℕ)) (bytes : List ℕ) (field : ℕ) → IsScanCommand words (Alone field)
    → INPUT_BYTES < length bytes → IsScanAnswer words bytes (too_many_bytes INPUT_BYTES)
IsScanAnswer-many_bytes words bytes field meant many =
    IsScanAnswer-command words bytes field (too_many_bytes INPUT_BYTES) meant (inl (many, refl))

answer-refused : (words : List (List ℕ)) (bytes : List ℕ) (field : ℕ) (refusal : Reply) → IsScanCommand words (Alone field)
    → length bytes ≤ INPUT_BYTES → IsDiagramRead bytes (Err refusal) → IsScanAnswer words bytes refusal
answer-refused words bytes field refusal meant few refused =
    IsScanAnswer-command words bytes field refusal meant (inr (few, record { outcome = Err refusal; read = refused; answered = refl }))

pub IsScanAnswer-unread : (words : List (List ℕ)) (bytes : List ℕ) (field : ℕ) (refusal : Reply) → IsScanCommand words (Alone field)
    → length bytes ≤ INPUT_BYTES → IsCodeRead bytes (Err refusal) → IsScanAnswer words bytes refusal
IsScanAnswer-unread words bytes field refusal meant few refused = answer-refused words bytes field refusal meant few (inl refused)

pub IsScanAnswer-faulty : (words : List (List ℕ)) (bytes : List ℕ) (field : ℕ) (code : Code) (fault : CodeFault) (refusal : Reply)
    → IsScanCommand words (Alone field) → length bytes ≤ INPUT_BYTES → IsCodeRead bytes (Ok code) → first_fault code ≡ Some fault
    → IsFaultRefusal fault refusal → IsScanAnswer words bytes refusal
IsScanAnswer-faulty words bytes field code fault refusal meant few read breaks line =
    answer-refused words bytes field refusal meant few
    (inr (record { code = code; fault = fault; read = read; breaks = breaks; line = line }))

pub IsScanAnswer-table : (words : List (List ℕ)) (bytes : List ℕ) (field : ℕ) (code : Code) → IsScanCommand words (Alone field)
    → IsDiagramText bytes code → IsScanAnswer words bytes (reply_of Done (table_text (table field code) ++ jones_line code))
unfolding homology_text
IsScanAnswer-table words bytes field code meant text =
    IsScanAnswer-command words bytes field (reply_of Done (table_text (table field code) ++ jones_line code)) meant
    (table-reply bytes field code text)
