-- There is exactly one answer to all words and all bytes.
use Rattle.std.proofs.Common.{◌≡◌, ℕ, ◌≤◌, ◌⊎◌, inl, inr, List, length, refl, sym, ap, subst, ◌∙◌, Result, Ok, Err, None, Some, arith}
use Rattle.std.specs.Prelude.{Option, false, is_none, nat_lt, IsTrue}
use Rattle.std.proofs.lemmas.Grind.{common_steps}
use Rattle.kh_types.specs.Acceptance.{accepted, first_fault}
use Rattle.kh_types.specs.Code.{Code}
use Rattle.kh_types.specs.declared.limits.TheConstants.{INPUT_BYTES}
use Rattle.word_line.specs.declared.scan_command.ScanCommand.{ScanCommand}
use Rattle.word_line.specs.declared.scan_command.ScanCommand.TheVariants.{Alone, Each}
use Rattle.word_line.specs.declared.scan_command.Fields.{Fields}
use Rattle.word_line.specs.declared.scan_command.Fields.TheVariants as fields
use Rattle.word_line.specs.ScanCommands.{IsScanCommand, IsScanUsage}
use Rattle.word_line.specs.Values.{IsFieldSize}
use Rattle.word_line.proofs.ScanReadings.{IsScanCommand-decided, IsScanCommand-one, IsScanCommand-sizes}
use Rattle.kh_runs.specs.declared.status.Status.TheVariants.{Done}
use Rattle.kh_inputs.specs.DiagramReplies.{IsDiagramReply, IsOutcomeReply}
use Rattle.kh_inputs.specs.Inputs.{IsDiagramRead, IsDiagramText}
use Rattle.kh_runs.specs.Replies.{Reply, reply_of}
use Rattle.kh_inputs.proofs.DiagramReadings.{IsDiagramReply-one, IsDiagramReply-some, first_fault-accepted}
use Rattle.kh_runs.proofs.LimitedAnswers.{IsLimitedReply-one, IsLimitedReply-some}
use Rattle.kh_runs.specs.Homology.{homology_text}
use Rattle.line_answers.specs.Scans.{AskForNoList, IsScanAnswer, IsScanReply, IsTableReply, scan_usage}

same_table : (field : ℕ) (code : Code) (a b : Reply) → IsTableReply field code a → IsTableReply field code b → a ≡ b
same_table field code a b is_a is_b = is_a ∙ sym is_b

IsScanReply-some : (field : ℕ) (bytes : List ℕ) → (reply : Reply) × IsScanReply field bytes reply
IsScanReply-some field bytes =
    IsLimitedReply-some (Some INPUT_BYTES) bytes (IsDiagramReply (IsTableReply field) bytes)
    (IsDiagramReply-some (IsTableReply field) (λ code. (reply_of Done (homology_text field code), refl)) bytes)

pub IsScanReply-one : (field : ℕ) (bytes : List ℕ) (a b : Reply) → IsScanReply field bytes a → IsScanReply field bytes b → a ≡ b
IsScanReply-one field bytes a b =
    IsLimitedReply-one (Some INPUT_BYTES) bytes (IsDiagramReply (IsTableReply field) bytes) a b
    (IsDiagramReply-one (IsTableReply field) (same_table field) bytes a b)

pub IsScanAnswer-some : (words : List (List ℕ)) (bytes : List ℕ) → AskForNoList words → (reply : Reply) × IsScanAnswer words bytes reply
unfolding IsScanAnswer
IsScanAnswer-some words bytes no_list = answered (IsScanCommand-decided words)
  where
    answered : ((command : ScanCommand) × IsScanCommand words command) ⊎ IsScanUsage words → (reply : Reply) × IsScanAnswer words bytes reply
    answered (inl (Alone field, is)) = let reply = IsScanReply-some field bytes in (reply.0, inl (field, is, reply.1))
    answered (inl (Each given, is)) = absurd (no_list given is)
    answered (inr none) = (scan_usage, inr (none, refl))

-- the field of a command
abbrev field_of : ScanCommand → ℕ
field_of (Alone field) = field
field_of (Each given) = 0

pub IsScanAnswer-one : (words : List (List ℕ)) (bytes : List ℕ) (a b : Reply) → IsScanAnswer words bytes a → IsScanAnswer words bytes b → a ≡ b
unfolding IsScanAnswer
IsScanAnswer-one words bytes a b (inl (x, is_x, is_a)) (inl (y, is_y, is_b)) =
    let same : x ≡ y = ap field_of (IsScanCommand-one words (Alone x) (Alone y) is_x is_y) in
    IsScanReply-one y bytes a b (subst (λ (field : ℕ). IsScanReply field bytes a) same is_a) is_b
IsScanAnswer-one words bytes a b (inl (x, is_x, is_a)) (inr is_b) = absurd (is_b.0 (Alone x) is_x)
IsScanAnswer-one words bytes a b (inr is_a) (inl (y, is_y, is_b)) = absurd (is_a.0 (Alone y) is_y)
IsScanAnswer-one words bytes a b (inr is_a) (inr is_b) = is_a.1 ∙ sym is_b.1

-- words do not ask for one diagram and for a list
pub alone-or-each : (words : List (List ℕ)) (field : ℕ) (given : Fields) → IsScanCommand words (Alone field) → IsScanCommand words (Each given) → ⊥
alone-or-each words field given alone each =
    let same = IsScanCommand-one words (Alone field) (Each given) alone each in absurd (cc)

-- the fields of a command
abbrev fields_of : ScanCommand → Fields
fields_of (Alone field) = fields.All
fields_of (Each given) = given

-- words ask for a list over one choice of fields
pub same-fields : (words : List (List ℕ)) (first second : Fields) → IsScanCommand words (Each first) → IsScanCommand words (Each second) → first ≡ second
same-fields words first second is_first is_second = ap fields_of (IsScanCommand-one words (Each first) (Each second) is_first is_second)

-- the field that words name is one of the four
pub IsScanCommand-size : (words : List (List ℕ)) (field : ℕ) → IsScanCommand words (Alone field) → IsFieldSize field
IsScanCommand-size words field meant = IsScanCommand-sizes words (Alone field) meant

-- the reply to the text of an accepted diagram
pub table-reply : (bytes : List ℕ) (field : ℕ) (code : Code) → IsDiagramText bytes code
    → IsScanReply field bytes (reply_of Done (homology_text field code))
table-reply bytes field code text =
    inr (
      text.few_bytes,
      record {
        outcome = Ok code;
        read = (text.read, first_fault-accepted code text.is_accepted);
        answered = refl;
      },
    )
