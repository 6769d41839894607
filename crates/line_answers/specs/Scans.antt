-- What a run of the program of scans answers.
use Rattle.std.specs.Prelude.{◌≡◌, ◌⊎◌, ℕ, List, [], ◌∷◌, Some, codes}
use Rattle.kh_types.specs.Code.{Code}
use Rattle.kh_types.specs.declared.limits.TheConstants.{INPUT_BYTES}
use Rattle.word_line.specs.declared.scan_command.Fields.{Fields}
use Rattle.word_line.specs.declared.scan_command.Fields.TheVariants.{All, One}
use Rattle.word_line.specs.declared.scan_command.ScanCommand.TheVariants.{Alone, Each}
use Rattle.word_line.specs.ScanCommands.{IsScanCommand, IsScanUsage}
use Rattle.kh_runs.specs.declared.status.Status.TheVariants.{Done, Usage}
use Rattle.kh_inputs.specs.DiagramReplies.{IsDiagramReply}
use Rattle.kh_runs.specs.LimitedReplies.{IsLimitedReply}
use Rattle.kh_runs.specs.Replies.{Reply, reply_of}
use Rattle.kh_runs.specs.Runs.{Request}
use Rattle.kh_runs.specs.Homology.{homology_text}

-- how many elements fields have: the one that is named has so many; all four, from the smallest up
abbrev pub sizes_of : Fields → List ℕ
sizes_of (One size) = size ∷ []
sizes_of All = 2 ∷ 3 ∷ 5 ∷ 7 ∷ []

-- the words mean no command
abbrev pub scan_usage : Reply
scan_usage = reply_of Usage (codes "usage: kh-scan [each] [--field FIELD]\n")

-- the reply to the code of a diagram, over the field of so many elements: the text of its homology table, and the Jones line, however many
-- generators its cube has
abbrev pub IsTableReply : ℕ → Code → Reply → Type 0
IsTableReply field code reply = reply ≡ reply_of Done (homology_text field code)

-- the reply to bytes that are no more than a code may have: they are the text of a diagram, which is answered, or no such text, and refused
abbrev pub IsTextReply : ℕ → List ℕ → Reply → Type 0
IsTextReply field bytes reply = IsDiagramReply (IsTableReply field) bytes reply

-- the reply to the bytes of an input: they are too many, and refused for it; or this one
abbrev pub IsScanReply : ℕ → List ℕ → Reply → Type 0
IsScanReply field bytes reply = IsLimitedReply (Some INPUT_BYTES) bytes (IsTextReply field bytes) reply

-- the answer to words and to the bytes of an input: the reply over the field of the one diagram that the words ask for, and the usage line
-- where they ask for nothing
unfoldable pub IsScanAnswer : List (List ℕ) → List ℕ → Reply → Type 0
IsScanAnswer words bytes reply =
    ((field : ℕ) × IsScanCommand words (Alone field) × IsScanReply field bytes reply) ⊎ (IsScanUsage words × (reply ≡ scan_usage))

-- words ask for no list
abbrev pub AskForNoList : List (List ℕ) → Type 0
AskForNoList words = (fields : Fields) → IsScanCommand words (Each fields) → ⊥

-- words read up to a limit: they ask for one diagram, and that is the limit on the bytes of a code
pub record ReadsUpTo (words : List (List ℕ)) (limit : ℕ) : Type 0 where
  pub field : ℕ
  pub meant : IsScanCommand words (Alone field)
  pub limited : limit ≡ INPUT_BYTES

-- what words that ask for no list ask of a run: the answers to them, and what is read for them; where they mean no command, nothing is
abbrev pub request_of : List (List ℕ) → Request
request_of words = record {
  Answers = IsScanAnswer words;
  ReadsNothing = IsScanUsage words;
  ReadsUpTo = ReadsUpTo words;
  IsUsage = IsScanUsage words;
}
