-- The reply of the command `verify` to the text of a log of cancellations.
use Rattle.std.specs.Prelude.{◌≡◌, ℕ, List, ◌++◌, codes, Result, Ok, Err}
use Rattle.kh_types.specs.Table.{Table, table_text}
use Rattle.cancel_log.specs.Verdicts.{IsVerdict}
use Rattle.cancel_log.specs.declared.cause.LogCause.{LogCause}
use Rattle.cancel_log.specs.declared.cause.LogCause.TheVariants as causes
use Rattle.cancel_log.specs.declared.stop.LogStop.{LogStop}
use Rattle.cancel_log.specs.declared.stop.LogStop.TheVariants.{Line, SizeLimit, NoMemory}
use Rattle.kh_runs.specs.declared.status.Status.TheVariants.{Done}
use Rattle.kh_runs.specs.Replies.{Reply, reply_of}
use Rattle.kh_runs.specs.Refusals.{refused_log_line}
use Rattle.kh_replies.specs.Limits.{too_many_generators}

-- the word of a cause
abbrev pub cause_word : LogCause → List ℕ
cause_word causes.Text = codes "text"
cause_word causes.Diagram = codes "diagram"
cause_word causes.Block = codes "block"
cause_word causes.Entry = codes "entry"
cause_word causes.Open = codes "open"
cause_word causes.Table = codes "table"

-- the line that a log is verified, and the text of the table that it proves
abbrev pub verified_text : Table → List ℕ
verified_text homology = codes "verified\n" ++ table_text homology

-- the reply to what a log comes to
abbrev pub IsVerdictReply : Result Table LogStop → Reply → Type 0
IsVerdictReply (Ok homology) reply = reply ≡ reply_of Done (verified_text homology)
IsVerdictReply (Err (Line line cause)) reply = reply ≡ refused_log_line line (cause_word cause)
IsVerdictReply (Err (SizeLimit generators)) reply = reply ≡ too_many_generators generators
IsVerdictReply (Err NoMemory) reply = ⊥

-- the text of a log comes to something, and that is told
pub record IsVerifyReply (text : List ℕ) (reply : Reply) : Type 0 where
  pub verdict : Result Table LogStop
  pub reached : IsVerdict text verdict
  pub answered : IsVerdictReply verdict reply
