-- The reply of the command `union` to a diagram and the text of a second one.
use Rattle.std.specs.Prelude.{◌≡◌, ℕ, List, ◌++◌, codes, Result, Ok, Err}
use Rattle.kh_types.specs.Code.{Code}
use Rattle.kh_runs.specs.Replies.{Reply, reply_of}
use Rattle.kh_inputs.specs.Inputs.{IsDiagramRead}
use Rattle.kh_replies.specs.Union.{union_reply}

-- the refusal of the second code of an input: a line that says so before its own
abbrev pub second_refused : Reply → Reply
second_refused refusal = reply_of refusal.status (codes "second\n" ++ refusal.text)

-- the reply to a diagram and what a second text was read as
abbrev pub IsPairReply : Code → Result Code Reply → Reply → Type 0
IsPairReply first (Ok second) reply = reply ≡ union_reply first second
IsPairReply first (Err refusal) reply = reply ≡ second_refused refusal

-- the second text is read as a diagram, and the two are answered, or it is refused
pub record IsUnionReply (first : Code) (text : List ℕ) (reply : Reply) : Type 0 where
  pub outcome : Result Code Reply
  pub read : IsDiagramRead text outcome
  pub answered : IsPairReply first outcome reply
